-- The texts of fields and of methods.
use Rattle.std.proofs.Common.{◌≡◌, refl, ap, sym, ◌∙◌, true≢false, ℕ, Bool, true, false, not, ◌==◌, if◌then◌else◌, List, [], ◌∷◌, ◌++◌, append_assoc, codes, map, drop}
use Rattle.gno_terms.specs.declared.term.GoType.{GoType}
use Rattle.gno_terms.specs.declared.term.TermOf.{TermOf}
use Rattle.gno_terms.specs.declared.term.TermOf.TheVariants as t
use Rattle.gno_terms.specs.declared.term.FieldOf.{FieldOf}
use Rattle.gno_terms.specs.declared.term.MethodOf.{MethodOf}
use Rattle.gno_terms.specs.Lawful.{Each, is_function}
use Rattle.gno_terms.specs.Terms.{term_of, field_with, method_with}
use Rattle.gno_terms.specs.Texts.{joined, member_text, field_text, method_text, term_text, type_text}
use Rattle.gno_terms.proofs.Words.{begins, begins-append, same_word}
use Rattle.gno_terms.proofs.Bytes.{in_member}
use Rattle.gno_terms.proofs.Joined.{Reads, same_joined}
use Rattle.gno_terms.proofs.Members.{all_member, member_begins, same_member}
use Rattle.gno_terms.proofs.Plain.{Plain, IsMember, IsPlainField, IsPlainMethod}
use Rattle.gno_terms.proofs.Shapes.{texts}
use Rattle.gno_terms.proofs.Openings.{other_byte, text_of}

-- members before what is of no member are the same
member_front : (name path name₂ path₂ r q : List ℕ) → IsMember name path → IsMember name₂ path₂ → begins in_member r ≡ false → begins in_member q ≡ false
    → member_text name path ++ r ≡ member_text name₂ path₂ ++ q → (name ≡ name₂) × (path ≡ path₂) × (r ≡ q)
member_front name path name₂ path₂ r q h k c d e =
    let word = same_word in_member (member_text name path) (member_text name₂ path₂) r q (all_member name path h.0 h.1) (all_member name₂ path₂ k.0 k.1) (ap not c) (ap not d) e in
    let same = same_member name path name₂ path₂ h.0 k.0 word.0 in
    (same.0, same.1, word.1)

member_not : (c : ℕ) → in_member c ≡ false → (name path r : List ℕ) → IsMember name path → begins (λ b. b == c) (member_text name path ++ r) ≡ false
member_not c f name path r h = other_byte in_member c (member_text name path ++ r) (begins-append in_member (member_text name path) r (member_begins name path h.0 h.1)) f

abbrev pub text_of_field : FieldOf GoType → List ℕ
text_of_field f = field_text (field_with type_text f)

abbrev pub PlainField : FieldOf GoType → Type 0
PlainField f = IsPlainField f × Plain f.of

-- behind the mark of an embedded field
abbrev named : FieldOf GoType → List ℕ → List ℕ
named f r = member_text f.name f.«package» ++ (32 ∷ (type_text f.of ++ r))

abbrev field_front : Bool → List ℕ → List ℕ
field_front embedded r = if embedded then 33 ∷ r else r

field_parts : (f : FieldOf GoType) (r : List ℕ) → text_of_field f ++ r ≡ field_front f.embedded (named f r)
field_parts f r = at f.embedded
  where
    at : (b : Bool) → ((if b then codes "!" else []) ++ (member_text f.name f.«package» ++ (codes " " ++ type_text f.of))) ++ r ≡ field_front b (named f r)
    at true = ap (λ l. 33 ∷ l) (append_assoc (member_text f.name f.«package») (codes " " ++ type_text f.of) r)
    at false = append_assoc (member_text f.name f.«package») (codes " " ++ type_text f.of) r

same_front : (a b : Bool) (f g : FieldOf GoType) (r q : List ℕ) → PlainField f → PlainField g → field_front a (named f r) ≡ field_front b (named g q) → (a ≡ b) × (named f r ≡ named g q)
same_front true true f g r q h k e = (refl, ap (drop 1) e)
same_front false false f g r q h k e = (refl, e)
same_front true false f g r q h k e = absurd (true≢false (ap (begins (λ b. b == 33)) e ∙ member_not 33 refl g.name g.«package» (32 ∷ (type_text g.of ++ q)) k.0))
same_front false true f g r q h k e = absurd (true≢false (ap (begins (λ b. b == 33)) (sym e) ∙ member_not 33 refl f.name f.«package» (32 ∷ (type_text f.of ++ r)) h.0))

same_field : (f g : FieldOf GoType) → f.name ≡ g.name → f.«package» ≡ g.«package» → f.embedded ≡ g.embedded → f.of ≡ g.of → f ≡ g
same_field f g n p e o = λ i. record { name = n i; «package» = p i; embedded = e i; of = o i }

field_reads : (f : FieldOf GoType) → Reads Plain type_text f.of → PlainField f → Reads PlainField text_of_field f
field_reads f reads h g k r q c d e =
    let front = same_front f.embedded g.embedded f g r q h k (sym (field_parts f r) ∙ e ∙ field_parts g q) in
    let member = member_front f.name f.«package» g.name g.«package» (32 ∷ (type_text f.of ++ r)) (32 ∷ (type_text g.of ++ q)) h.0 k.0 refl refl front.1 in
    let of = reads g.of k.1 r q c d (ap (drop 1) member.2) in
    (same_field f g member.0 member.1 front.0 of.0, of.1)

pub fields_read : (fs : List (FieldOf GoType)) → Each (λ f. Reads Plain type_text f.of) fs → Each PlainField fs → Each (Reads PlainField text_of_field) fs
fields_read [] reads h = tt
fields_read (f ∷ fs) reads h = (field_reads f reads.0 h.0, fields_read fs reads.1 h.1)

field_shown : (f : FieldOf GoType) (r : List ℕ) → PlainField f → begins (λ b. b == 125) (text_of_field f ++ r) ≡ false
field_shown f r h = ap (begins (λ b. b == 125)) (field_parts f r) ∙ at f.embedded
  where
    at : (b : Bool) → begins (λ x. x == 125) (field_front b (named f r)) ≡ false
    at true = refl
    at false = member_not 125 refl f.name f.«package» (32 ∷ (type_text f.of ++ r)) h.0

pub same_fields : (fs gs : List (FieldOf GoType)) (r q : List ℕ) → Each (λ f. Reads Plain type_text f.of) fs → Each PlainField fs → Each PlainField gs
    → joined (codes "; ") (map text_of_field fs) ++ (125 ∷ r) ≡ joined (codes "; ") (map text_of_field gs) ++ (125 ∷ q) → (fs ≡ gs) × (r ≡ q)
same_fields fs gs r q reads h k e = same_joined PlainField text_of_field 59 125 refl refl refl fs gs r q (fields_read fs reads h) h k field_shown e

abbrev pub text_of_method : MethodOf GoType → List ℕ
text_of_method m = method_text (method_with type_text m)

abbrev pub PlainMethod : MethodOf GoType → Type 0
PlainMethod m = IsPlainMethod m × Plain m.of

-- the text of a function is `func`, `(` and what stands behind them
function_text : (s : GoType) → is_function (term_of s) ≡ true → (rest : List ℕ) × (type_text s ≡ codes "func(" ++ rest)
function_text s e = let found = at (term_of s) e in (found.0, text_of s ∙ found.1)
  where
    at : (x : TermOf GoType) → is_function x ≡ true → (rest : List ℕ) × (term_text (texts x) ≡ codes "func(" ++ rest)
    at (t.Function ps variadic rs) e = (drop 5 (term_text (texts (t.Function ps variadic rs))), refl)
    at _ e = absurd (true≢false (sym e))

same_method : (m n : MethodOf GoType) → m.name ≡ n.name → m.«package» ≡ n.«package» → m.of ≡ n.of → m.pointer ≡ n.pointer → m ≡ n
same_method m n a p o b = λ i. record { name = a i; «package» = p i; of = o i; pointer = b i }

-- behind the name of a method
signature : (s : GoType) (r : List ℕ) → is_function (term_of s) ≡ true → begins in_member (drop 4 (type_text s) ++ r) ≡ false
signature s r f = ap (λ l. begins in_member (drop 4 l ++ r)) (function_text s f).1

whole : (s : GoType) (r : List ℕ) → is_function (term_of s) ≡ true → type_text s ++ r ≡ codes "func" ++ (drop 4 (type_text s) ++ r)
whole s r f = let found = function_text s f in ap (λ l. l ++ r) found.1 ∙ ap (λ l. codes "func" ++ (drop 4 l ++ r)) (sym found.1)

method_reads : (m : MethodOf GoType) → Reads Plain type_text m.of → PlainMethod m → Reads PlainMethod text_of_method m
method_reads m reads h n k r q c d e =
    let texts_same = sym (append_assoc (member_text m.name m.«package») (drop 4 (type_text m.of)) r) ∙ e ∙ append_assoc (member_text n.name n.«package») (drop 4 (type_text n.of)) q in
    let member = member_front m.name m.«package» n.name n.«package» (drop 4 (type_text m.of) ++ r) (drop 4 (type_text n.of) ++ q) h.0.0 k.0.0 (signature m.of r h.0.1) (signature n.of q k.0.1) texts_same in
    let of = reads n.of k.1 r q c d (whole m.of r h.0.1 ∙ ap (λ l. codes "func" ++ l) member.2 ∙ sym (whole n.of q k.0.1)) in
    (same_method m n member.0 member.1 of.0 (h.0.2 ∙ sym k.0.2), of.1)

pub methods_read : (ms : List (MethodOf GoType)) → Each (λ m. Reads Plain type_text m.of) ms → Each PlainMethod ms → Each (Reads PlainMethod text_of_method) ms
methods_read [] reads h = tt
methods_read (m ∷ ms) reads h = (method_reads m reads.0 h.0, methods_read ms reads.1 h.1)

method_shown : (m : MethodOf GoType) (r : List ℕ) → PlainMethod m → begins (λ b. b == 125) (text_of_method m ++ r) ≡ false
method_shown m r h =
    ap (begins (λ b. b == 125)) (append_assoc (member_text m.name m.«package») (drop 4 (type_text m.of)) r)
    ∙ member_not 125 refl m.name m.«package» (drop 4 (type_text m.of) ++ r) h.0.0

pub same_methods : (ms ns : List (MethodOf GoType)) (r q : List ℕ) → Each (λ m. Reads Plain type_text m.of) ms → Each PlainMethod ms → Each PlainMethod ns
    → joined (codes "; ") (map text_of_method ms) ++ (125 ∷ r) ≡ joined (codes "; ") (map text_of_method ns) ++ (125 ∷ q) → (ms ≡ ns) × (r ≡ q)
same_methods ms ns r q reads h k e = same_joined PlainMethod text_of_method 59 125 refl refl refl ms ns r q (methods_read ms reads h) h k method_shown e
