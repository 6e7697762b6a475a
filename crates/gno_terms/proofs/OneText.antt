-- The text of a type tells the type.
use Rattle.std.proofs.Common.{◌≡◌, refl, ap, ap₂, sym, subst, ◌∙◌, ℕ, ◌<◌, ◌^◌, Bool, true, List, [], ◌∷◌, ◌++◌, append_assoc, append-nil, codes, map, drop}
use Rattle.std.specs.Fmt.{decimal}
use Rattle.std.proofs.lemmas.Fmt.{decimal_injective}
use Rattle.gno_base.specs.Callers.{is_digit}
use Rattle.gno_terms.specs.declared.term.GoType.{GoType}
use Rattle.gno_terms.specs.declared.term.TermOf.{TermOf}
use Rattle.gno_terms.specs.declared.term.TermOf.TheVariants as t
use Rattle.gno_terms.specs.declared.term.FieldOf.{FieldOf}
use Rattle.gno_terms.specs.declared.term.MethodOf.{MethodOf}
use Rattle.gno_terms.specs.Lawful.{Each, LawfulType, IsTyped}
use Rattle.gno_terms.specs.Normal.{normal, Identical}
use Rattle.gno_terms.specs.Terms.{term_of, type_of, parts, field_of, method_of, field_with, method_with}
use Rattle.gno_terms.specs.Texts.{joined, field_text, method_text, results_text, type_text}
use Rattle.gno_terms.proofs.Layers.{type_of-term_of}
use Rattle.gno_terms.proofs.Words.{same_word}
use Rattle.gno_terms.proofs.Joined.{ends, Reads}
use Rattle.gno_terms.proofs.Each.{each_parts, each_of-map, each_both}
use Rattle.gno_terms.proofs.Members.{decimal_digits, same_defined}
use Rattle.gno_terms.proofs.Plain.{IsPlain, IsPlainField, IsPlainMethod, Plain, Plains, plain, no_plain, one_more, plain_term, plain_parts, each_plain}
use Rattle.gno_terms.proofs.NormalPlain.{normal_plain}
use Rattle.gno_terms.proofs.Shapes.{shape, Formed, formed, word_of, rest_of, texts}
use Rattle.gno_terms.proofs.ShapeOfText.{alike}
use Rattle.gno_terms.proofs.Openings.{text_of}
use Rattle.gno_terms.proofs.Params.{same_params, same_results}
use Rattle.gno_terms.proofs.Fields.{PlainField, PlainMethod, same_fields, same_methods}

abbrev IsRead : GoType → Type 0
IsRead = Reads Plain type_text

-- a term of the same word and the same rest is the same
abbrev Told : TermOf GoType → TermOf GoType → Type 0
Told x y = IsPlain y → Each Plain (parts y) → (r q : List ℕ) → ends r ≡ true → ends q ≡ true → word_of (texts x) ≡ word_of (texts y) → rest_of (texts x) ++ r ≡ rest_of (texts y) ++ q → (x ≡ y) × (r ≡ q)

array_told : (m n : ℕ) (a b : GoType) → m < 2 ^ 64 → IsRead a → Told (t.Array m a) (t.Array n b)
array_told m n a b h reads k ps r q c d w e =
    let digits = same_word is_digit (decimal m) (decimal n) (93 ∷ (type_text a ++ r)) (93 ∷ (type_text b ++ q)) (decimal_digits m h) (decimal_digits n k) refl refl
    (sym (append_assoc (decimal m) (93 ∷ type_text a) r) ∙ ap (drop 1) e ∙ append_assoc (decimal n) (93 ∷ type_text b) q) in
    let item = reads b ps.0 r q c d (ap (drop 1) digits.1) in
    (ap₂ t.Array (decimal_injective m n h k digits.0) item.0, item.1)

map_told : (a b c d : GoType) → IsRead a → IsRead b → Told (t.Map a b) (t.Map c d)
map_told a b c d key value k ps r q f g w e =
    let keys = key c ps.0 (93 ∷ (type_text b ++ r)) (93 ∷ (type_text d ++ q)) refl refl
    (sym (append_assoc (type_text a) (93 ∷ type_text b) r) ∙ ap (drop 1) e ∙ append_assoc (type_text c) (93 ∷ type_text d) q) in
    let values = value d ps.1.0 r q f g (ap (drop 1) keys.1) in
    (ap₂ t.Map keys.0 values.0, values.1)

defined_told : (path name : List ℕ) (m : ℕ) (path₂ name₂ : List ℕ) (n : ℕ) → IsPlain (t.Defined path name m) → Told (t.Defined path name m) (t.Defined path₂ name₂ n)
defined_told path name m path₂ name₂ n h k ps r q c d w e =
    let same = same_defined name path name₂ path₂ m n h.1 h.0 h.2 k.1 k.0 k.2 w in
    ((λ i. t.Defined (same.1 i) (same.0 i) (same.2 i)), e)

-- what stands in and behind parentheses
opened : (front back r : List ℕ) → ((front ++ codes ")") ++ back) ++ r ≡ front ++ (41 ∷ (back ++ r))
opened front back r = ap (λ l. l ++ r) (append_assoc front (codes ")") back) ∙ append_assoc front (41 ∷ back) r

function_told : (ps : List GoType) (v : Bool) (rs : List GoType) (qs : List GoType) (w : Bool) (us : List GoType) → IsPlain (t.Function ps v rs) → Each Plain (ps ++ rs) → Each IsRead (ps ++ rs)
    → Told (t.Function ps v rs) (t.Function qs w us)
function_told ps v rs qs w us h own reads k others r q c d e f =
    let plain_own = each_parts Plain ps rs own in
    let plain_others = each_parts Plain qs us others in
    let read = each_parts IsRead ps rs reads in
    let params = same_params v w ps qs read.0 plain_own.0 plain_others.0 h k (results_text (map type_text rs) ++ r) (results_text (map type_text us) ++ q)
    (sym (opened _ (results_text (map type_text rs)) r) ∙ ap (drop 1) f ∙ opened _ (results_text (map type_text us)) q) in
    let results = same_results rs us r q read.1 plain_own.1 plain_others.1 c d params.2 in
    ((λ i. t.Function (params.0 i) (params.1 i) (results.0 i)), results.1)

twice : {A B C : Type 0} (f : A → B) (g : B → C) (xs : List A) → map g (map f xs) ≡ map (λ x. g (f x)) xs
twice f g [] = refl
twice f g (x ∷ xs) = ap (λ l. g (f x) ∷ l) (twice f g xs)

-- what stands in braces
braced : (texts items : List (List ℕ)) (r : List ℕ) → texts ≡ items → (joined (codes "; ") texts ++ codes "}") ++ r ≡ joined (codes "; ") items ++ (125 ∷ r)
braced texts items r e = append_assoc (joined (codes "; ") texts) (codes "}") r ∙ ap (λ l. joined (codes "; ") l ++ (125 ∷ r)) e

struct_told : (fs gs : List (FieldOf GoType)) → IsPlain (t.Struct fs) → Each Plain (map field_of fs) → Each IsRead (map field_of fs) → Told (t.Struct fs) (t.Struct gs)
struct_told fs gs h own reads k others r q c d w e =
    let with_types : (items : List (FieldOf GoType)) → Each IsPlainField items → Each Plain (map field_of items) → Each PlainField items =
    λ items p ps. each_both IsPlainField (λ f. Plain f.of) items p (each_of-map (λ f. Plain f.of) Plain field_of (λ f l. l) items ps) in
    let same = same_fields fs gs r q (each_of-map (λ f. IsRead f.of) IsRead field_of (λ f l. l) fs reads) (with_types fs h own) (with_types gs k others)
    (sym (braced _ _ r (twice (field_with type_text) field_text fs)) ∙ ap (drop 1) e ∙ braced _ _ q (twice (field_with type_text) field_text gs)) in
    (ap t.Struct same.0, same.1)

interface_told : (ms ns : List (MethodOf GoType)) → IsPlain (t.Interface ms) → Each Plain (map method_of ms) → Each IsRead (map method_of ms) → Told (t.Interface ms) (t.Interface ns)
interface_told ms ns h own reads k others r q c d w e =
    let with_types : (items : List (MethodOf GoType)) → Each IsPlainMethod items → Each Plain (map method_of items) → Each PlainMethod items =
    λ items p ps. each_both IsPlainMethod (λ m. Plain m.of) items p (each_of-map (λ m. Plain m.of) Plain method_of (λ m l. l) items ps) in
    let same = same_methods ms ns r q (each_of-map (λ m. IsRead m.of) IsRead method_of (λ m l. l) ms reads) (with_types ms h own) (with_types ns k others)
    (sym (braced _ _ r (twice (method_with type_text) method_text ms)) ∙ ap (drop 1) e ∙ braced _ _ q (twice (method_with type_text) method_text ns)) in
    (ap t.Interface same.0, same.1)

told : (x y : TermOf GoType) → IsPlain x → Each Plain (parts x) → Each IsRead (parts x) → Formed (shape x) y → Told x y
told (t.Basic kind) y h own reads f = subst (Told (t.Basic kind)) (sym f) (λ k ps r q c d w e. (refl, e))
told t.UntypedBool y h own reads f = absurd h
told t.UntypedWhole y h own reads f = absurd h
told t.UntypedRune y h own reads f = absurd h
told t.UntypedText y h own reads f = absurd h
told t.UntypedNil y h own reads f = absurd h
told t.Error y h own reads f = subst (Told t.Error) (sym f) (λ k ps r q c d w e. (refl, e))
told t.Realm y h own reads f = subst (Told t.Realm) (sym f) (λ k ps r q c d w e. (refl, e))
told (t.Defined path name m) y h own reads f = subst (Told (t.Defined path name m)) (sym f.3) (defined_told path name m f.0 f.1 f.2 h)
told (t.Pointer a) y h own reads f = subst (Told (t.Pointer a)) (sym f.1) (λ k ps r q c d w e. let item = reads.0 f.0 ps.0 r q c d (ap (drop 1) e) in (ap t.Pointer item.0, item.1))
told (t.Slice a) y h own reads f = subst (Told (t.Slice a)) (sym f.1) (λ k ps r q c d w e. let item = reads.0 f.0 ps.0 r q c d (ap (drop 2) e) in (ap t.Slice item.0, item.1))
told (t.Array n a) y h own reads f = subst (Told (t.Array n a)) (sym f.2) (array_told n f.0 a f.1 h reads.0)
told (t.Map a b) y h own reads f = subst (Told (t.Map a b)) (sym f.2) (map_told a b f.0 f.1 reads.0 reads.1.0)
told (t.Function ps v rs) y h own reads f = subst (Told (t.Function ps v rs)) (sym f.3) (function_told ps v rs f.0 f.1 f.2 h own reads)
told (t.Struct fs) y h own reads f = subst (Told (t.Struct fs)) (sym f.1) (struct_told fs f.0 h own reads)
told (t.Interface ms) y h own reads f = subst (Told (t.Interface ms)) (sym f.1) (interface_told ms f.0 h own reads)

-- a type's text is read one way, where its parts' are
layer : (s : GoType) → IsPlain (term_of s) → Each Plain (parts (term_of s)) → Each IsRead (parts (term_of s)) → IsRead s
layer s h own reads u k r q c d e =
    let x = term_of s in
    let y = term_of u in
    let same = alike x y r q h (plain_term k) c d (ap (λ l. l ++ r) (sym (text_of s)) ∙ e ∙ ap (λ l. l ++ q) (text_of u)) in
    let result = told x y h own reads (subst (λ form. Formed form y) (sym same.0) (formed y)) (plain_term k) (plain_parts k) r q c d same.1 same.2 in
    (sym (type_of-term_of s) ∙ ap type_of result.0 ∙ type_of-term_of u, result.1)

mutual
  read : {s : GoType} → Plain s → IsRead s
  read {s} (plain h ps) = layer s h (each_plain ps) (all_read ps)

  all_read : {ss : List GoType} → Plains ss → Each IsRead ss
  all_read no_plain = tt
  all_read (one_more p ps) = (read p, all_read ps)

pub one_type_a_text : (s u : GoType) → LawfulType s → LawfulType u → IsTyped s → IsTyped u → type_text (normal s) ≡ type_text (normal u) → Identical s u
one_type_a_text s u h k a b e =
    (read (normal_plain h a) (normal u) (normal_plain k b) [] [] refl refl (append-nil (type_text (normal s)) ∙ e ∙ sym (append-nil (type_text (normal u))))).0
