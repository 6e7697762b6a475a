-- What the texts of types say first.
use Rattle.std.proofs.Common.{◌≡◌, refl, ap, ap₂, sym, ◌∙◌, true≢false, ℕ, ◌<◌, ◌^◌, Bool, true, false, not, ◌==◌, cond, arith, List, [], ◌∷◌, ◌++◌, append_assoc, append-nil, codes, drop, Some, inr}
use Rattle.std.specs.Fmt.{decimal}
use Rattle.std.specs.List.{list_all}
use Rattle.std.proofs.lemmas.Bool.{false_from_ne_true}
use Rattle.std.proofs.lemmas.Bool.Decides.{nat_tests}
use Rattle.gno_base.specs.Callers.{is_digit, is_small_letter}
use Rattle.gno_base.specs.declared.kind.Kind.{Kind}
use Rattle.gno_base.specs.declared.kind.Kind.TheVariants as k
use Rattle.gno_scan.specs.Names.{IsName}
use Rattle.gno_terms.specs.Lawful.{IsPath}
use Rattle.gno_terms.specs.declared.term.GoType.{GoType}
use Rattle.gno_terms.specs.declared.term.TermOf.TheVariants as t
use Rattle.gno_terms.specs.Texts.{kind_text, member_text, local_text}
use Rattle.gno_terms.proofs.Words.{begins, stops, weaken, begins-append, no_such}
use Rattle.gno_terms.proofs.Bytes.{digit-word}
use Rattle.gno_terms.proofs.Joined.{is_end, ends}
use Rattle.gno_terms.proofs.Members.{decimal_digits, decimal_begins, defined_word}
use Rattle.gno_terms.proofs.Openings.{other_byte}
use Rattle.gno_terms.proofs.PathBytes.{path_begins}
use Rattle.gno_type_reading.specs.declared.frame.FrameOf.TheVariants as frame
use Rattle.gno_type_reading.specs.declared.frame.ActionOf.TheVariants as act
use Rattle.gno_type_reading.specs.Turns.{Turn, turn, opened, first_word, params, fields, methods, word_at, behind_word, begins_with, in_word, in_name, sized, defined, defined_by, numbered, number_after, worded}
use Rattle.gno_type_reading.proofs.FrontWords.{front_word, behind_front}
use Rattle.gno_type_reading.proofs.Cuts.{member_is, number_is, cut_local, uncut_member}

-- a text that begins so begins with no other byte
pub begins_other : (p : ℕ → Bool) (c : ℕ) (bs : List ℕ) → begins p bs ≡ true → p c ≡ false → begins_with c bs ≡ false
begins_other p c [] e f = refl
begins_other p c (b ∷ bs) e f = other_byte p c (b ∷ bs) e f

pub end_stops : (r : List ℕ) → ends r ≡ true → stops in_word r ≡ true
end_stops [] e = refl
end_stops (b ∷ bs) e = no_word b e
  where
    no_word : (b : ℕ) → is_end b ≡ true → not (in_word b) ≡ true
    no_word b e = grind (arith, nat_tests)

abbrev Turns : Type 0
Turns = Turn GoType

pub at_word : (w r : List ℕ) → list_all in_word w ≡ true → stops in_word r ≡ true → begins_with 46 (w ++ r) ≡ false → opened {A = GoType} (w ++ r) ≡ first_word w r
unfolding opened
at_word w r a s p =
    ap (λ (b : Bool). cond b (turn (act.Opened frame.Slice) (drop 3 (w ++ r))) (first_word (word_at (w ++ r)) (behind_word (w ++ r)))) p
    ∙ ap₂ (λ x y. first_word {A = GoType} x y) (front_word w r a s) (behind_front w r a s)

pub opened_kind : (kind : Kind) (r : List ℕ) → ends r ≡ true → opened {A = GoType} (kind_text kind ++ r) ≡ turn (act.Made (t.Basic kind)) r
opened_kind k.Bool r e = at_word (codes "bool") r refl (end_stops r e) refl
opened_kind k.Text r e = at_word (codes "string") r refl (end_stops r e) refl
opened_kind k.Int r e = at_word (codes "int") r refl (end_stops r e) refl
opened_kind k.Int8 r e = at_word (codes "int8") r refl (end_stops r e) refl
opened_kind k.Int16 r e = at_word (codes "int16") r refl (end_stops r e) refl
opened_kind k.Int32 r e = at_word (codes "int32") r refl (end_stops r e) refl
opened_kind k.Int64 r e = at_word (codes "int64") r refl (end_stops r e) refl
opened_kind k.Uint r e = at_word (codes "uint") r refl (end_stops r e) refl
opened_kind k.Uint8 r e = at_word (codes "uint8") r refl (end_stops r e) refl
opened_kind k.Uint16 r e = at_word (codes "uint16") r refl (end_stops r e) refl
opened_kind k.Uint32 r e = at_word (codes "uint32") r refl (end_stops r e) refl
opened_kind k.Uint64 r e = at_word (codes "uint64") r refl (end_stops r e) refl

pub opened_error : (r : List ℕ) → ends r ≡ true → opened {A = GoType} (codes "error" ++ r) ≡ turn (act.Made t.Error) r
opened_error r e = at_word (codes "error") r refl (end_stops r e) refl

pub opened_realm : (r : List ℕ) → ends r ≡ true → opened {A = GoType} (codes "realm" ++ r) ≡ turn (act.Made t.Realm) r
opened_realm r e = at_word (codes "realm") r refl (end_stops r e) refl

pub opened_pointer : (r : List ℕ) → opened {A = GoType} (42 ∷ r) ≡ turn (act.Opened frame.Pointer) r
unfolding opened
opened_pointer r = refl

pub opened_slice : (r : List ℕ) → opened {A = GoType} (91 ∷ 93 ∷ r) ≡ turn (act.Opened frame.Slice) r
unfolding opened
opened_slice r = refl

-- a variadic parameter's type
pub opened_dots : (r : List ℕ) → opened {A = GoType} (46 ∷ 46 ∷ 46 ∷ r) ≡ turn (act.Opened frame.Slice) r
unfolding opened
opened_dots r = refl

pub opened_map : (r : List ℕ) → opened {A = GoType} (codes "map[" ++ r) ≡ turn (act.Opened frame.Key) r
unfolding opened
opened_map r = refl

pub opened_function : (r : List ℕ) → opened {A = GoType} (codes "func(" ++ r) ≡ params [] r
unfolding opened
opened_function r = refl

-- a method's function
pub opened_bare : (r : List ℕ) → opened {A = GoType} (40 ∷ r) ≡ params [] r
unfolding opened
opened_bare r = refl

pub opened_struct : (r : List ℕ) → opened {A = GoType} (codes "struct{" ++ r) ≡ fields [] r
unfolding opened
opened_struct r = refl

pub opened_interface : (r : List ℕ) → opened {A = GoType} (codes "interface{" ++ r) ≡ methods [] r
unfolding opened
opened_interface r = refl

pub opened_array : (n : ℕ) (r : List ℕ) → n < 2 ^ 64 → opened {A = GoType} (91 ∷ (decimal n ++ (93 ∷ r))) ≡ turn (act.Opened (frame.Array n)) r
unfolding opened
opened_array n r h =
    let text = decimal n ++ (93 ∷ r) in
    let words = weaken is_digit in_word digit-word (decimal n) (decimal_digits n h) in
    ap (λ (b : Bool). cond b (turn (act.Opened frame.Slice) (drop 1 text)) (sized (number_after 0 (word_at text)) (drop 1 (behind_word text)))) (begins_other is_digit 93 text (begins-append is_digit (decimal n) (93 ∷ r) (decimal_begins n h)) refl)
    ∙ ap₂ (λ x y. sized {A = GoType} (number_after 0 x) (drop 1 y)) (front_word (decimal n) (93 ∷ r) words refl) (behind_front (decimal n) (93 ∷ r) words refl)
    ∙ ap (λ o. sized {A = GoType} o r) (number_is n h)

-- the action of a defined type's word
defined_is : (path name : List ℕ) (n : ℕ) → IsPath path → IsName name → n < 2 ^ 64 → (b : Bool) → (n == 0) ≡ b → defined {A = GoType} (member_text name path ++ cond b [] (35 ∷ decimal n)) ≡ act.Made (t.Defined path name n)
defined_is path name n p i h true e =
    ap (λ w. defined {A = GoType} w) (append-nil (member_text name path))
    ∙ ap (λ o. defined_by {A = GoType} (member_text name path) o) (uncut_member name path i (inr p))
    ∙ ap (λ m. numbered {A = GoType} m (Some 0)) (member_is name path i)
    ∙ ap (λ m. numbered {A = GoType} (record { name = name; «package» = path }) (Some m)) (zero_is n e)
  where
    zero_is : (n : ℕ) → (n == 0) ≡ true → 0 ≡ n
    zero_is n e = grind (arith, nat_tests)
defined_is path name n p i h false e =
    ap (λ o. defined_by {A = GoType} (member_text name path ++ (35 ∷ decimal n)) o) (cut_local name path n i (inr p) h)
    ∙ ap₂ (λ m o. numbered {A = GoType} m o) (member_is name path i) (number_is n h)

point_in : (path name rest : List ℕ) → (path ≡ [] → ⊥) → list_all in_name (member_text name path ++ rest) ≡ false
point_in [] name rest n = absurd (n refl)
point_in (b ∷ path) name rest n =
    false_from_ne_true (list_all in_name (((b ∷ path) ++ (46 ∷ name)) ++ rest))
    (λ e. no_such in_name 46 refl (b ∷ path) (name ++ rest) (ap (list_all in_name) (sym (append_assoc (b ∷ path) (46 ∷ name) rest)) ∙ e))

pointed : (w r : List ℕ) → begins is_small_letter w ≡ true → list_all in_name w ≡ false → first_word {A = GoType} w r ≡ turn (defined w) r
pointed [] r s e = absurd (true≢false (sym s))
pointed (b ∷ w) r s e = ap (λ (c : Bool). cond c (worded (b ∷ w) r) (turn (defined (b ∷ w)) r)) e

pub opened_defined : (path name : List ℕ) (n : ℕ) (r : List ℕ) → IsPath path → IsName name → n < 2 ^ 64 → ends r ≡ true → opened {A = GoType} ((member_text name path ++ local_text n) ++ r) ≡ turn (act.Made (t.Defined path name n)) r
opened_defined path name n r p i h e =
    at_word w r (defined_word name path n i p h) (end_stops r e) (begins_other is_small_letter 46 (w ++ r) (begins-append is_small_letter w r small) refl)
    ∙ pointed w r small (point_in path name (local_text n) (λ e. true≢false (sym (path_begins path p) ∙ ap (begins is_small_letter) e)))
    ∙ ap (λ x. turn x r) (defined_is path name n p i h (n == 0) refl)
  where
    w : List ℕ
    w = member_text name path ++ local_text n

    member_small : (path : List ℕ) → IsPath path → begins is_small_letter (member_text name path) ≡ true
    member_small [] p = absurd (true≢false (sym (path_begins [] p)))
    member_small (b ∷ path) p = path_begins (b ∷ path) p

    small : begins is_small_letter w ≡ true
    small = begins-append is_small_letter (member_text name path) (local_text n) (member_small path p)
