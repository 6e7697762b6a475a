-- Fields and lists that are the same.
use Rattle.std.proofs.Common.{◌≡◌, refl, sym, ap, ◌∙◌, ℕ, suc, ◌+◌, ◌<◌, List, [], ◌∷◌, Bool, true, false, ◌&&◌, length, arith, rules}
use Rattle.std.specs.Prelude.{slice_get}
use Rattle.std.specs.Bool.{beq}
use Rattle.std.specs.Str.{bytes_eq}
use Rattle.std.proofs.lemmas.Bool.Decides.{Decides-eqb}
use Rattle.std.proofs.lemmas.Slice.Eq.{bytes_eq-Decides}
use Rattle.std.proofs.lemmas.Option.{same_Some}
use Rattle.gno_layouts.proofs.SetAt.{Same, here, elsewhere, where_is, before}
use Rattle.gno_type_rows.proofs.Defining.{ref_eq}
use Rattle.gno_terms.specs.declared.term.FieldOf.{FieldOf}
use Rattle.gno_terms.specs.declared.term.TypeRef.{TypeRef}
use Rattle.gno_embedding.specs.Same.{is_same}

first : (a b : Bool) → (a && b) ≡ true → a ≡ true
first true b e = refl
first false b e = e

second : (a b : Bool) → (a && b) ≡ true → b ≡ true
second true b e = e
second false b e = absurd (search (rules, e))

both : (a b : Bool) → a ≡ true → b ≡ true → (a && b) ≡ true
both true b e f = f
both false b e f = e

same_flag : (a b : Bool) → beq a b ≡ true → a ≡ b
same_flag true true e = refl
same_flag false false e = refl
same_flag true false e = absurd (search (rules, e))
same_flag false true e = absurd (search (rules, e))

flag_itself : (a : Bool) → beq a a ≡ true
flag_itself true = refl
flag_itself false = refl

made : (a b : FieldOf TypeRef) → a.name ≡ b.name → a.«package» ≡ b.«package» → a.embedded ≡ b.embedded → a.of ≡ b.of → a ≡ b
made a b p q r s = λ i. record { name = p i; «package» = q i; embedded = r i; of = s i }

pub same_field : (a b : FieldOf TypeRef) → is_same a b ≡ true → a ≡ b
same_field a b e =
    let p = first (bytes_eq a.name b.name) _ e in
    let f = second (bytes_eq a.name b.name) _ e in
    let q = first (bytes_eq a.«package» b.«package») _ f in
    let g = second (bytes_eq a.«package» b.«package») _ f in
    let r = first (beq a.embedded b.embedded) _ g in
    let s = second (beq a.embedded b.embedded) _ g in
    made a b ((bytes_eq-Decides a.name b.name).0 p) ((bytes_eq-Decides a.«package» b.«package»).0 q) (same_flag a.embedded b.embedded r) (ref_eq a.of b.of ((Decides-eqb a.of.0 b.of.0).0 s))

field_itself : (a : FieldOf TypeRef) → is_same a a ≡ true
field_itself a = both _ _ ((bytes_eq-Decides a.name a.name).1 refl) (both _ _ ((bytes_eq-Decides a.«package» a.«package»).1 refl) (both _ _ (flag_itself a.embedded) ((Decides-eqb a.of.0 a.of.0).1 refl)))

pub field_differs : (a b : FieldOf TypeRef) → is_same a b ≡ false → a ≡ b → ⊥
field_differs a b e f =
    let h : true ≡ false = sym (field_itself a) ∙ ap (is_same a) f ∙ e in
    search (rules, h)

pub one_more : {A : Type 0} (xs ys : List A) (i : ℕ) → ((k : ℕ) → k < i → slice_get xs k ≡ slice_get ys k) → slice_get xs i ≡ slice_get ys i → (k : ℕ) → k < i + 1 → slice_get xs k ≡ slice_get ys k
one_more xs ys i f e k w = by (where_is k i)
  where
    by : Same k i → slice_get xs k ≡ slice_get ys k
    by (here h) = ap (slice_get xs) h ∙ e ∙ ap (slice_get ys) (sym h)
    by (elsewhere g) = f k (before k i w g)

pub same_lists : {A : Type 0} (xs ys : List A) → length xs ≡ length ys → ((k : ℕ) → k < length xs → slice_get xs k ≡ slice_get ys k) → xs ≡ ys
same_lists [] [] e f = refl
same_lists [] (y ∷ ys) e f = absurd (omega (arith, e))
same_lists (x ∷ xs) [] e f = absurd (omega (arith, e))
same_lists (x ∷ xs) (y ∷ ys) e f =
    let h : x ≡ y = same_Some x y (f 0 (omega arith)) in
    let t : xs ≡ ys = same_lists xs ys (omega (arith, e)) (λ k w. f (suc k) (omega (arith, w))) in
    λ i. h i ∷ t i
