-- The turns of the loop that forgets the definitions of a package.
use Rattle.std.proofs.Common.{◌≡◌, sym, ap, ◌∙◌, ℕ, ◌+◌, ◌<◌, ◌≤◌, List, length, Option, Some, None, true, false, get_or, arith, if◌then◌else◌}
use Rattle.std.specs.Prelude.{slice_get, slice_set}
use Rattle.std.proofs.lemmas.Option.{slice_get_within, get_or_from_slice_get}
use Rattle.gno_terms.specs.declared.term.TypeRef.{TypeRef}
use Rattle.gno_terms.specs.declared.term.TermOf.{TermOf}
use Rattle.gno_terms.specs.declared.term.DefinitionOf.{DefinitionOf}
use Rattle.gno_type_rows.specs.RowTypes.{is_of_path, unless_of_path}
use Rattle.gno_layouts.proofs.SetAt.{set_size, set_here, set_elsewhere, Same, here, elsewhere, where_is, before}

abbrev Beside : Type 0
Beside = List (Option (DefinitionOf TypeRef))

-- the definitions beside the first rows were looked at
abbrev pub Forgot : List ℕ → List (TermOf TypeRef) → Beside → Beside → ℕ → Type 0
Forgot path terms old ds i = (length ds ≡ length old)
    × ((n : ℕ) (x : TermOf TypeRef) → n < i → slice_get terms n ≡ Some x → slice_get ds n ≡ unless_of_path path x (slice_get old n))
    × ((n : ℕ) → i ≤ n → slice_get ds n ≡ slice_get old n)

module _ (path : List ℕ) (terms : List (TermOf TypeRef)) (old ds : Beside) (i : ℕ) (r : TermOf TypeRef) (is : r ≡ get_or terms i r) (size : length terms ≡ length old) (so : Forgot path terms old ds i) where
  -- the row at hand
  row : (n : ℕ) (x : TermOf TypeRef) → n ≡ i → slice_get terms n ≡ Some x → r ≡ x
  row n x e h = is ∙ get_or_from_slice_get terms i x r (ap (slice_get terms) (sym e) ∙ h)

  then_by : is_of_path path r ≡ true → (n : ℕ) (x : TermOf TypeRef) → n < i + 1 → slice_get terms n ≡ Some x → Same n i → slice_get (slice_set ds i None) n ≡ unless_of_path path x (slice_get old n)
  then_by t n x w h (here e) =
      let within : i < length ds = let a = slice_get_within terms n x h in let b = so.0 in omega (arith, size, e) in
      ap (slice_get (slice_set ds i None)) e ∙ set_here ds i None within
      ∙ sym (ap (λ b. if b then Some None else slice_get old n) (ap (is_of_path path) (sym (row n x e h)) ∙ t))
  then_by t n x w h (elsewhere f) = set_elsewhere ds i None n f ∙ so.1 n x (before n i w f) h

  pub forgot_then : is_of_path path r ≡ true → Forgot path terms old (slice_set ds i None) (i + 1)
  forgot_then t = (set_size ds i None ∙ so.0, λ n x w h. then_by t n x w h (where_is n i), λ n w. set_elsewhere ds i None n (λ e. omega (arith, e, w)) ∙ so.2 n (omega (arith, w)))

  else_by : is_of_path path r ≡ false → (n : ℕ) (x : TermOf TypeRef) → n < i + 1 → slice_get terms n ≡ Some x → Same n i → slice_get ds n ≡ unless_of_path path x (slice_get old n)
  else_by t n x w h (here e) =
      so.2 n (omega (arith, e)) ∙ sym (ap (λ b. if b then Some None else slice_get old n) (ap (is_of_path path) (sym (row n x e h)) ∙ t))
  else_by t n x w h (elsewhere f) = so.1 n x (before n i w f) h

  pub forgot_else : is_of_path path r ≡ false → Forgot path terms old ds (i + 1)
  forgot_else t = (so.0, λ n x w h. else_by t n x w h (where_is n i), λ n w. so.2 n (omega (arith, w)))
