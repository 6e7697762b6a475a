-- The first of some types that has a name, and its rivals.
use Rattle.std.proofs.Common.{◌≡◌, refl, ap, ◌∙◌, subst, ℕ, ◌+◌, ◌<◌, ◌≤◌, List, Some, arith}
use Rattle.std.specs.Prelude.{slice_get, ◌↔◌}
use Rattle.gno_embedding.proofs.Nearest.{Order, above, below, one_place, order}
use Rattle.gno_embedding.specs.Reaching.{Rises}
use Rattle.gno_embedding.specs.declared.ways.Reached.{Reached}
use Rattle.gno_selectors.proofs.Lists.{rises_at}
use Rattle.gno_selectors.specs.Standings.{Has, HasRival, IsFirst, Name}
use Rattle.gno_terms.specs.Tables.{Table}

module _ (table : Table) (name : Name) (its : List Reached) where
  -- those between these places do not have the name
  abbrev pub LackBetween : ℕ → ℕ → Type 0
  LackBetween from to = (k : ℕ) (other : Reached) → from ≤ k → k < to → slice_get its k ≡ Some other → Has table name other.of → ⊥

  one_more : (from place k : ℕ) (it other : Reached) → LackBetween from place → slice_get its place ≡ Some it → (Has table name it.of → ⊥) → from ≤ k → k < place + 1 → slice_get its k ≡ Some other → Has table name other.of → Order k place → ⊥
  one_more from place k it other lack at f w lt h has (below b) = lack k other w b h has
  one_more from place k it other lack at f w lt h has (above a) =
      let same : other ≡ it = one_place its k place h at (omega (arith, lt, a)) in
      f (subst (λ (z : Reached). Has table name z.of) same has)

  pub lack_more : (from place : ℕ) (it : Reached) → LackBetween from place → slice_get its place ≡ Some it → (Has table name it.of → ⊥) → LackBetween from (place + 1)
  lack_more from place it lack at f = λ k other w lt h has. one_more from place k it other lack at f w lt h has (order k place)

  module _ (rises : Rises its) (place : ℕ) (it : Reached) (at : slice_get its place ≡ Some it) (next : ℕ) (first : IsFirst table name its (place + 1) next) where
    as_deep : (h : HasRival table name its place) → Order h.number next → first.it.depth ≡ it.depth
    as_deep h (below w) = absurd (first.first h.number h.other (let b = h.behind in omega (arith, b)) w h.other_at h.has)
    as_deep h (above w) =
        let same : h.it ≡ it = one_place its place place h.at at refl in
        let depth : h.other.depth ≡ it.depth = h.as_deep ∙ ap (λ (z : Reached). z.depth) same in
        let a = rises_at its rises next h.number first.it h.other first.at h.other_at w in
        let b = rises_at its rises place next it first.it at first.at (let p = first.past in omega (arith, p)) in
        omega (arith, depth, a, b)

    pub rival_is : (first.it.depth ≡ it.depth) ↔ HasRival table name its place
    rival_is = (
      λ e. record { it = it; at = at; number = next; behind = (let p = first.past in omega (arith, p)); other = first.it; other_at = first.at; has = first.has; as_deep = e },
      λ h. as_deep h (order h.number next),
    )
