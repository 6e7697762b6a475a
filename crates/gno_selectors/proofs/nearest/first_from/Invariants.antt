use Rattle.std.proofs.Common.{◌≡◌, ◌<◌, ◌≤◌, ℕ, Some}
use Rattle.std.specs.Prelude.{slice_get}
use Rattle.gno_embedding.specs.declared.ways.Reached.{Reached}
use Rattle.gno_selectors.specs.Standings.{Has, called}
use Rattle.gno_selectors.proofs.nearest.first_from.Given as goal

abbrev pub invariant-loop-place : goal.invariant-loop-place
invariant-loop-place l = (k : ℕ) (other : Reached) → l.from ≤ k → k < l.place → slice_get l.reached k ≡ Some other → Has l.rows (called l.name l.«package») other.of → ⊥
