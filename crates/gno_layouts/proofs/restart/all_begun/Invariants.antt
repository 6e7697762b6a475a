use Rattle.std.specs.Prelude.{ℕ, List, ◌≤◌, length}
use Rattle.gno_layouts.specs.Settling.{IsBoard}
use Rattle.gno_layouts.proofs.restart.all_begun.Given as goal

abbrev pub invariant-loop-number : goal.invariant-loop-number
invariant-loop-number l = (stack : List ℕ) × IsBoard l.rows l.states l.links l.top stack (λ n. l.number ≤ n) (length l.rows)
