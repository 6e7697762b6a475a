use Rattle.std.specs.Prelude.{ℕ, List, drop}
use Rattle.gno_layouts.specs.Settling.{In, IsBoard}
use Rattle.gno_layouts.proofs.settling.all_visited.Given as goal

abbrev pub invariant-loop-number : goal.invariant-loop-number
invariant-loop-number l = (stack : List ℕ) (room : ℕ) → IsBoard l.rows l.fn.states l.fn.links l.fn.top stack (λ n. In n l.numbers) room
    → (left : List ℕ) × IsBoard l.rows l.states l.links l.top left (λ n. In n (drop l.number-index l.numbers)) room
