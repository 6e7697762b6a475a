use Rattle.std.specs.Prelude.{ℕ, List, ◌≡◌, ◌+◌, length}
use Rattle.gno_layouts.specs.Settling.{IsBoard}
use Rattle.gno_layouts.proofs.settling.settle.Given as goal

abbrev pub invariant-loop-turn : goal.invariant-loop-turn
invariant-loop-turn l = (stack : List ℕ) × (room : ℕ) × (room + l._turn ≡ length l.rows) × IsBoard l.rows l.states l.links l.top stack (λ _. ⊥) room
