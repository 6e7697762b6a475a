use Rattle.std.specs.Prelude.{ℕ, take}
use Rattle.std.specs.List.{AllByRecursion}
use Rattle.gno_layouts.specs.Settling.{Holds}
use Rattle.gno_layouts.proofs.holders.hold_all.Given as goal

abbrev pub invariant-loop-part : goal.invariant-loop-part
invariant-loop-part l = record {
  grows : (m n : ℕ) → Holds l.fn.holders m n → Holds l.holders m n;
  done : AllByRecursion (Holds l.holders l.number) (take l.part-index l.parts);
}
