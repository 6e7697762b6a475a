use Rattle.gno_layouts.specs.Settling.{EachKeeps}
use Rattle.gno_layouts.proofs.holders.forget_holders.Given as goal

abbrev pub invariant-loop-number : goal.invariant-loop-number
invariant-loop-number l = EachKeeps l.rows l.fn.holders l.holders
