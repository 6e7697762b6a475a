use Rattle.std.proofs.Common.{◌≡◌, drop}
use Rattle.gno_first.specs.Form.{function_in}
use Rattle.gno_first.specs.Options.{each}
use Rattle.gno_first.proofs.Each.{continued}
use Rattle.gno_first.proofs.functions.functions.Given as goal

abbrev pub invariant-loop-item : goal.invariant-loop-item
invariant-loop-item l = continued l.functions (each (function_in l.variables) (drop l.item-index l.declared)) ≡ each (function_in l.variables) l.declared
