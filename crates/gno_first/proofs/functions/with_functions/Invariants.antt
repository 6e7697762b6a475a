use Rattle.std.proofs.Common.{◌≡◌, drop, true}
use Rattle.gno_first.specs.Declaring.{with_names, name_in}
use Rattle.gno_first.specs.Form.{are_names}
use Rattle.gno_first.specs.Options.{each}
use Rattle.gno_first.proofs.functions.with_functions.Given as goal

abbrev pub invariant-loop-item : goal.invariant-loop-item
invariant-loop-item l = record {
  rest : with_names l.names (each name_in (drop l.item-index l.declared)) ≡ with_names l.fn.names (each name_in l.declared);
  stand : are_names l.names ≡ true;
}
