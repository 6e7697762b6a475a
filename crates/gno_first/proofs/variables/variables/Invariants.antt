use Rattle.std.proofs.Common.{◌≡◌, [], drop, true}
use Rattle.gno_first.specs.Declaring.{with_names}
use Rattle.gno_first.specs.Form.{are_names, names_in}
use Rattle.gno_first.specs.Options.{all_from}
use Rattle.gno_first.proofs.variables.variables.Given as goal

abbrev pub invariant-loop-item : goal.invariant-loop-item
invariant-loop-item l = record {
  rest : with_names l.names (all_from names_in (drop l.item-index l.declared)) ≡ with_names [] (all_from names_in l.declared);
  stand : are_names l.names ≡ true;
}
