use Rattle.std.proofs.Common.{◌≡◌, drop, true}
use Rattle.gno_first.specs.Declaring.{with_names}
use Rattle.gno_first.specs.Form.{are_names, name_of_variable}
use Rattle.gno_first.specs.Options.{each}
use Rattle.gno_first.proofs.variables.with_specs.Given as goal

abbrev pub invariant-loop-spec : goal.invariant-loop-spec
invariant-loop-spec l = record {
  rest : with_names l.names (each name_of_variable (drop l.spec-index l.specs)) ≡ with_names l.fn.names (each name_of_variable l.specs);
  stand : are_names l.names ≡ true;
}
