use Rattle.std.proofs.Common.{ap, ◌∙◌}
use Rattle.gno_terms.specs.Exported.{begins_with_capital}
use Rattle.gno_terms.proofs.Exported.{exported_is, no_name}
use Rattle.gno_terms.proofs.names.is_exported.Goals as goal

pub returns-in-Ok : goal.returns-in-Ok
returns-in-Ok c = c.begins_with_capital.ensures ∙ ap begins_with_capital c.in-Ok.ensures.cases.0 ∙ exported_is c.args.name.now c.in-Ok.ensures.cases.1

pub returns-in-Err : goal.returns-in-Err
returns-in-Err c = no_name c.args.name.now c.in-Err.ensures.cases.0
