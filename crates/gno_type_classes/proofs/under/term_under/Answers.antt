use Rattle.gno_type_classes.proofs.Known.{row_under}
use Rattle.gno_type_classes.proofs.TypedParts.{row_is_lawful}
use Rattle.gno_type_classes.proofs.under.term_under.Goals as goal

pub returns-in-Some-clause-some : goal.returns-in-Some-clause-some
returns-in-Some-clause-some c s is = row_under c.args.types.now c.have_one_definition.ensures s c.in-Some.under c.term.result.now (c.in-Some.ensures.some s is) c.term.ensures.is

pub returns-in-Some-clause-lawful : goal.returns-in-Some-clause-lawful
returns-in-Some-clause-lawful c = row_is_lawful c.args.types.now c.term.result.now (c.types_are_lawful.ensures.lawful c.in-Some.under _ c.term.ensures.is)
