use Rattle.std.proofs.Common.{sym, ap, ◌∙◌}
use Rattle.gno_terms.specs.Lawful.{is_untyped}
use Rattle.gno_type_classes.proofs.FormsOfRows.{is_untyped_itself}
use Rattle.gno_method_sets.proofs.Rows.{term_is}
use Rattle.gno_terms.specs.Tables.{type_at}
use Rattle.gno_type_classes.proofs.Known.{not_there}
use Rattle.gno_type_classes.proofs.classes.is_untyped.Goals as goal

pub returns-then-contains : goal.returns-then-contains
returns-then-contains c s is = c.is_untyped.ensures ∙ sym (ap is_untyped (term_is c.args.types.now c.args.t s c.term.result.now is c.term.ensures.is) ∙ is_untyped_itself (type_at c.args.types.now.types) c.term.result.now)

pub returns-else-contains : goal.returns-else-contains
returns-else-contains c s is = not_there c.args.types.now c.args.t s c.contains.result c.contains.ensures c.if-contains.false is
