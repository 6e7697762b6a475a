use Rattle.std.proofs.Common.{sym, ap, ◌∙◌}
use Rattle.std.specs.Prelude.{not}
use Rattle.gno_method_sets.proofs.Rows.{term_is}
use Rattle.gno_terms.specs.Tables.{type_at}
use Rattle.gno_type_classes.proofs.FormsOfRows.{is_pointer_itself}
use Rattle.gno_type_classes.proofs.Known.{not_there}
use Rattle.gno_typing.specs.Selectors.{is_pointer_term}
use Rattle.gno_type_classes.proofs.holders.is_no_pointer.Goals as goal

pub returns-then-contains : goal.returns-then-contains
returns-then-contains c s is = c.is_no_pointer.ensures ∙ ap not (sym (ap is_pointer_term (term_is c.args.types.now c.args.t s c.term.result.now is c.term.ensures.is) ∙ is_pointer_itself (type_at c.args.types.now.types) c.term.result.now))

pub returns-else-contains : goal.returns-else-contains
returns-else-contains c s is = not_there c.args.types.now c.args.t s c.contains.result c.contains.ensures c.if-contains.false is
