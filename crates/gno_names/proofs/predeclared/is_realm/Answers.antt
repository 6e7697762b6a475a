use Rattle.std.proofs.Common.{sym, ap, ◌∙◌}
use Rattle.gno_terms.specs.Tables.{type_at}
use Rattle.gno_typing.specs.Names.{is_realm}
use Rattle.gno_method_sets.proofs.Rows.{term_is}
use Rattle.gno_type_classes.proofs.Known.{not_there}
use Rattle.gno_names.proofs.Judged.{is_realm_itself}
use Rattle.gno_names.proofs.predeclared.is_realm.Goals as goal

pub returns-then-contains : goal.returns-then-contains
returns-then-contains c s is = c.is_realm_by.ensures ∙ sym (ap is_realm (term_is c.args.types.now c.args.t s c.term.result.now is c.term.ensures.is) ∙ is_realm_itself (type_at c.args.types.now.types) c.term.result.now)

pub returns-else-contains : goal.returns-else-contains
returns-else-contains c s is = not_there c.args.types.now c.args.t s c.contains.result c.contains.ensures c.if-contains.false is
