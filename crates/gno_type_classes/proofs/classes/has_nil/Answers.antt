use Rattle.std.proofs.Common.{refl, sym, ◌∙◌}
use Rattle.gno_assignability.specs.Assignability.{has_nil}
use Rattle.gno_terms.specs.Tables.{type_at}
use Rattle.gno_type_classes.proofs.ByClass.{is_of, of_none}
use Rattle.gno_assignability.proofs.FormsOfRows.{has_nil_itself}
use Rattle.gno_type_classes.proofs.classes.has_nil.Goals as goal

pub returns-in-Some : goal.returns-in-Some
returns-in-Some c s is = is_of c.args.types.now s c.in-Some.row.now (c.in-Some.ensures.some s is) has_nil c.has_nil.result (c.has_nil.ensures ∙ sym (has_nil_itself (type_at c.args.types.now.types) c.in-Some.row.now))

pub returns-in-None : goal.returns-in-None
returns-in-None c s is = of_none c.args.types.now s has_nil (c.in-None.ensures.none refl s is)
