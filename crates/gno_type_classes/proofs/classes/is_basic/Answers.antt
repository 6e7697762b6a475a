use Rattle.std.proofs.Common.{refl, sym, ◌∙◌}
use Rattle.gno_typing.specs.Conversions.{is_basic}
use Rattle.gno_terms.specs.Tables.{type_at}
use Rattle.gno_type_classes.proofs.ByClass.{is_of, of_none}
use Rattle.gno_type_classes.proofs.FormsOfRows.{is_basic_itself}
use Rattle.gno_type_classes.proofs.classes.is_basic.Goals as goal

pub returns-in-Some : goal.returns-in-Some
returns-in-Some c s is = is_of c.args.types.now s c.in-Some.row.now (c.in-Some.ensures.some s is) is_basic c.is_basic.result (c.is_basic.ensures ∙ sym (is_basic_itself (type_at c.args.types.now.types) c.in-Some.row.now))

pub returns-in-None : goal.returns-in-None
returns-in-None c s is = of_none c.args.types.now s is_basic (c.in-None.ensures.none refl s is)
