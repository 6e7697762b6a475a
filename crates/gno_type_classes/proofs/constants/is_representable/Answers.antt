use Rattle.std.proofs.Common.{refl}
use Rattle.gno_terms.specs.Tables.{type_at}
use Rattle.gno_type_classes.proofs.ByClass.{not_representable, representable}
use Rattle.gno_type_classes.proofs.constants.is_representable.Goals as goal

pub returns-in-Some : goal.returns-in-Some
returns-in-Some c s is = representable c.args.types.now s c.in-Some.row.now (c.in-Some.ensures.some s is) c.args.constant.now c.is_value_by.result (c.is_value_by.ensures (type_at c.args.types.now.types))

pub returns-in-None : goal.returns-in-None
returns-in-None c s is = not_representable c.args.types.now s c.args.constant.now (c.in-None.ensures.none refl s is)
