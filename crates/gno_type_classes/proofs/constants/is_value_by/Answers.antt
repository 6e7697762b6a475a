use Rattle.gno_type_classes.proofs.ByClass.{by_no_value, value_by}
use Rattle.gno_type_classes.proofs.constants.is_value_by.Goals as goal

pub returns-in-Basic : goal.returns-in-Basic
returns-in-Basic c f = value_by c.args.constant.now f c.args.row.now c.in-Basic.kind c.in-Basic.is c.is_value.result c.is_value.ensures

pub returns-in_default : goal.returns-in_default
returns-in_default c f = by_no_value c.args.constant.now f c.args.row.now c.in_default.not-Basic
