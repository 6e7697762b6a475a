use Rattle.gno_operations.proofs.Operators.{not_ordering, on_text, one_ordering}
use Rattle.gno_operations.proofs.classes.is_ordering.Goals as goal

pub returns-in-Add : goal.returns-in-Add
returns-in-Add c = on_text c.args.operator _ (one_ordering c.args.operator c.in-Add.is)

pub returns-in_default : goal.returns-in_default
returns-in_default c = on_text c.args.operator _ (not_ordering c.args.operator c.in_default.not-Add c.in_default.not-Less c.in_default.not-LessEqual c.in_default.not-Greater c.in_default.not-GreaterEqual)
