use Rattle.std.proofs.Common.{◌↔◌, IsTrue}
use Rattle.gno_operations.proofs.Operators.{not_logical, not_ordering, one_ordering, where_neither, where_ordering}
use Rattle.gno_type_classes.specs.Unnumbered.{unnumbered}
use Rattle.gno_typing.specs.Classes.{IsOf}
use Rattle.gno_operations.proofs.sorts.is_defined_on.Goals as goal

pub returns-in-Add : goal.returns-in-Add
returns-in-Add c s is = where_ordering (λ class. IsTrue c.is_ordered.result ↔ IsOf class (unnumbered c.args.types.now) s) c.args.operator (one_ordering c.args.operator c.in-Add.is) (c.is_ordered.ensures s is)

pub returns-in_default : goal.returns-in_default
returns-in_default c s is = where_neither (λ class. IsTrue c.is_integer.result ↔ IsOf class (unnumbered c.args.types.now) s) c.args.operator
    (not_ordering c.args.operator c.in_default.not-Add c.in_default.not-Less c.in_default.not-LessEqual c.in_default.not-Greater c.in_default.not-GreaterEqual) (not_logical c.args.operator c.in_default.not-BothTrue c.in_default.not-OneTrue) (c.is_integer.ensures s is)
