-- What is seen of a value without its type. This project's own.
use Rattle.std.specs.Prelude.{Option, Some, None}
use Rattle.gno_constants.specs.declared.constant.Constant.{Constant}
use Rattle.gno_typing.specs.declared.value.ValueOf.{ValueOf}
use Rattle.gno_typing.specs.declared.value.ValueOf.TheVariants as v

-- the constant that it is
abbrev pub constant_in : {A : Type 0} → ValueOf A → Option Constant
constant_in (v.Constant at s x) = Some x
constant_in x = None
