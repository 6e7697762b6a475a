-- What is answered where an operator gives that exactly, and wants no memory.
use Rattle.std.specs.Prelude.{◌≡◌, Ok, Err, Result}
use Rattle.gno_constants.specs.Exact.{Exact, IsTooWide}
use Rattle.gno_constants.specs.Exact.Exact.{Value, NoQuotient, NoShift}
use Rattle.gno_constants.specs.declared.constant.Constant.{Constant}
use Rattle.gno_constants.specs.declared.operator.FoldFault.{FoldFault}
use Rattle.gno_constants.specs.declared.operator.FoldFault.TheVariants.{TooWide, DivideByZero, BadShift, NoMemory}

abbrev pub Gives : Result Constant FoldFault → Exact → Type 0
Gives (Ok constant) e = e ≡ Value constant
Gives (Err TooWide) e = IsTooWide e
Gives (Err DivideByZero) e = e ≡ NoQuotient
Gives (Err BadShift) e = e ≡ NoShift
Gives (Err NoMemory) e = ⊥
