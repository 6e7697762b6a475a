-- The kinds of constants on which an operator is defined.
-- Source: Go specification, "Arithmetic operators", "String concatenation", "Comparison operators", "Logical operators".
use Rattle.gno_constants.specs.declared.constant.Constant.{Constant}
use Rattle.gno_constants.specs.declared.constant.Constant.TheVariants.{Bool, Text, Whole}
use Rattle.gno_constants.specs.declared.operator.FoldOp.{FoldOp}
use Rattle.gno_constants.specs.declared.operator.FoldOp.TheVariants.{Add, Equal, NotEqual, Less, LessEqual, Greater, GreaterEqual, BothTrue, OneTrue}

abbrev pub AreWholes : Constant → Constant → Type 0
AreWholes (Whole x) (Whole y) = Unit {0}
AreWholes _ _ = ⊥

abbrev pub AreTexts : Constant → Constant → Type 0
AreTexts (Text s) (Text t) = Unit {0}
AreTexts _ _ = ⊥

abbrev pub AreBools : Constant → Constant → Type 0
AreBools (Bool a) (Bool b) = Unit {0}
AreBools _ _ = ⊥

-- `==`, `!=`, `<`, `<=`, `>` or `>=`
abbrev pub IsComparison : FoldOp → Type 0
IsComparison Equal = Unit {0}
IsComparison NotEqual = Unit {0}
IsComparison Less = Unit {0}
IsComparison LessEqual = Unit {0}
IsComparison Greater = Unit {0}
IsComparison GreaterEqual = Unit {0}
IsComparison _ = ⊥

-- every operator but `&&` and `||`
abbrev pub TakesWholes : FoldOp → Type 0
TakesWholes BothTrue = ⊥
TakesWholes OneTrue = ⊥
TakesWholes _ = Unit {0}

-- `+` and the comparisons
abbrev pub TakesTexts : FoldOp → Type 0
TakesTexts Add = Unit {0}
TakesTexts op = IsComparison op

-- `==`, `!=`, `&&` and `||`
abbrev pub TakesBools : FoldOp → Type 0
TakesBools Equal = Unit {0}
TakesBools NotEqual = Unit {0}
TakesBools BothTrue = Unit {0}
TakesBools OneTrue = Unit {0}
TakesBools _ = ⊥

-- both constants are of one kind, on which the operator is defined
abbrev pub Takes : FoldOp → Constant → Constant → Type 0
Takes op (Whole x) (Whole y) = TakesWholes op
Takes op (Text s) (Text t) = TakesTexts op
Takes op (Bool a) (Bool b) = TakesBools op
Takes op _ _ = ⊥
