-- What is known of what an operator gives exactly between constants. This project's own.
use Rattle.std.specs.Prelude.{◌≡◌, Option, Some, None}
use Rattle.gno_constants.specs.Exact.{Exact, IsTooWide, exact}
use Rattle.gno_constants.specs.Exact.{Exact as e}
use Rattle.gno_operations.specs.declared.folding.Folded.{Folded}
use Rattle.gno_operations.specs.declared.folding.Folded.TheVariants.{Value, TooWide, NoQuotient, NoShift, NotDefined}
use Rattle.gno_terms.specs.declared.term.GoType.{GoType}
use Rattle.gno_tree.specs.declared.operator.BinaryOperator.{BinaryOperator}
use Rattle.gno_typing.specs.Binary.{fold_of}
use Rattle.gno_typing.specs.declared.value.ValueOf.{ValueOf}
use Rattle.gno_typing.specs.declared.value.ValueOf.TheVariants as v

abbrev pub WorksOut : Folded → Exact → Type 0
WorksOut (Value constant) x = x ≡ e.Value constant
WorksOut TooWide x = IsTooWide x
WorksOut NoQuotient x = x ≡ e.NoQuotient
WorksOut NoShift x = x ≡ e.NoShift
WorksOut NotDefined x = x ≡ e.NotDefined

-- between two constants, or between other values, where it gives nothing
abbrev pub FoldsTo : BinaryOperator → Option Folded → ValueOf GoType → ValueOf GoType → Type 0
FoldsTo operator (Some z) (v.Constant at s x) (v.Constant at_right t y) = WorksOut z (exact (fold_of operator) x y)
FoldsTo operator None (v.Constant at s x) (v.Constant at_right t y) = ⊥
FoldsTo operator None l r = Unit {0}
FoldsTo operator (Some z) l r = ⊥
