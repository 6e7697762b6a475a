-- Values that wait: comparisons, shifts of constants, and operators on these. A constant alone, or an operator on constants alone, does not. This project's own.
use Rattle.std.specs.Prelude.{◌≡◌, List, [], ◌∷◌, Bool, Option}
use Rattle.gno_constants.specs.declared.constant.Constant.{Constant}
use Rattle.gno_scan.specs.declared.token.Pos.{Pos}
use Rattle.gno_terms.specs.declared.term.GoType.{GoType}
use Rattle.gno_tree.specs.declared.operator.BinaryOperator.{BinaryOperator}
use Rattle.gno_tree.specs.declared.operator.UnaryOperator.{UnaryOperator}
use Rattle.gno_typed.specs.declared.expr.TypedExprOf.{TypedExprOf}
use Rattle.gno_typing.specs.declared.form.FormOf.{FormOf}
use Rattle.gno_typing.specs.declared.pending.PendingOf.{PendingOf}
use Rattle.gno_typing.specs.declared.pending.PendingOf.TheVariants as p
use Rattle.gno_typing.specs.declared.pending.PendingOperationOf.{PendingOperationOf}
use Rattle.gno_typing.specs.declared.pending.PendingOperationOf.TheVariants as o

mutual
  pub data IsWaiting : PendingOf GoType → Type 0 where
    comparison : {x : PendingOf GoType} (pos : Pos) (operator : BinaryOperator) (operands : GoType) (boxed : Option GoType) (left : FormOf GoType) (right : TypedExprOf GoType) → x ≡ p.Comparison pos operator operands boxed left right → IsWaiting x
    unary : {x : PendingOf GoType} (pos : Pos) (operator : UnaryOperator) (operand : PendingOf GoType) → x ≡ p.Unary pos operator operand → IsWaiting operand → IsWaiting x
    chain : {x : PendingOf GoType} (first : PendingOf GoType) (rest : List (PendingOperationOf GoType)) → x ≡ p.Chain first rest → IsWaiting first → MayFollow rest → IsWaiting x
    -- a shift of a constant
    shifted : {x : PendingOf GoType} (first_pos : Pos) (value : Constant) (rune : Bool) (pos : Pos) (operator : BinaryOperator) (count : TypedExprOf GoType) (rest : List (PendingOperationOf GoType)) → x ≡ p.Chain (p.Constant first_pos value rune) (o.Count pos operator count ∷ rest) → MayFollow rest → IsWaiting x
    -- a constant on the left of a value that waits
    beside : {x : PendingOf GoType} (first_pos : Pos) (value : Constant) (rune : Bool) (pos : Pos) (operator : BinaryOperator) (right : PendingOf GoType) (rest : List (PendingOperationOf GoType)) → x ≡ p.Chain (p.Constant first_pos value rune) (o.Operand pos operator right ∷ rest) → IsWaiting right → MayFollow rest → IsWaiting x

  -- operators behind a value that waits: each operand on the right is a constant, or waits
  pub data MayFollow : List (PendingOperationOf GoType) → Type 0 where
    none : MayFollow []
    constant : {operation : PendingOperationOf GoType} {rest : List (PendingOperationOf GoType)} (pos : Pos) (operator : BinaryOperator) (right_pos : Pos) (value : Constant) (rune : Bool) → operation ≡ o.Operand pos operator (p.Constant right_pos value rune) → MayFollow rest → MayFollow (operation ∷ rest)
    operand : {operation : PendingOperationOf GoType} {rest : List (PendingOperationOf GoType)} (pos : Pos) (operator : BinaryOperator) (right : PendingOf GoType) → operation ≡ o.Operand pos operator right → IsWaiting right → MayFollow rest → MayFollow (operation ∷ rest)
    count : {operation : PendingOperationOf GoType} {rest : List (PendingOperationOf GoType)} (pos : Pos) (operator : BinaryOperator) (count : TypedExprOf GoType) → operation ≡ o.Count pos operator count → MayFollow rest → MayFollow (operation ∷ rest)
