-- What stands for a value that waits, or for the operations of a chain, of a known form.
use Rattle.std.proofs.Common.{◌≡◌, refl, sym, ap, ◌∙◌, subst, List, [], ◌∷◌, Bool, Option}
use Rattle.gno_constants.specs.declared.constant.Constant.{Constant}
use Rattle.gno_judging.specs.Found.{FormStands, PendingStands, PendingsStand}
use Rattle.gno_judging.specs.Found.{PendingStands as pending, PendingsStand as pendings}
use Rattle.gno_judging.specs.Stands.{BothStand, Stands}
use Rattle.gno_scan.specs.declared.token.Pos.{Pos}
use Rattle.gno_terms.specs.declared.term.GoType.{GoType}
use Rattle.gno_terms.specs.declared.term.TypeRef.{TypeRef}
use Rattle.gno_terms.specs.Tables.{Is, Table}
use Rattle.gno_tree.specs.declared.operator.BinaryOperator.{BinaryOperator}
use Rattle.gno_tree.specs.declared.operator.UnaryOperator.{UnaryOperator}
use Rattle.gno_typed.specs.declared.expr.TypedExprOf.{TypedExprOf}
use Rattle.gno_typing.specs.declared.form.FormOf.{FormOf}
use Rattle.gno_typing.specs.declared.pending.PendingOf.{PendingOf, out-PendingOf, out-roll-PendingOf}
use Rattle.gno_typing.specs.declared.pending.PendingOf.TheOpen.{PendingOf-F}
use Rattle.gno_typing.specs.declared.pending.PendingOf.TheVariants as p
use Rattle.gno_typing.specs.declared.pending.PendingOperationOf.{PendingOperationOf}
use Rattle.gno_typing.specs.declared.pending.PendingOperationOf.TheVariants as o

abbrev Layer : Type 0
Layer = PendingOf-F TypeRef (PendingOf TypeRef) (PendingOperationOf TypeRef)

abbrev layer : PendingOf TypeRef → Layer
layer x = out-PendingOf TypeRef x

comparison_layer : (at : Pos) (operator : BinaryOperator) (operands : TypeRef) (boxed : Option TypeRef) (left : FormOf TypeRef) (right : TypedExprOf TypeRef) → layer (p.Comparison at operator operands boxed left right) ≡ PendingOf-F.Comparison at operator operands boxed left right
comparison_layer at operator operands boxed left right = ap layer (sym (p.rolls-Comparison at operator operands boxed left right)) ∙ out-roll-PendingOf TypeRef _

constant_layer : (at : Pos) (value : Constant) (rune : Bool) → layer (p.Constant at value rune) ≡ PendingOf-F.Constant at value rune
constant_layer at value rune = ap layer (sym (p.rolls-Constant at value rune)) ∙ out-roll-PendingOf TypeRef _

unary_layer : (at : Pos) (operator : UnaryOperator) (operand : PendingOf TypeRef) → layer (p.Unary at operator operand) ≡ PendingOf-F.Unary at operator operand
unary_layer at operator operand = ap layer (sym (p.rolls-Unary at operator operand)) ∙ out-roll-PendingOf TypeRef _

chain_layer : (first : PendingOf TypeRef) (rest : List (PendingOperationOf TypeRef)) → layer (p.Chain first rest) ≡ PendingOf-F.Chain first rest
chain_layer first rest = ap layer (sym (p.rolls-Chain first rest)) ∙ out-roll-PendingOf TypeRef _

module _ (table : Table) where
  pub record ComparisonStands (at : Pos) (operator : BinaryOperator) (r : TypeRef) (from : Option TypeRef) (a : FormOf TypeRef) (c : TypedExprOf TypeRef) (y : PendingOf GoType) : Type 0 where
    pub operands : GoType
    pub boxed : Option GoType
    pub left : FormOf GoType
    pub right : TypedExprOf GoType
    pub y_is : y ≡ p.Comparison at operator operands boxed left right
    pub operands_stand : Is table r operands
    pub boxed_stands : BothStand (Is table) from boxed
    pub left_stands : FormStands table a left
    pub right_stands : Stands table c right

  pub record UnaryStands (at : Pos) (operator : UnaryOperator) (a : PendingOf TypeRef) (y : PendingOf GoType) : Type 0 where
    pub operand : PendingOf GoType
    pub y_is : y ≡ p.Unary at operator operand
    pub stands : PendingStands table a operand

  pub record ChainStands (a : PendingOf TypeRef) (ps : List (PendingOperationOf TypeRef)) (y : PendingOf GoType) : Type 0 where
    pub front : PendingOf GoType
    pub rest : List (PendingOperationOf GoType)
    pub y_is : y ≡ p.Chain front rest
    pub front_stands : PendingStands table a front
    pub rest_stands : PendingsStand table ps rest

  abbrev StandsBy : PendingOf GoType → Layer → Type 0
  StandsBy y (PendingOf-F.Comparison at operator r from a c) = ComparisonStands at operator r from a c y
  StandsBy y (PendingOf-F.Constant at value rune) = y ≡ p.Constant at value rune
  StandsBy y (PendingOf-F.Unary at operator a) = UnaryStands at operator a y
  StandsBy y (PendingOf-F.Chain a ps) = ChainStands a ps y

  stands_by : {x : PendingOf TypeRef} {y : PendingOf GoType} → PendingStands table x y → StandsBy y (layer x)
  stands_by {x} {y} (pending.comparison {r = r} {s = s} {from = from} {to = to} {a = a} {b = b} {c = c} {d = d} at operator is y_is operands boxed left right) =
      subst (StandsBy y) (sym (ap layer is ∙ comparison_layer at operator r from a c)) (record { operands = s; boxed = to; left = b; right = d; y_is = y_is; operands_stand = operands; boxed_stands = boxed; left_stands = left; right_stands = right })
  stands_by {x} {y} (pending.constant at value rune is y_is) = subst (StandsBy y) (sym (ap layer is ∙ constant_layer at value rune)) y_is
  stands_by {x} {y} (pending.unary {a = a} {b = b} at operator is y_is stands) = subst (StandsBy y) (sym (ap layer is ∙ unary_layer at operator a)) (record { operand = b; y_is = y_is; stands = stands })
  stands_by {x} {y} (pending.chain {a = a} {b = b} {ps = ps} {qs = qs} is y_is front rest) = subst (StandsBy y) (sym (ap layer is ∙ chain_layer a ps)) (record { front = b; rest = qs; y_is = y_is; front_stands = front; rest_stands = rest })

  pub comparison_stands : {x : PendingOf TypeRef} {y : PendingOf GoType} (at : Pos) (operator : BinaryOperator) (r : TypeRef) (from : Option TypeRef) (a : FormOf TypeRef) (c : TypedExprOf TypeRef) → x ≡ p.Comparison at operator r from a c → PendingStands table x y → ComparisonStands at operator r from a c y
  comparison_stands {x} {y} at operator r from a c is h = subst (StandsBy y) (ap layer is ∙ comparison_layer at operator r from a c) (stands_by h)

  pub constant_stands : {x : PendingOf TypeRef} {y : PendingOf GoType} (at : Pos) (value : Constant) (rune : Bool) → x ≡ p.Constant at value rune → PendingStands table x y → y ≡ p.Constant at value rune
  constant_stands {x} {y} at value rune is h = subst (StandsBy y) (ap layer is ∙ constant_layer at value rune) (stands_by h)

  pub unary_stands : {x : PendingOf TypeRef} {y : PendingOf GoType} (at : Pos) (operator : UnaryOperator) (a : PendingOf TypeRef) → x ≡ p.Unary at operator a → PendingStands table x y → UnaryStands at operator a y
  unary_stands {x} {y} at operator a is h = subst (StandsBy y) (ap layer is ∙ unary_layer at operator a) (stands_by h)

  pub chain_stands : {x : PendingOf TypeRef} {y : PendingOf GoType} (a : PendingOf TypeRef) (ps : List (PendingOperationOf TypeRef)) → x ≡ p.Chain a ps → PendingStands table x y → ChainStands a ps y
  chain_stands {x} {y} a ps is h = subst (StandsBy y) (ap layer is ∙ chain_layer a ps) (stands_by h)

  -- the operations of a chain
  pub record OperandStands (at : Pos) (operator : BinaryOperator) (a : PendingOf TypeRef) (ps : List (PendingOperationOf TypeRef)) (os : List (PendingOperationOf GoType)) : Type 0 where
    pub operand : PendingOf GoType
    pub rest : List (PendingOperationOf GoType)
    pub is : os ≡ o.Operand at operator operand ∷ rest
    pub stands : PendingStands table a operand
    pub rest_stands : PendingsStand table ps rest

  pub record CountStands (at : Pos) (operator : BinaryOperator) (a : TypedExprOf TypeRef) (ps : List (PendingOperationOf TypeRef)) (os : List (PendingOperationOf GoType)) : Type 0 where
    pub count : TypedExprOf GoType
    pub rest : List (PendingOperationOf GoType)
    pub is : os ≡ o.Count at operator count ∷ rest
    pub stands : Stands table a count
    pub rest_stands : PendingsStand table ps rest

  abbrev OperationsBy : List (PendingOperationOf GoType) → List (PendingOperationOf TypeRef) → Type 0
  OperationsBy os [] = os ≡ []
  OperationsBy os (o.Operand at operator a ∷ ps) = OperandStands at operator a ps os
  OperationsBy os (o.Count at operator a ∷ ps) = CountStands at operator a ps os

  operations_by : {ps : List (PendingOperationOf TypeRef)} {os : List (PendingOperationOf GoType)} → PendingsStand table ps os → OperationsBy os ps
  operations_by pendings.none = refl
  operations_by (pendings.operand {x = x} {y = y} {a = a} {b = b} {xs = xs} {ys = ys} at operator x_is y_is stands rest) =
      subst (λ z. OperationsBy (y ∷ ys) (z ∷ xs)) (sym x_is) (record { operand = b; rest = ys; is = ap (λ z. z ∷ ys) y_is; stands = stands; rest_stands = rest })
  operations_by (pendings.count {x = x} {y = y} {a = a} {b = b} {xs = xs} {ys = ys} at operator x_is y_is stands rest) =
      subst (λ z. OperationsBy (y ∷ ys) (z ∷ xs)) (sym x_is) (record { count = b; rest = ys; is = ap (λ z. z ∷ ys) y_is; stands = stands; rest_stands = rest })

  pub operand_stands : {os : List (PendingOperationOf GoType)} (x : PendingOperationOf TypeRef) (ps : List (PendingOperationOf TypeRef)) (at : Pos) (operator : BinaryOperator) (a : PendingOf TypeRef) → x ≡ o.Operand at operator a → PendingsStand table (x ∷ ps) os → OperandStands at operator a ps os
  operand_stands {os} x ps at operator a is h = subst (λ z. OperationsBy os (z ∷ ps)) is (operations_by h)

  pub count_stands : {os : List (PendingOperationOf GoType)} (x : PendingOperationOf TypeRef) (ps : List (PendingOperationOf TypeRef)) (at : Pos) (operator : BinaryOperator) (a : TypedExprOf TypeRef) → x ≡ o.Count at operator a → PendingsStand table (x ∷ ps) os → CountStands at operator a ps os
  count_stands {os} x ps at operator a is h = subst (λ z. OperationsBy os (z ∷ ps)) is (operations_by h)

  pub no_operations : {os : List (PendingOperationOf GoType)} → PendingsStand table [] os → os ≡ []
  no_operations h = operations_by h
