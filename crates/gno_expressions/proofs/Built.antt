-- The values that the turns of the loops build of what they read.
use Rattle.std.proofs.Common.{◌≡◌, ◌≢◌, refl, sym, ap, ◌∙◌, subst, ℕ, suc, zero, ◌-◌, List, arith}
use Rattle.gno_grammar.specs.Readers.{Outcome, got, and_then, map, run, why}
use Rattle.gno_scan.specs.declared.token.Token.{Token}
use Rattle.gno_reader.specs.Answers.{Fails, one_token}
use Rattle.gno_reader.specs.Scope.{Scope, reads}
use Rattle.gno_reader.proofs.Built.{built, fails_first, fails_same}
use Rattle.gno_reader.specs.declared.cursor.Failure.{Failure}
use Rattle.gno_rules.specs.Shapes.{end_of, shape_of_operand, with_suffix, shape_of_operands, with_operation, found_of_operands, operators_behind, within_place}
use Rattle.gno_rules.specs.Expressions.{suffix, unary, operations}
use Rattle.gno_rules.specs.declared.expression.Found.{Found}
use Rattle.gno_rules.specs.declared.expression.Operand.{Operand}
use Rattle.gno_rules.specs.declared.expression.Operands.{Operands}
use Rattle.gno_rules.specs.declared.expression.Place.{Place}
use Rattle.gno_rules.specs.declared.expression.Shape.{Shape}
use Rattle.gno_rules.specs.declared.expression.Suffix.{Suffix}
use Rattle.gno_rules.specs.declared.types.TypeEnd.{TypeEnd}
use Rattle.gno_expressions.specs.Turn.{turn, level}

-- ---- a step behind an operand

pub with_step : (scope : Scope) (place : Place) (x : Operand) (shape : Shape) (ts : List Token) (b : Suffix) (mid : List Token) (v : Operand) → shape ≡ shape_of_operand x
    → reads scope (λ text. suffix text place shape) ts ≡ got b mid → v ≡ with_suffix x b → map (with_suffix x) (reads scope (λ text. suffix text place (shape_of_operand x))) ts ≡ got v mid
with_step scope place x shape ts b mid v s e is =
    built (with_suffix x) (reads scope (λ text. suffix text place (shape_of_operand x)) ts) b mid v (subst (λ shape. reads scope (λ text. suffix text place shape) ts ≡ got b mid) s e) is

-- ---- an operator and its operand

module _ (scope : Scope) (place : Place) (n : ℕ) (os : Operands) where
  abbrev turn_read : List Token → Outcome Token (Token × Found)
  turn_read ts = reads scope (λ text. turn text place n (end_of (shape_of_operands os))) ts

  abbrev operator_read : TypeEnd → List Token → Outcome Token Token
  operator_read end ts = one_token (operators_behind end n) ts

  abbrev operand_read : Place → List Token → Outcome Token Found
  operand_read place ts = reads scope (λ text. operations text place n) ts

  abbrev behind_operator : Outcome Token Token → Outcome Token (Token × Found)
  behind_operator o = and_then o (λ t mid. and_then (operand_read (within_place place) mid) (λ e rest. got (t, e) rest))

  turn_is : (end : TypeEnd) (ts : List Token) → end ≡ end_of (shape_of_operands os) → turn_read ts ≡ behind_operator (operator_read end ts)
  unfolding run why one_token
  turn_is end ts s = subst (λ end. behind_operator (operator_read (end_of (shape_of_operands os)) ts) ≡ behind_operator (operator_read end ts)) (sym s) refl

  operator_got : (end : TypeEnd) (ts : List Token) (t : Token) (mid : List Token) → end ≡ end_of (shape_of_operands os) → operator_read end ts ≡ got t mid
      → turn_read ts ≡ behind_operator (got t mid)
  operator_got end ts t mid s e = turn_is end ts s ∙ ap {B = Outcome Token (Token × Found)} behind_operator e

  pub turn_built : (end : TypeEnd) (within : Place) (ts : List Token) (t : Token) (mid : List Token) (e : Found) (us : List Token) (v : Operands) → end ≡ end_of (shape_of_operands os) → within ≡ within_place place
      → operator_read end ts ≡ got t mid → operand_read within mid ≡ got e us → v ≡ with_operation os (t, e) → map (with_operation os) turn_read ts ≡ got v us
  turn_built end within ts t mid e us v s p o h is =
      built (with_operation os) (turn_read ts) (t, e) us v
      (operator_got end ts t mid s o ∙ ap {B = Outcome Token (Token × Found)} (λ o. and_then o (λ e rest. got (t, e) rest)) (subst (λ place. operand_read place mid ≡ got e us) p h)) is

  pub turn_operator_fails : (end : TypeEnd) (ts : List Token) (failure : Failure) (us : List Token) → end ≡ end_of (shape_of_operands os)
      → Fails (operator_read end ts) failure us → Fails (map (with_operation os) turn_read ts) failure us
  turn_operator_fails end ts failure us s h =
      fails_first (turn_read ts) (λ op rest. got (with_operation os op) rest) failure us
      (fails_same (turn_read ts) (behind_operator (operator_read end ts)) failure us (turn_is end ts s)
      (fails_first (operator_read end ts) (λ t mid. and_then (operand_read (within_place place) mid) (λ e rest. got (t, e) rest)) failure us h))

  pub turn_operand_fails : (end : TypeEnd) (within : Place) (ts : List Token) (t : Token) (mid : List Token) (failure : Failure) (us : List Token) → end ≡ end_of (shape_of_operands os) → within ≡ within_place place
      → operator_read end ts ≡ got t mid → Fails (operand_read within mid) failure us → Fails (map (with_operation os) turn_read ts) failure us
  turn_operand_fails end within ts t mid failure us s p o h =
      fails_first (turn_read ts) (λ op rest. got (with_operation os op) rest) failure us
      (fails_same (turn_read ts) (behind_operator (got t mid)) failure us (operator_got end ts t mid s o)
      (fails_first (operand_read (within_place place) mid) (λ e rest. got (t, e) rest) failure us (subst (λ place. Fails (operand_read place mid) failure us) p h)))

-- ---- the levels

module _ (scope : Scope) (place : Place) where
  abbrev level_read : ℕ → List Token → Outcome Token Operands
  level_read n ts = reads scope (λ text. level text place n) ts

  abbrev levels_read : ℕ → List Token → Outcome Token Found
  levels_read n ts = reads scope (λ text. operations text place n) ts

  pub no_level : (n : ℕ) (ts : List Token) → n ≡ 0 → levels_read n ts ≡ reads scope (λ text. unary text place) ts
  unfolding operations
  no_level n ts e = ap (λ n. levels_read n ts) e

  levels_are : (n : ℕ) (ts : List Token) → n ≢ 0 → levels_read n ts ≡ and_then (level_read (n - 1) ts) (λ os rest. got (found_of_operands os) rest)
  unfolding operations run
  levels_are zero ts l = absurd (l refl)
  levels_are (suc n) ts l =
      let e : suc n - 1 ≡ n = omega arith in
      subst (λ m. levels_read (suc n) ts ≡ and_then (level_read m ts) (λ os rest. got (found_of_operands os) rest)) (sym e) refl

  pub levels_built : (n : ℕ) (ts : List Token) (os : Operands) (mid : List Token) (v : Found) → n ≢ 0 → level_read (n - 1) ts ≡ got os mid → v ≡ found_of_operands os → levels_read n ts ≡ got v mid
  levels_built n ts os mid v l e is = levels_are n ts l ∙ built found_of_operands (level_read (n - 1) ts) os mid v e is

  pub levels_fail : (n : ℕ) (ts : List Token) (failure : Failure) (us : List Token) → n ≢ 0 → Fails (level_read (n - 1) ts) failure us → Fails (levels_read n ts) failure us
  levels_fail n ts failure us l h =
      fails_same (levels_read n ts) (and_then (level_read (n - 1) ts) (λ os rest. got (found_of_operands os) rest)) failure us (levels_are n ts l)
      (fails_first (level_read (n - 1) ts) (λ os rest. got (found_of_operands os) rest) failure us h)
