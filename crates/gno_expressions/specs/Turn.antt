-- The operations of one level, and an operator with the operand behind it, as phrases of their own.
use Rattle.std.specs.Prelude.{ℕ, suc, List, not}
use Rattle.gno_grammar.specs.Phrases.{chain, follow}
use Rattle.gno_scan.specs.declared.token.Token.{Token}
use Rattle.gno_rules.specs.Kinds.{numbers}
use Rattle.gno_rules.specs.Parts.{P, any, given}
use Rattle.gno_rules.specs.Shapes.{end_of, is_guard, shape_of, operands, with_operation, shape_of_operands, operators, operators_behind, behind, MOST, EXPRESSION, within_place}
use Rattle.gno_rules.specs.Expressions.{operations}
use Rattle.gno_rules.specs.declared.expression.Found.{Found}
use Rattle.gno_rules.specs.declared.expression.Operands.{Operands}
use Rattle.gno_rules.specs.declared.expression.Place.{Place}
use Rattle.gno_rules.specs.declared.types.TypeEnd.{TypeEnd}

-- an operator of that level, behind an operand that ends so, and its operand
abbrev pub turn : List ℕ → Place → ℕ → TypeEnd → P (Token × Found)
turn text place n end = follow (λ op. behind place n (shape_of op.1)) (MOST place n) EXPRESSION (λ t e. (t, e)) (any (operators_behind end n)) (λ _. operations text (within_place place) n)

-- operands with operators of that level between them
abbrev pub level : List ℕ → Place → ℕ → P Operands
level text place n = chain (λ os. behind place (suc n) (shape_of_operands os)) (MOST place (suc n)) (numbers (operators n)) (λ os. not (is_guard (shape_of_operands os))) with_operation
    (given (λ os. behind place n (shape_of_operands os)) (MOST place n) operands (operations text place n))
    (λ os. turn text place n (end_of (shape_of_operands os)))
