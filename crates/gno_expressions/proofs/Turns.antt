-- The turns of the loops: each takes a token.
use Rattle.std.proofs.Common.{◌≡◌, refl, ap, ℕ, suc, zero, ◌<◌, List, [], ◌∷◌, ◌++◌, length, arith}
use Rattle.gno_grammar.specs.Readers.{got, null, first}
use Rattle.gno_grammar.specs.Deciding.{Sound}
use Rattle.gno_scan.specs.declared.token.Token.{Token}
use Rattle.gno_reader.specs.Scope.{Scope, reads}
use Rattle.gno_reader.proofs.Turns.{takes}
use Rattle.gno_rules.specs.Kinds.{numbers}
use Rattle.gno_rules.specs.Shapes.{end_of, shape_of_operands, operators_behind}
use Rattle.gno_rules.specs.Expressions.{type_suffix, function_suffix, plain_suffix, suffix, operations}
use Rattle.gno_rules.specs.Table.{grammar}
use Rattle.gno_rules.specs.declared.expression.Found.{Found}
use Rattle.gno_rules.specs.declared.expression.Operands.{Operands}
use Rattle.gno_rules.specs.declared.expression.Place.{Place}
use Rattle.gno_rules.specs.declared.expression.Place.TheVariants.{Plain, Header, Guard}
use Rattle.gno_rules.specs.declared.expression.Shape.{Shape}
use Rattle.gno_rules.specs.declared.expression.Shape.TheVariants as s
use Rattle.gno_rules.specs.declared.expression.Suffix.{Suffix}
use Rattle.gno_rules.specs.declared.types.TypeEnd.{TypeEnd}
use Rattle.gno_rules.specs.declared.types.TypeEnd.TheVariants.{Closed, Name as Named, Open}
use Rattle.gno_rule_laws.proofs.OperandsSound.{sound_suffix, null_suffix}
use Rattle.gno_rule_laws.proofs.OperationsSound.{sound_operations_1, sound_operations_2, sound_operations_3, sound_operations_4, sound_operations_5}
use Rattle.gno_expressions.specs.Turn.{turn}
use Rattle.gno_reader.proofs.Shown.{steps}

pub takes_suffix : (scope : Scope) (place : Place) (x : Shape) (ts : List Token) (v : Suffix) (rest : List Token)
    → reads scope (λ text. suffix text place x) ts ≡ got v rest → length rest < length ts
takes_suffix scope place x ts v rest e = takes scope (λ text. suffix text place x) (sound_suffix scope.text place x) (null_suffix scope.text place x) ts v rest e

-- ---- an operator of a level, and its operand

sound_turn : (text : List ℕ) (place : Place) (n : ℕ) → n < 5 → (os : Operands) → Sound (grammar text) (turn text place n (end_of (shape_of_operands os)))
unfolding operations
sound_turn text place zero h os = (sound_operations_1 text place).0.1 os
sound_turn text place (suc zero) h os = (sound_operations_2 text place).0.1 os
sound_turn text place (suc (suc zero)) h os = (sound_operations_3 text place).0.1 os
sound_turn text place (suc (suc (suc zero))) h os = (sound_operations_4 text place).0.1 os
sound_turn text place (suc (suc (suc (suc zero)))) h os = (sound_operations_5 text place).0.1 os
sound_turn text place (suc (suc (suc (suc (suc n))))) h os = absurd (omega (arith, h))

pub takes_turn : (scope : Scope) (place : Place) (n : ℕ) → n < 5 → (os : Operands) (ts : List Token) (v : Token × Found) (rest : List Token)
    → reads scope (λ text. turn text place n (end_of (shape_of_operands os))) ts ≡ got v rest → length rest < length ts
unfolding null
takes_turn scope place n h os ts v rest e = takes scope (λ text. turn text place n (end_of (shape_of_operands os))) (sound_turn scope.text place n h os) refl ts v rest e

none_behind : (xs : List ℕ) → xs ++ [] ≡ xs
none_behind [] = refl
none_behind (x ∷ xs) = ap (λ ys. x ∷ ys) (none_behind xs)

-- the kinds that begin a turn are the operators
pub first_turn : (text : List ℕ) (place : Place) (n : ℕ) (end : TypeEnd) → first (grammar text) (turn text place n end) ≡ numbers (operators_behind end n)
unfolding first null
first_turn text place n end = none_behind (numbers (operators_behind end n))

-- ---- a step behind an operand

-- the kinds that begin one are the same in each text
type_suffix_first : (text : List ℕ) (end : TypeEnd) → first (grammar []) (type_suffix [] end) ≡ first (grammar text) (type_suffix text end)
unfolding first null steps
type_suffix_first text Closed = refl
type_suffix_first text Named = refl
type_suffix_first text Open = refl

function_suffix_first : (text : List ℕ) (end : TypeEnd) → first (grammar []) (function_suffix [] end) ≡ first (grammar text) (function_suffix text end)
unfolding first null steps
function_suffix_first text Closed = refl
function_suffix_first text Named = refl
function_suffix_first text Open = refl

plain_suffix_first : (text : List ℕ) (x : Shape) → first (grammar []) (plain_suffix [] x) ≡ first (grammar text) (plain_suffix text x)
unfolding first null steps
plain_suffix_first text s.Name = refl
plain_suffix_first text s.Qualified = refl
plain_suffix_first text (s.Type end) = type_suffix_first text end
plain_suffix_first text (s.Function end) = function_suffix_first text end
plain_suffix_first text (s.Pointer end) = refl
plain_suffix_first text s.Paren = refl
plain_suffix_first text (s.Other end) = refl
plain_suffix_first text s.Guard = refl

pub first_suffix : (text : List ℕ) (place : Place) (x : Shape) → first (grammar []) (suffix [] place x) ≡ first (grammar text) (suffix text place x)
unfolding first null steps
first_suffix text Plain x = plain_suffix_first text x
first_suffix text Header x = refl
first_suffix text Guard x = refl
