-- The loops of this crate, each with the phrase of its turns and the test of its code.
use Rattle.std.proofs.Common.{◌≡◌, sym, ap, ◌∙◌, subst, ℕ, suc, ◌<◌, Bool, true, false, ◌&&◌, not, List, [], length}
use Rattle.gno_grammar.specs.Readers.{Outcome, got, map, begins, first}
use Rattle.gno_grammar.proofs.Loops.{Going, go_end, turn_shorter, turn_goes}
use Rattle.gno_scan.specs.declared.token.Token.{Token}
use Rattle.gno_reader.specs.Answers.{Fails}
use Rattle.gno_reader.specs.Scope.{Scope, reads}
use Rattle.gno_reader.specs.declared.cursor.Failure.{Failure}
use Rattle.gno_reader.proofs.Built.{read_given}
use Rattle.gno_reader.proofs.Turns.{turn_fails, chain_going}
use Rattle.gno_rules.specs.Kinds.{code, numbers}
use Rattle.gno_rules.specs.Parts.{P, given}
use Rattle.gno_rules.specs.Shapes.{operands, operators, behind, MOST, SUFFIX, end_of, is_guard, shape_of_operand, with_suffix, shape_of_operands, with_operation, operators_behind}
use Rattle.gno_rules.specs.Expressions.{suffix, operand_alone, stepped, operations}
use Rattle.gno_rules.specs.Table.{grammar}
use Rattle.gno_rules.specs.declared.expression.Found.{Found}
use Rattle.gno_rules.specs.declared.expression.Operand.{Operand}
use Rattle.gno_rules.specs.declared.expression.Operands.{Operands}
use Rattle.gno_rules.specs.declared.expression.Place.{Place}
use Rattle.gno_rules.specs.declared.expression.Suffix.{Suffix}
use Rattle.gno_expressions.specs.Turn.{turn, level}
use Rattle.gno_expressions.proofs.Turns.{takes_suffix, takes_turn, first_turn, first_suffix}

-- ---- the steps behind an operand

module _ (scope : Scope) (place : Place) where
  abbrev step_at : Operand → List ℕ → P Suffix
  step_at x text = suffix text place (shape_of_operand x)

  -- a step may follow
  abbrev steps_on : Operand → Bool
  steps_on x = not (is_guard (shape_of_operand x))

  abbrev steps_begin : Operand → List ℕ
  steps_begin x = first (grammar scope.text) (step_at x scope.text)

  abbrev steps_read : Operand → List Token → Outcome Token Suffix
  steps_read x ts = reads scope (step_at x) ts

  abbrev pub Steps : List Token → Operand → List Token → Type 0
  Steps old x ts = Going code steps_on steps_begin steps_read with_suffix (reads scope (λ text. stepped text place) old) x ts

  pub steps_start : (old : List Token) (x : Operand) (mid : List Token) → reads scope (λ text. operand_alone text place) old ≡ got x mid → Steps old x mid
  unfolding stepped
  steps_start old x mid e = chain_going scope (λ x. behind place 0 (shape_of_operand x)) (MOST place 0) (SUFFIX place) steps_on with_suffix
      (λ text. operand_alone text place) (λ text x. suffix text place (shape_of_operand x)) old x mid e

  -- what the code tests
  abbrev pub steps_tested : Operand → List Token → Bool
  steps_tested x ts = steps_on x && begins code (first (grammar []) (step_at x [])) ts

  steps_same : (x : Operand) (ts : List Token) (b : Bool) → b ≡ steps_tested x ts → (steps_on x && begins code (steps_begin x) ts) ≡ b
  steps_same x ts b e = sym (e ∙ ap (λ s. steps_on x && begins code s ts) (first_suffix scope.text place (shape_of_operand x)))

  pub steps_fail : (old : List Token) (x : Operand) (ts : List Token) (failure : Failure) (us : List Token) → true ≡ steps_tested x ts
      → Fails (map (with_suffix x) (steps_read x) ts) failure us → Steps old x ts → Fails (reads scope (λ text. stepped text place) old) failure us
  steps_fail old x ts failure us t h g = turn_fails steps_on steps_begin steps_read with_suffix (reads scope (λ text. stepped text place) old) x ts failure us (steps_same x ts true t) h g

  pub steps_fall : (x : Operand) (ts : List Token) (v : Operand) (mid : List Token) → map (with_suffix x) (steps_read x) ts ≡ got v mid → length mid < length ts
  steps_fall x ts v mid e = turn_shorter code steps_on steps_begin steps_read with_suffix x ts v mid (λ b mid. takes_suffix scope place (shape_of_operand x) ts b mid) e

  pub steps_go : (old : List Token) (x : Operand) (ts : List Token) (v : Operand) (mid : List Token) → true ≡ steps_tested x ts
      → map (with_suffix x) (steps_read x) ts ≡ got v mid → Steps old x ts → Steps old v mid
  steps_go old x ts v mid t e g = turn_goes code steps_on steps_begin steps_read with_suffix (reads scope (λ text. stepped text place) old) x ts v mid
      (λ b mid. takes_suffix scope place (shape_of_operand x) ts b mid) (steps_same x ts true t) e g

  pub steps_end : (old : List Token) (x : Operand) (ts : List Token) → false ≡ steps_tested x ts → Steps old x ts → reads scope (λ text. stepped text place) old ≡ got x ts
  steps_end old x ts t g = go_end code steps_on steps_begin steps_read with_suffix (reads scope (λ text. stepped text place) old) x ts (steps_same x ts false t) g

-- ---- the operations of a level

module _ (scope : Scope) (place : Place) (n : ℕ) where
  abbrev turn_at : Operands → List ℕ → P (Token × Found)
  turn_at os text = turn text place n (end_of (shape_of_operands os))

  abbrev turns_on : Operands → Bool
  turns_on os = not (is_guard (shape_of_operands os))

  abbrev turns_begin : Operands → List ℕ
  turns_begin os = first (grammar scope.text) (turn_at os scope.text)

  abbrev turns_read : Operands → List Token → Outcome Token (Token × Found)
  turns_read os ts = reads scope (turn_at os) ts

  abbrev pub Turns : List Token → Operands → List Token → Type 0
  Turns old os ts = Going code turns_on turns_begin turns_read with_operation (reads scope (λ text. level text place n) old) os ts

  pub turns_start : (old : List Token) (os : Operands) (e : Found) (mid : List Token) → os ≡ operands e → reads scope (λ text. operations text place n) old ≡ got e mid → Turns old os mid
  turns_start old os e mid o h = subst (λ os. Turns old os mid) (sym o)
      (chain_going scope (λ os. behind place (suc n) (shape_of_operands os)) (MOST place (suc n)) (numbers (operators n)) turns_on with_operation
      (λ text. given (λ os. behind place n (shape_of_operands os)) (MOST place n) operands (operations text place n)) (λ text os. turn text place n (end_of (shape_of_operands os))) old (operands e) mid
      (read_given scope (λ os. behind place n (shape_of_operands os)) (MOST place n) operands (λ text. operations text place n) old e mid h))

  -- what the code tests
  abbrev pub turns_tested : Operands → List Token → Bool
  turns_tested os ts = turns_on os && begins code (numbers (operators_behind (end_of (shape_of_operands os)) n)) ts

  turns_same : (os : Operands) (ts : List Token) (b : Bool) → b ≡ turns_tested os ts → (turns_on os && begins code (turns_begin os) ts) ≡ b
  turns_same os ts b e = sym (e ∙ ap (λ s. turns_on os && begins code s ts) (sym (first_turn scope.text place n (end_of (shape_of_operands os)))))

  pub turns_fail : (old : List Token) (os : Operands) (ts : List Token) (failure : Failure) (us : List Token) → true ≡ turns_tested os ts
      → Fails (map (with_operation os) (turns_read os) ts) failure us → Turns old os ts → Fails (reads scope (λ text. level text place n) old) failure us
  turns_fail old os ts failure us t h g = turn_fails turns_on turns_begin turns_read with_operation (reads scope (λ text. level text place n) old) os ts failure us (turns_same os ts true t) h g

  pub turns_fall : n < 5 → (os : Operands) (ts : List Token) (v : Operands) (mid : List Token) → map (with_operation os) (turns_read os) ts ≡ got v mid → length mid < length ts
  turns_fall l os ts v mid e = turn_shorter code turns_on turns_begin turns_read with_operation os ts v mid (λ b mid. takes_turn scope place n l os ts b mid) e

  pub turns_go : n < 5 → (old : List Token) (os : Operands) (ts : List Token) (v : Operands) (mid : List Token) → true ≡ turns_tested os ts
      → map (with_operation os) (turns_read os) ts ≡ got v mid → Turns old os ts → Turns old v mid
  turns_go l old os ts v mid t e g = turn_goes code turns_on turns_begin turns_read with_operation (reads scope (λ text. level text place n) old) os ts v mid
      (λ b mid. takes_turn scope place n l os ts b mid) (turns_same os ts true t) e g

  pub turns_end : (old : List Token) (os : Operands) (ts : List Token) → false ≡ turns_tested os ts → Turns old os ts → reads scope (λ text. level text place n) old ≡ got os ts
  turns_end old os ts t g = go_end code turns_on turns_begin turns_read with_operation (reads scope (λ text. level text place n) old) os ts (turns_same os ts false t) g
