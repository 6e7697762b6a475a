-- One token decides in operands with operators between them.
use Rattle.std.proofs.Common.{◌≡◌, refl, sym, subst, ℕ, suc, zero, Bool, true, false, not, ◌&&◌, ◌||◌, List, [], ◌∷◌, ◌++◌}
use Rattle.gno_grammar.specs.Sets.{disjoint, within, choose}
use Rattle.gno_grammar.specs.Phrases.{follow, chain}
use Rattle.gno_grammar.specs.Readers.{null, first}
use Rattle.gno_grammar.specs.Deciding.{empty, quiet_after, most, more, Sound}
use Rattle.gno_grammar.proofs.Plain.{plain, easy}
use Rattle.gno_scan.specs.declared.token.Token.{Token}
use Rattle.gno_tree.specs.declared.expr.Expr.{Expr}
use Rattle.gno_tree.specs.declared.expr.Operation.{Operation}
use Rattle.gno_rules.specs.Kinds.{numbers}
use Rattle.gno_rules.specs.Parts.{P, any, given}
use Rattle.gno_rules.specs.Shapes.{end_of, may_be_type, is_guard, shape_of, is_star, prefixed, operands, with_operation, shape_with, found_with, shape_of_operands, found_of_operands, operators, operators_behind, behind, MOST, UNARY, EXPRESSION, within_place}
use Rattle.gno_rules.specs.Expressions.{found_more, primary, unary_operand, unary, operations, expr}
use Rattle.gno_rules.specs.Table.{grammar}
use Rattle.gno_rules.specs.declared.expression.Found.{Found}
use Rattle.gno_rules.specs.declared.expression.Found.TheVariants as f
use Rattle.gno_rules.specs.declared.expression.Operands.{Operands}
use Rattle.gno_rules.specs.declared.expression.Place.{Place}
use Rattle.gno_rules.specs.declared.expression.Place.TheVariants.{Plain, Header, Guard}
use Rattle.gno_rules.specs.declared.expression.Shape.{Shape}
use Rattle.gno_rules.specs.declared.expression.Shape.TheVariants as s
use Rattle.gno_rules.specs.declared.types.TypeEnd.{TypeEnd}
use Rattle.gno_rule_laws.proofs.EachCase.{each_end, each_place, each_placed, at_ends, at_places, at_placed, unless, within_itself, within_over, quiet_behind_none, sound_given}
use Rattle.gno_rule_laws.proofs.OperandsSound.{shown, sound_primary}

module _ (text : List ℕ) where
  -- ---- operators before an operand

  sound_unary_operand : (place : Place) → Sound (grammar text) (unary_operand text place)
  sound_unary_operand Plain = tt
  sound_unary_operand Header = tt
  sound_unary_operand Guard = tt

  unary_operand_quiet : (place : Place) (t : Token) → quiet_after (found_more place 0) prefixed [] t (empty (unary_operand text place)) ≡ true
  unary_operand_quiet place t = quiet_behind_none (found_more place 0) prefixed t (empty (unary_operand text place))

  -- whether or not it is a `*` before what may be a type, the end stays the same
  prefixed_behind : (star : Bool) (place : Place) (x : Shape)
      → within (behind (within_place place) 0 x) (behind place 0 (choose (star && may_be_type x) (s.Pointer (end_of x)) (s.Other (end_of x)))) ≡ true
  unfolding shown
  prefixed_behind true place x = each_placed (λ place x. within (behind (within_place place) 0 x) (behind place 0 (choose (may_be_type x) (s.Pointer (end_of x)) (s.Other (end_of x))))) refl place x
  prefixed_behind false place x = each_placed (λ place x. within (behind (within_place place) 0 x) (behind place 0 (s.Other (end_of x)))) refl place x

  prefixed_within : (place : Place) (t : Token) (e : Found) → within (more (grammar text) (unary_operand text place) e) (found_more place 0 (prefixed t e)) ≡ true
  unfolding shown
  prefixed_within Plain t e = prefixed_behind (is_star t.kind) Plain (shape_of e)
  prefixed_within Header t e = prefixed_behind (is_star t.kind) Header (shape_of e)
  prefixed_within Guard t e = prefixed_behind (is_star t.kind) Guard (shape_of e)

  pub sound_unary : (place : Place) → Sound (grammar text) (unary text place)
  unfolding shown unary
  sound_unary place = (
    (
      easy (grammar text) (any UNARY) refl,
      λ _. sound_unary_operand place,
      λ t. unary_operand_quiet place t,
      λ t. refl,
      λ t e. prefixed_within place t e,
      λ e. each_placed (λ place x. within (behind place 0 x) (MOST place 0)) refl place (shape_of e),
      λ _. each_place (λ place. within (first (grammar text) (unary_operand text place)) EXPRESSION) refl place,
    ),
    sound_primary text place,
    refl,
    each_place (λ place. disjoint (numbers UNARY ++ []) (first (grammar text) (primary text place))) refl place,
  )

  unary_shaped : (place : Place) (x : Shape) (e : Expr) → within (more (grammar text) (unary text place) (f.Expr e x)) (behind place 0 x) ≡ true
  unfolding shown unary
  unary_shaped place x e = each_placed (λ place x. within (more (grammar text) (unary text place) (f.Expr e x)) (behind place 0 x)) refl place x

  pub unary_within : (place : Place) (e : Found) → within (more (grammar text) (unary text place) e) (found_more place 0 e) ≡ true
  unfolding shown unary
  unary_within place (f.Name n) = each_place (λ place. within (more (grammar text) (unary text place) (f.Name n)) (behind place 0 s.Name)) refl place
  unary_within place (f.Expr e x) = unary_shaped place x e
  unary_within place (f.Guard e pos) = each_place (λ place. within (more (grammar text) (unary text place) (f.Guard e pos)) (behind place 0 s.Guard)) refl place

  -- what goes on with an expression is what its shape says
  pub operations_within : (n : ℕ) (place : Place) (e : Found) → within (more (grammar text) (operations text place n) e) (found_more place n e) ≡ true
  unfolding more operations
  operations_within zero place e = unary_within place e
  operations_within (suc n) place e = within_itself (found_more place (suc n) e)

  -- ---- the operators of one level

  -- the kinds that begin a turn of a level, behind such an end
  abbrev turn_first : TypeEnd → ℕ → List ℕ
  turn_first e n = numbers (operators_behind e n) ++ []

  -- what has to hold of the sets of a level: 0 each operator is a token; 1 what goes on is within what is written down;
  -- 2 no operator goes on with an operand, and 3 each is among what goes on with operations, with which 4 what goes on with a last operand
  -- and 5 with a first one goes on too; 6 an operand behind an operator is one of the place; 7 the operators are those of the level; 8 as 1, of operations
  abbrev Fits : ℕ → Type 0
  Fits n = (at_ends (λ e. plain (grammar text) (any (operators_behind e n))) ≡ true)
      × (at_placed (λ place x. within (behind place n x) (MOST place n)) ≡ true)
      × (at_placed (λ place x. disjoint (behind place n x) (turn_first (end_of x) n)) ≡ true)
      × (at_placed (λ place x. is_guard x || within (turn_first (end_of x) n) (behind place (suc n) x)) ≡ true)
      × (at_placed (λ place x. within (behind place n x) (behind place (suc n) (s.Other (end_of x)))) ≡ true)
      × (at_placed (λ place x. within (behind place n x) (behind place (suc n) x)) ≡ true)
      × (at_placed (λ place x. within (behind (within_place place) n x) (behind place n x)) ≡ true)
      × (at_ends (λ e. within (turn_first e n) (numbers (operators n))) ≡ true)
      × (at_placed (λ place x. within (behind place (suc n) x) (MOST place (suc n))) ≡ true)

  shape_with_last : (rest : List Operation) (one : Operation) (os : Operands) → shape_with (rest ++ one ∷ []) os ≡ s.Other os.end
  shape_with_last [] one os = refl
  shape_with_last (op ∷ ops) one os = refl

  shape_after : (os : Operands) (op : Token × Found) → shape_of_operands (with_operation os op) ≡ s.Other (end_of (shape_of op.1))
  shape_after os op = shape_with_last os.rest _ (with_operation os op)

  found_shape : (rest : List Operation) (os : Operands) → shape_of (found_with rest os) ≡ shape_with rest os
  found_shape [] os = refl
  found_shape (op ∷ ops) os = refl

  -- an operator of a level, and its operand
  abbrev turn : Place → ℕ → TypeEnd → P (Token × Found)
  turn place n e = follow (λ op. behind place n (shape_of op.1)) (MOST place n) EXPRESSION (λ t e. (t, e)) (any (operators_behind e n)) (λ _. operations text (within_place place) n)

  abbrev level : Place → ℕ → P Operands
  level place n = chain (λ os. behind place (suc n) (shape_of_operands os)) (MOST place (suc n)) (numbers (operators n)) (λ os. not (is_guard (shape_of_operands os))) with_operation
      (given (λ os. behind place n (shape_of_operands os)) (MOST place n) operands (operations text place n))
      (λ os. turn place n (end_of (shape_of_operands os)))

  turn_sound : (place : Place) (n : ℕ) → Fits n → ((place : Place) → Sound (grammar text) (operations text place n))
      → ((place : Place) → within (first (grammar text) (operations text place n)) EXPRESSION ≡ true)
      → (e : TypeEnd) → Sound (grammar text) (turn place n e)
  unfolding disjoint within null first more
  turn_sound place n fits sound begins e = (
    easy (grammar text) (any (operators_behind e n)) (each_end (λ e. plain (grammar text) (any (operators_behind e n))) fits.0 e),
    λ _. sound (within_place place),
    λ t. quiet_behind_none {A = Token} {B = Found} {C = Token × Found} (λ op. behind place n (shape_of op.1)) (λ t e. (t, e)) t (empty (operations text (within_place place) n)),
    λ _. refl,
    λ t v. within_over (more (grammar text) (operations text (within_place place) n) v) (behind (within_place place) n (shape_of v)) (behind place n (shape_of v))
        (operations_within n (within_place place) v) (each_placed (λ place x. within (behind (within_place place) n x) (behind place n x)) fits.6 place (shape_of v)),
    λ op. each_placed (λ place x. within (behind place n x) (MOST place n)) fits.1 place (shape_of op.1),
    λ _. begins (within_place place),
  )

  sound_level : (n : ℕ) → Fits n → ((place : Place) → Sound (grammar text) (operations text place n))
      → ((place : Place) → within (first (grammar text) (operations text place n)) EXPRESSION ≡ true)
      → (place : Place) → Sound (grammar text) (level place n)
  unfolding disjoint within null first more
  sound_level n fits sound begins place = (
    sound_given text (λ os. behind place n (shape_of_operands os)) (MOST place n) operands (operations text place n) (sound place) (operations_within n place)
        (λ os. each_placed (λ place x. within (behind place n x) (MOST place n)) fits.1 place (shape_of_operands os)),
    λ os. turn_sound place n fits sound begins (end_of (shape_of_operands os)),
    λ os. refl,
    λ os _. each_placed (λ place x. disjoint (behind place n x) (turn_first (end_of x) n)) fits.2 place (shape_of_operands os),
    λ os op _. subst (λ x. disjoint (behind place n (shape_of op.1)) (turn_first (end_of x) n) ≡ true) (sym (shape_after os op))
        (each_placed (λ place x. disjoint (behind place n x) (turn_first (end_of x) n)) fits.2 place (shape_of op.1)),
    λ os e. unless (is_guard (shape_of_operands os)) (within (turn_first (end_of (shape_of_operands os)) n) (behind place (suc n) (shape_of_operands os)))
        (each_placed (λ place x. is_guard x || within (turn_first (end_of x) n) (behind place (suc n) x)) fits.3 place (shape_of_operands os)) e,
    λ os op. subst (λ x. within (behind place n (shape_of op.1)) (behind place (suc n) x) ≡ true) (sym (shape_after os op))
        (each_placed (λ place x. within (behind place n x) (behind place (suc n) (s.Other (end_of x)))) fits.4 place (shape_of op.1)),
    λ os. each_placed (λ place x. within (behind place n x) (behind place (suc n) x)) fits.5 place (shape_of_operands os),
    λ os. each_placed (λ place x. within (behind place (suc n) x) (MOST place (suc n))) fits.8 place (shape_of_operands os),
    λ os. each_end (λ e. within (turn_first e n) (numbers (operators n))) fits.7 (end_of (shape_of_operands os)),
  )

  sound_next_level : (n : ℕ) → Fits n → ((place : Place) → Sound (grammar text) (operations text place n))
      → ((place : Place) → within (first (grammar text) (operations text place n)) EXPRESSION ≡ true)
      → (place : Place) → Sound (grammar text) (operations text place (suc n))
  unfolding more operations
  sound_next_level n fits sound begins place = sound_given text (found_more place (suc n)) (MOST place (suc n)) found_of_operands (level place n) (sound_level n fits sound begins place)
      (λ os. subst (λ x. within (behind place (suc n) (shape_of_operands os)) (behind place (suc n) x) ≡ true) (sym (found_shape os.rest os)) (within_itself (behind place (suc n) (shape_of_operands os))))
      (λ e. each_placed (λ place x. within (behind place (suc n) x) (MOST place (suc n))) fits.8 place (shape_of e))

  -- ---- operations of each level

  pub null_operations : (n : ℕ) (place : Place) → null (grammar text) (operations text place n) ≡ false
  unfolding shown unary operations
  null_operations zero Plain = refl
  null_operations zero Header = refl
  null_operations zero Guard = refl
  null_operations (suc n) place = null_operations n place

  fits_0 : Fits 0
  unfolding shown
  fits_0 = (refl, refl, refl, refl, refl, refl, refl, refl, refl)

  fits_1 : Fits 1
  unfolding shown
  fits_1 = (refl, refl, refl, refl, refl, refl, refl, refl, refl)

  fits_2 : Fits 2
  unfolding shown
  fits_2 = (refl, refl, refl, refl, refl, refl, refl, refl, refl)

  fits_3 : Fits 3
  unfolding shown
  fits_3 = (refl, refl, refl, refl, refl, refl, refl, refl, refl)

  fits_4 : Fits 4
  unfolding shown
  fits_4 = (refl, refl, refl, refl, refl, refl, refl, refl, refl)

  abbrev begin : ℕ → Bool
  begin n = at_places (λ place. within (first (grammar text) (operations text place n)) EXPRESSION)

  begins_at : (n : ℕ) → begin n ≡ true → (place : Place) → within (first (grammar text) (operations text place n)) EXPRESSION ≡ true
  begins_at n h place = each_place (λ place. within (first (grammar text) (operations text place n)) EXPRESSION) h place

  begin_0 : begin 0 ≡ true
  unfolding shown unary operations
  begin_0 = refl

  begin_1 : begin 1 ≡ true
  unfolding shown unary operations
  begin_1 = refl

  begin_2 : begin 2 ≡ true
  unfolding shown unary operations
  begin_2 = refl

  begin_3 : begin 3 ≡ true
  unfolding shown unary operations
  begin_3 = refl

  begin_4 : begin 4 ≡ true
  unfolding shown unary operations
  begin_4 = refl

  begin_5 : begin 5 ≡ true
  unfolding shown unary operations
  begin_5 = refl

  pub sound_operations_0 : (place : Place) → Sound (grammar text) (operations text place 0)
  unfolding operations
  sound_operations_0 place = sound_unary place

  pub sound_operations_1 : (place : Place) → Sound (grammar text) (operations text place 1)
  sound_operations_1 place = sound_next_level 0 fits_0 sound_operations_0 (begins_at 0 begin_0) place

  pub sound_operations_2 : (place : Place) → Sound (grammar text) (operations text place 2)
  sound_operations_2 place = sound_next_level 1 fits_1 sound_operations_1 (begins_at 1 begin_1) place

  pub sound_operations_3 : (place : Place) → Sound (grammar text) (operations text place 3)
  sound_operations_3 place = sound_next_level 2 fits_2 sound_operations_2 (begins_at 2 begin_2) place

  pub sound_operations_4 : (place : Place) → Sound (grammar text) (operations text place 4)
  sound_operations_4 place = sound_next_level 3 fits_3 sound_operations_3 (begins_at 3 begin_3) place

  pub sound_operations_5 : (place : Place) → Sound (grammar text) (operations text place 5)
  sound_operations_5 place = sound_next_level 4 fits_4 sound_operations_4 (begins_at 4 begin_4) place

  -- ---- expressions

  pub sound_expr : (place : Place) → Sound (grammar text) (expr text place)
  unfolding expr
  sound_expr place = sound_operations_5 place

  pub null_expr : (place : Place) → null (grammar text) (expr text place) ≡ false
  unfolding expr
  null_expr place = null_operations 5 place

  pub expr_begins : (place : Place) → within (first (grammar text) (expr text place)) EXPRESSION ≡ true
  unfolding expr
  expr_begins place = begins_at 5 begin_5 place

  pub expr_within : (place : Place) (e : Found) → within (more (grammar text) (expr text place) e) (found_more place 5 e) ≡ true
  unfolding expr
  expr_within place e = operations_within 5 place e

  pub most_expr : (place : Place) → most (grammar text) (expr text place) ≡ MOST place 5
  unfolding most operations expr
  most_expr place = refl
