-- One token decides in operands and in the steps behind them.
use Rattle.std.proofs.Common.{◌≡◌, refl, ℕ, Bool, true, false, not, ◌||◌, List, [], ◌∷◌, Option}
use Rattle.gno_grammar.specs.Sets.{member, disjoint, within}
use Rattle.gno_grammar.specs.Readers.{null, first}
use Rattle.gno_grammar.specs.Deciding.{empty, quiet_after, most, more, word, completes, Sound}
use Rattle.gno_grammar.proofs.Plain.{plain, easy}
use Rattle.gno_grammar.proofs.Sets.{not_true}
use Rattle.gno_scan.specs.declared.kind.TokenKind.TheVariants as k
use Rattle.gno_tree.specs.declared.expr.Expr.{Expr}
use Rattle.gno_rules.specs.Kinds.{numbers}
use Rattle.gno_rules.specs.Parts.{name, dotted}
use Rattle.gno_rules.specs.Signatures.{type_more, TYPE_MOST}
use Rattle.gno_rules.specs.Shapes.{is_guard, shape_of, shape_of_operand, found_of, with_suffix, SUFFIX, behind, MOST}
use Rattle.gno_rules.specs.Expressions.{type_operand_more, operand_more, OPERAND_MOST, type_found, found_more, literal, name_operand, type_operand, counted_elements, conversion, header_elements, behind_header_type, header_type_found, header_type, operand, asserted, selector, bracketed, elements_suffix, value_suffix, named_suffix, type_suffix, function_suffix, plain_suffix, suffix, operand_alone, stepped, primary}
use Rattle.gno_rules.specs.Table.{grammar}
use Rattle.gno_rules.specs.declared.expression.Elements.{Elements}
use Rattle.gno_rules.specs.declared.expression.Found.{Found}
use Rattle.gno_rules.specs.declared.expression.Found.TheVariants as f
use Rattle.gno_rules.specs.declared.expression.Operand.{Operand}
use Rattle.gno_rules.specs.declared.expression.Operand.TheVariants as o
use Rattle.gno_rules.specs.declared.expression.Place.{Place}
use Rattle.gno_rules.specs.declared.expression.Place.TheVariants.{Plain, Header, Guard}
use Rattle.gno_rules.specs.declared.expression.Shape.{Shape}
use Rattle.gno_rules.specs.declared.expression.Shape.TheVariants as s
use Rattle.gno_rules.specs.declared.expression.Suffix.{Suffix}
use Rattle.gno_rules.specs.declared.types.OperandType.{OperandType}
use Rattle.gno_rules.specs.declared.types.TypeEnd.{TypeEnd}
use Rattle.gno_rules.specs.declared.types.TypeEnd.TheVariants.{Closed, Name as Named, Open}
use Rattle.gno_rule_laws.proofs.EachCase.{each_bool, each_end, each_shape, each_place, each_placed, at_ends, unless, within_itself, sound_given}

-- what is unfolded to compute the sets
unfoldable pub shown : ℕ
unfolding member disjoint within null first most more name dotted literal name_operand type_operand conversion header_elements behind_header_type header_type operand asserted selector bracketed elements_suffix value_suffix named_suffix type_suffix function_suffix plain_suffix suffix operand_alone stepped primary
shown = 0

module _ (text : List ℕ) where
  -- ---- operands

  counted_sound : (counted : Bool) → Sound (grammar text) (counted_elements text counted)
  unfolding shown
  counted_sound true = (tt, tt, refl)
  counted_sound false = tt

  counted_quiet : (counted : Bool) (of : OperandType) → quiet_after (λ e. type_operand_more (shape_of e)) type_found (type_more of.end) of (empty (counted_elements text counted)) ≡ true
  unfolding shown
  counted_quiet true of = refl
  counted_quiet false of = within_itself (type_more of.end)

  counted_apart : (counted : Bool) (e : TypeEnd) → disjoint (type_more e) (first (grammar text) (counted_elements text counted)) ≡ true
  unfolding shown
  counted_apart counted e = each_end (λ e. disjoint (type_more e) (first (grammar text) (counted_elements text counted)))
      (each_bool (λ counted. at_ends (λ e. disjoint (type_more e) (first (grammar text) (counted_elements text counted)))) refl counted) e

  counted_within : (counted : Bool) (elements : Option Elements) (xs : List ℕ) → within (more (grammar text) (counted_elements text counted) elements) xs ≡ true
  unfolding shown
  counted_within true elements xs = refl
  counted_within false elements xs = refl

  counted_begins : (counted : Bool) → within (first (grammar text) (counted_elements text counted)) (numbers (k.LeftBrace ∷ [])) ≡ true
  unfolding shown
  counted_begins true = refl
  counted_begins false = refl

  sound_type_operand : Sound (grammar text) (type_operand text)
  unfolding shown
  sound_type_operand = (
    tt,
    λ of. counted_sound of.is_counted,
    λ of. counted_quiet of.is_counted of,
    λ of. counted_apart of.is_counted of.end,
    λ of elements. counted_within of.is_counted elements (type_operand_more (shape_of (type_found of elements))),
    λ e. each_shape (λ x. within (type_operand_more x) TYPE_MOST) refl (shape_of e),
    λ of. counted_begins of.is_counted,
  )

  behind_header_sound : (counted : Bool) (e : TypeEnd) (of : OperandType) → Sound (grammar text) (behind_header_type text counted e of)
  unfolding shown
  behind_header_sound true e of = easy (grammar text) (header_elements text of) refl
  behind_header_sound false Open of = easy (grammar text) (header_elements text of) refl
  behind_header_sound false Closed of = easy (grammar text) (behind_header_type text false Closed of) refl
  behind_header_sound false Named of = easy (grammar text) (behind_header_type text false Named of) refl

  behind_header_quiet : (counted : Bool) (e : TypeEnd) (of : OperandType) (xs : List ℕ)
      → quiet_after (λ _. []) (header_type_found text) xs of (empty (behind_header_type text counted e of)) ≡ true
  unfolding shown
  behind_header_quiet true e of xs = refl
  behind_header_quiet false Open of xs = refl
  behind_header_quiet false Closed of xs = refl
  behind_header_quiet false Named of xs = refl

  behind_header_apart : (counted : Bool) (e : TypeEnd) (of : OperandType) → disjoint (type_more e) (first (grammar text) (behind_header_type text counted e of)) ≡ true
  unfolding shown
  behind_header_apart true e of = each_end (λ e. disjoint (type_more e) (numbers (k.LeftBrace ∷ []))) refl e
  behind_header_apart false Open of = refl
  behind_header_apart false Closed of = refl
  behind_header_apart false Named of = refl

  behind_header_within : (counted : Bool) (e : TypeEnd) (of : OperandType) (v : Found) → within (more (grammar text) (behind_header_type text counted e of) v) [] ≡ true
  unfolding shown
  behind_header_within true e of v = refl
  behind_header_within false Open of v = refl
  behind_header_within false Closed of v = refl
  behind_header_within false Named of v = refl

  behind_header_begins : (counted : Bool) (e : TypeEnd) (of : OperandType)
      → within (first (grammar text) (behind_header_type text counted e of)) (numbers (k.LeftBrace ∷ k.LeftParen ∷ [])) ≡ true
  unfolding shown
  behind_header_begins true e of = refl
  behind_header_begins false Open of = refl
  behind_header_begins false Closed of = refl
  behind_header_begins false Named of = refl

  sound_header_type : Sound (grammar text) (header_type text)
  unfolding shown
  sound_header_type = (
    tt,
    λ of. behind_header_sound of.is_counted of.end of,
    λ of. behind_header_quiet of.is_counted of.end of (type_more of.end),
    λ of. behind_header_apart of.is_counted of.end of,
    λ of v. behind_header_within of.is_counted of.end of v,
    λ e. refl,
    λ of. behind_header_begins of.is_counted of.end of,
  )

  pub sound_operand : (place : Place) → Sound (grammar text) (operand text place)
  unfolding shown
  sound_operand Plain = (easy (grammar text) (literal text) refl, (easy (grammar text) (name_operand text) refl, (tt, (tt, sound_type_operand, refl, refl), refl, refl), refl, refl), refl, refl)
  sound_operand Header = (easy (grammar text) (literal text) refl, (easy (grammar text) (name_operand text) refl, (tt, (tt, sound_header_type, refl, refl), refl, refl), refl, refl), refl, refl)
  sound_operand Guard = (easy (grammar text) (literal text) refl, (easy (grammar text) (name_operand text) refl, (tt, (tt, sound_header_type, refl, refl), refl, refl), refl, refl), refl, refl)

  operand_shaped : (place : Place) (x : Shape) (e : Expr) → within (more (grammar text) (operand text place) (f.Expr e x)) (operand_more place x) ≡ true
  unfolding shown
  operand_shaped place x e = each_placed (λ place x. within (more (grammar text) (operand text place) (f.Expr e x)) (operand_more place x)) refl place x

  operand_within : (place : Place) (e : Found) → within (more (grammar text) (operand text place) e) (operand_more place (shape_of e)) ≡ true
  unfolding shown
  operand_within place (f.Name n) = each_place (λ place. within (more (grammar text) (operand text place) (f.Name n)) (operand_more place s.Name)) refl place
  operand_within place (f.Expr e x) = operand_shaped place x e
  operand_within place (f.Guard e pos) = each_place (λ place. within (more (grammar text) (operand text place) (f.Guard e pos)) (operand_more place s.Guard)) refl place

  pub sound_operand_alone : (place : Place) → Sound (grammar text) (operand_alone text place)
  unfolding shown
  sound_operand_alone place = sound_given text (λ x. operand_more place (shape_of_operand x)) OPERAND_MOST o.Alone (operand text place) (sound_operand place) (operand_within place)
      (λ x. each_placed (λ place x. within (operand_more place x) OPERAND_MOST) refl place (shape_of_operand x))

  pub null_operand_alone : (place : Place) → null (grammar text) (operand_alone text place) ≡ false
  unfolding shown
  null_operand_alone Plain = refl
  null_operand_alone Header = refl
  null_operand_alone Guard = refl

  -- ---- the steps behind an operand

  pub sound_suffix : (place : Place) (x : Shape) → Sound (grammar text) (suffix text place x)
  unfolding shown
  sound_suffix place x = easy (grammar text) (suffix text place x) (each_placed (λ place x. plain (grammar text) (suffix text place x)) refl place x)

  pub null_suffix : (place : Place) (x : Shape) → null (grammar text) (suffix text place x) ≡ false
  unfolding shown
  null_suffix place x = not_true (null (grammar text) (suffix text place x)) (each_placed (λ place x. not (null (grammar text) (suffix text place x))) refl place x)

  -- what follows on an operand alone is no step
  pub suffix_apart : (place : Place) (x : Shape) → disjoint (operand_more place x) (first (grammar text) (suffix text place x)) ≡ true
  unfolding shown
  suffix_apart place x = each_placed (λ place x. disjoint (operand_more place x) (first (grammar text) (suffix text place x))) refl place x

  -- nothing goes on with a step
  pub suffix_apart_from : (place : Place) (x : Shape) (b : Suffix) (ys : List ℕ) → disjoint (more (grammar text) (suffix text place x) b) ys ≡ true
  unfolding shown
  suffix_apart_from place x b ys = each_placed (λ place x. disjoint (more (grammar text) (suffix text place x) b) ys) refl place x

  pub suffix_within : (place : Place) (x : Shape) (b : Suffix) (ys : List ℕ) → within (more (grammar text) (suffix text place x) b) ys ≡ true
  unfolding shown
  suffix_within place x b ys = each_placed (λ place x. within (more (grammar text) (suffix text place x) b) ys) refl place x

  pub suffix_begins : (place : Place) (x : Shape) → within (first (grammar text) (suffix text place x)) (SUFFIX place) ≡ true
  unfolding shown
  suffix_begins place x = each_placed (λ place x. within (first (grammar text) (suffix text place x)) (SUFFIX place)) refl place x

  suffix_behind : (place : Place) (x : Shape) → not (is_guard x) ≡ true → within (first (grammar text) (suffix text place x)) (behind place 0 x) ≡ true
  unfolding shown
  suffix_behind place x e = unless (is_guard x) (within (first (grammar text) (suffix text place x)) (behind place 0 x))
      (each_placed (λ place x. is_guard x || within (first (grammar text) (suffix text place x)) (behind place 0 x)) refl place x) e

  -- a word of a step behind an operand in the header of a `switch`: the guard, which ends it
  pub suffix_completes : (operand : Operand) → completes (λ x. is_guard (shape_of_operand x)) with_suffix operand (word (grammar text) (suffix text Guard (shape_of_operand operand))) ≡ true
  unfolding shown
  suffix_completes operand = refl

  -- ---- an operand and its steps

  pub sound_stepped : (place : Place) → Sound (grammar text) (stepped text place)
  unfolding shown
  sound_stepped place = (
    sound_operand_alone place,
    λ x. sound_suffix place (shape_of_operand x),
    λ x. null_suffix place (shape_of_operand x),
    λ x _. suffix_apart place (shape_of_operand x),
    λ x b _. suffix_apart_from place (shape_of_operand x) b (first (grammar text) (suffix text place (shape_of_operand (with_suffix x b)))),
    λ x e. suffix_behind place (shape_of_operand x) e,
    λ x b. suffix_within place (shape_of_operand x) b (behind place 0 (shape_of_operand (with_suffix x b))),
    λ x. each_placed (λ place x. within (operand_more place x) (behind place 0 x)) refl place (shape_of_operand x),
    λ x. each_placed (λ place x. within (behind place 0 x) (MOST place 0)) refl place (shape_of_operand x),
    λ x. suffix_begins place (shape_of_operand x),
  )

  primary_within : (place : Place) (x : Operand) → within (behind place 0 (shape_of_operand x)) (found_more place 0 (found_of x)) ≡ true
  primary_within place (o.Alone e) = within_itself (behind place 0 (shape_of e))
  primary_within place (o.Stepped e steps x) = within_itself (behind place 0 x)

  pub sound_primary : (place : Place) → Sound (grammar text) (primary text place)
  unfolding shown
  sound_primary place = sound_given text (found_more place 0) (MOST place 0) found_of (stepped text place) (sound_stepped place) (primary_within place)
      (λ e. each_placed (λ place x. within (behind place 0 x) (MOST place 0)) refl place (shape_of e))
