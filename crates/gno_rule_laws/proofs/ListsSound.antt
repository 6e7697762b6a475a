-- One token decides in lists of expressions, in what brackets hold, and in functions.
use Rattle.std.proofs.Common.{◌≡◌, refl, ℕ, Bool, true, false, not, ◌||◌, List, [], ◌∷◌, ◌++◌, Option, Some, None}
use Rattle.gno_grammar.specs.Sets.{disjoint, within}
use Rattle.gno_grammar.specs.Phrases.{optional, construct}
use Rattle.gno_grammar.specs.Readers.{null, first}
use Rattle.gno_grammar.specs.Deciding.{empty, quiet_after, most, more, Sound, IsSound}
use Rattle.gno_grammar.proofs.Plain.{easy}
use Rattle.gno_scan.specs.declared.kind.TokenKind.TheVariants as k
use Rattle.gno_scan.specs.declared.token.Token.{Token}
use Rattle.gno_tree.specs.declared.expr.Part.TheVariants as part
use Rattle.gno_tree.specs.declared.statement.Block.{Block}
use Rattle.gno_rules.specs.Kinds.{numbers}
use Rattle.gno_rules.specs.Parts.{a, to, past, one, listed}
use Rattle.gno_rules.specs.Signatures.{type_more, TYPE_MOST, COMMA, parameters, signature}
use Rattle.gno_rules.specs.Shapes.{is_guard, shape_of, expr_of, behind, MOST, EXPRESSION, within_place, exprs_alone}
use Rattle.gno_rules.specs.Expressions.{FunctionHead, head_more, function_found, function_more, Arguments, ARGUMENTS, more_with, exprs_more, found_more, unary, operations, expr, plain_expr, exprs, values, paren, slice_bounds, low_step, index, spread, argument_list, arguments, elements_part, one_element, elements, function_head, function, header_function}
use Rattle.gno_rules.specs.Table.{grammar}
use Rattle.gno_rules.specs.declared.expression.Exprs.{Exprs}
use Rattle.gno_rules.specs.declared.expression.Found.{Found}
use Rattle.gno_rules.specs.declared.expression.Place.{Place}
use Rattle.gno_rules.specs.declared.expression.Place.TheVariants.{Plain, Header, Guard}
use Rattle.gno_rules.specs.declared.expression.Shape.{Shape}
use Rattle.gno_rules.specs.declared.expression.Shape.TheVariants as s
use Rattle.gno_rules.specs.declared.rule.Rule.TheVariants as r
use Rattle.gno_rules.specs.declared.types.SignatureRead.{SignatureRead}
use Rattle.gno_rule_laws.proofs.EachCase.{each_end, each_shape, each_place, each_placed, unless, within_itself, quiet_behind_none, sound_given, sound_to}
use Rattle.gno_rule_laws.proofs.OperandsSound.{shown}
use Rattle.gno_rule_laws.proofs.OperationsSound.{sound_expr, expr_within, sound_unary, unary_within}
use Rattle.gno_rule_laws.proofs.SignaturesSound.{sound_signature}

-- what is unfolded to compute the sets
unfoldable pub shown_lists : ℕ
unfolding shown unary operations expr plain_expr exprs values paren slice_bounds low_step index spread argument_list arguments elements_part one_element elements function_head function header_function parameters signature
shown_lists = 0

module _ (text : List ℕ) where
  -- ---- lists of expressions

  pub sound_plain_expr : Sound (grammar text) (plain_expr text)
  unfolding plain_expr
  sound_plain_expr = sound_to text expr_of (expr text Plain) (sound_expr text Plain)

  further_apart : (place : Place) (e : Found) → disjoint (more (grammar text) (past (a k.Comma) (expr text (within_place place))) e) COMMA ≡ true
  unfolding shown_lists
  further_apart place e = each_place (λ place. disjoint (more (grammar text) (past (a k.Comma) (expr text (within_place place))) e) COMMA) refl place

  comma_within : (place : Place) (rest : List Found) (x : Shape) → not (is_guard x) ≡ true → within COMMA (more_with place rest x) ≡ true
  unfolding shown_lists
  comma_within place [] x e = unless (is_guard x) (within COMMA (more_with place [] x)) (each_placed (λ place x. is_guard x || within COMMA (more_with place [] x)) refl place x) e
  comma_within place (e' ∷ es) x e = refl

  further_within : (place : Place) (rest : List Found) (e : Found) (x : Shape)
      → within (more (grammar text) (past (a k.Comma) (expr text (within_place place))) e) (more_with place (rest ++ e ∷ []) x) ≡ true
  unfolding shown_lists
  further_within place [] e x = each_place (λ place. within (more (grammar text) (past (a k.Comma) (expr text (within_place place))) e) (more_with place (e ∷ []) x)) refl place
  further_within place (e' ∷ es) e x = each_place (λ place. within (more (grammar text) (past (a k.Comma) (expr text (within_place place))) e) (more_with place (e' ∷ es ++ e ∷ []) x)) refl place

  alone_within : (place : Place) (rest : List Found) (x : Shape) → within (behind place 5 x) (more_with place rest x) ≡ true
  unfolding shown_lists
  alone_within place [] x = each_placed (λ place x. within (behind place 5 x) (more_with place [] x)) refl place x
  alone_within place (e ∷ es) x = each_placed (λ place x. within (behind place 5 x) (more_with place (e ∷ es) x)) refl place x

  more_within : (place : Place) (rest : List Found) (x : Shape) → within (more_with place rest x) (COMMA ++ MOST place 5) ≡ true
  unfolding shown_lists
  more_within place [] x = each_placed (λ place x. within (more_with place [] x) (COMMA ++ MOST place 5)) refl place x
  more_within place (e ∷ es) x = each_placed (λ place x. within (more_with place (e ∷ es) x) (COMMA ++ MOST place 5)) refl place x

  pub sound_exprs : (place : Place) → Sound (grammar text) (exprs text place)
  unfolding shown_lists
  sound_exprs place = (
    sound_given text (λ es. found_more place 5 es.first) (MOST place 5) exprs_alone (expr text place) (sound_expr text place) (expr_within text place)
        (λ es. each_placed (λ place x. within (behind place 5 x) (MOST place 5)) refl place (shape_of es.first)),
    λ _. (refl, sound_expr text (within_place place), refl),
    λ _. refl,
    λ es _. each_placed (λ place x. disjoint (behind place 5 x) COMMA) refl place (shape_of es.first),
    λ es e _. further_apart place e,
    λ es e. comma_within place es.rest (shape_of es.first) e,
    λ es e. further_within place es.rest e (shape_of es.first),
    λ es. alone_within place es.rest (shape_of es.first),
    λ es. more_within place es.rest (shape_of es.first),
    λ _. refl,
  )

  pub null_exprs : (place : Place) → null (grammar text) (exprs text place) ≡ false
  unfolding shown_lists
  null_exprs Plain = refl
  null_exprs Header = refl
  null_exprs Guard = refl

  pub exprs_begin : (place : Place) → within (first (grammar text) (exprs text place)) EXPRESSION ≡ true
  unfolding shown_lists
  exprs_begin place = each_place (λ place. within (first (grammar text) (exprs text place)) EXPRESSION) refl place

  pub exprs_within : (place : Place) (es : Exprs) → within (more (grammar text) (exprs text place) es) (exprs_more place es) ≡ true
  unfolding more exprs
  exprs_within place es = within_itself (exprs_more place es)

  pub most_exprs : (place : Place) → most (grammar text) (exprs text place) ≡ COMMA ++ MOST place 5
  unfolding most exprs
  most_exprs place = refl

  value_sound : (place : Place) → Sound (grammar text) (to expr_of (expr text (within_place place)))
  value_sound place = sound_to text expr_of (expr text (within_place place)) (sound_expr text (within_place place))

  pub sound_values : (place : Place) → Sound (grammar text) (values text place)
  unfolding shown_lists
  sound_values place = (
    sound_to text one (to expr_of (expr text (within_place place))) (value_sound place),
    (refl, value_sound place, refl),
    refl,
    each_place (λ place. disjoint (most (grammar text) (to one (to expr_of (expr text (within_place place))))) COMMA) refl place,
    each_place (λ place. disjoint (most (grammar text) (past (a k.Comma) (to expr_of (expr text (within_place place))))) COMMA) refl place,
  )

  pub null_values : (place : Place) → null (grammar text) (values text place) ≡ false
  unfolding shown_lists
  null_values Plain = refl
  null_values Header = refl
  null_values Guard = refl

  pub values_begin : (place : Place) → within (first (grammar text) (values text place)) EXPRESSION ≡ true
  unfolding shown_lists
  values_begin place = each_place (λ place. within (first (grammar text) (values text place)) EXPRESSION) refl place

  pub most_values : (place : Place) → within (most (grammar text) (values text place)) (COMMA ++ MOST (within_place place) 5) ≡ true
  unfolding shown_lists
  most_values place = each_place (λ place. within (most (grammar text) (values text place)) (COMMA ++ MOST (within_place place) 5)) refl place

  -- ---- what brackets hold

  pub is_sound_paren : IsSound (grammar text) r.Paren
  unfolding shown_lists
  is_sound_paren = ((refl, (sound_expr text Plain, refl, refl), refl), refl, refl, λ v. refl, λ v. refl)

  sound_slice_bounds : Sound (grammar text) (slice_bounds text)
  unfolding shown_lists
  sound_slice_bounds = (refl, (((sound_plain_expr, ((refl, sound_plain_expr, refl), refl), refl), refl), tt, refl), refl)

  sound_low_step : Sound (grammar text) (low_step text)
  unfolding shown_lists
  sound_low_step = (sound_plain_expr, ((sound_slice_bounds, tt, refl), tt, refl, refl), refl)

  pub is_sound_index : IsSound (grammar text) r.Index
  unfolding shown_lists
  is_sound_index = ((refl, (((sound_slice_bounds, tt, refl), sound_low_step, refl, refl), refl, refl), refl), refl, refl, λ v. refl, λ v. refl)

  sound_spread : (ended : Bool) → Sound (grammar text) (spread text ended)
  unfolding shown_lists
  sound_spread true = tt
  sound_spread false = easy (grammar text) (spread text false) refl

  spread_quiet : (es : Arguments) (ended : Bool)
      → quiet_after {A = Arguments} {B = Bool} {C = Arguments} (λ _. ARGUMENTS) (λ es spread. (es.0, spread)) (more (grammar text) (listed k.Comma (plain_expr text)) es) es (empty (spread text ended)) ≡ true
  unfolding shown_lists
  spread_quiet es true = refl
  spread_quiet es false = refl

  spread_apart : (es : Arguments) (ended : Bool) → disjoint (more (grammar text) (listed k.Comma (plain_expr text)) es) (first (grammar text) (spread text ended)) ≡ true
  unfolding shown_lists
  spread_apart es true = refl
  spread_apart es false = refl

  spread_within : (ended : Bool) (b : Bool) → within (more (grammar text) (spread text ended) b) ARGUMENTS ≡ true
  unfolding shown_lists
  spread_within true b = refl
  spread_within false b = refl

  spread_begins : (ended : Bool) → within (first (grammar text) (spread text ended)) (numbers (k.Ellipsis ∷ [])) ≡ true
  unfolding shown_lists
  spread_begins true = refl
  spread_begins false = refl

  sound_argument_list : Sound (grammar text) (argument_list text)
  unfolding shown_lists
  sound_argument_list = (
    ((sound_plain_expr, tt, refl), (refl, (sound_plain_expr, refl), refl), refl, refl, refl),
    λ es. sound_spread es.1,
    λ es. spread_quiet es es.1,
    λ es. spread_apart es es.1,
    λ es b. spread_within es.1 b,
    λ _. refl,
    λ es. spread_begins es.1,
  )

  pub is_sound_arguments : IsSound (grammar text) r.Arguments
  unfolding shown_lists
  is_sound_arguments = ((refl, ((refl, tt, refl), (sound_argument_list, refl, refl), refl, refl), refl), refl, refl, λ v. refl, λ v. refl)

  sound_elements_part : Sound (grammar text) (elements_part text)
  unfolding shown_lists
  sound_elements_part = ((tt, tt, refl), sound_to text part.Expr (plain_expr text) sound_plain_expr, refl, refl)

  sound_one_element : Sound (grammar text) (one_element text)
  unfolding shown_lists
  sound_one_element = (sound_elements_part, ((refl, sound_elements_part, refl), refl), refl)

  pub is_sound_elements : IsSound (grammar text) r.Elements
  unfolding shown_lists
  is_sound_elements = (
    (
      refl,
      (
        (refl, tt, refl),
        ((((sound_one_element, tt, refl), (refl, (sound_one_element, refl), refl), refl, refl, refl), refl, refl), tt, refl),
        refl,
        refl,
      ),
      refl,
    ),
    refl,
    refl,
    λ v. refl,
    λ v. refl,
  )

  -- ---- operators before an operand

  pub is_sound_unary : IsSound (grammar text) r.Unary
  unfolding shown_lists
  is_sound_unary = (sound_unary text Plain, refl, refl, unary_within text Plain, λ e. each_shape (λ x. within (behind Plain 0 x) (MOST Plain 0)) refl (shape_of e))

  pub is_sound_header_unary : IsSound (grammar text) r.HeaderUnary
  unfolding shown_lists
  is_sound_header_unary = (sound_unary text Header, refl, refl, unary_within text Header, λ e. each_shape (λ x. within (behind Header 0 x) (MOST Header 0)) refl (shape_of e))

  -- ---- functions

  signature_begins : within (first (grammar text) (signature text)) (numbers (k.LeftParen ∷ [])) ≡ true
  unfolding shown_lists
  signature_begins = refl

  sound_function_head : Sound (grammar text) (function_head text)
  unfolding shown_lists
  sound_function_head = (
    refl,
    λ _. sound_signature text,
    λ t. quiet_behind_none {A = Token} {B = SignatureRead} {C = FunctionHead} head_more (λ t signature. (t.pos, signature)) t (empty (signature text)),
    λ t. refl,
    λ t signature. within_itself (type_more signature.end),
    λ head. each_end (λ e. within (type_more e) TYPE_MOST) refl head.1.end,
    λ _. signature_begins,
  )

  body_within : (head : FunctionHead) (body : Option Block) → within (more (grammar text) (optional (construct r.Block)) body) (function_more (shape_of (function_found head body))) ≡ true
  unfolding shown_lists
  body_within head None = each_end (λ e. within (numbers (k.LeftBrace ∷ [])) (function_more (s.Function e))) refl head.1.end
  body_within head (Some body) = refl

  pub is_sound_function : IsSound (grammar text) r.Function
  unfolding shown_lists
  is_sound_function = (
    (
      sound_function_head,
      λ _. (tt, refl),
      λ head. each_end (λ e. within (type_more e) (function_more (s.Function e))) refl head.1.end,
      λ head. each_end (λ e. disjoint (type_more e) (numbers (k.LeftBrace ∷ []))) refl head.1.end,
      body_within,
      λ e. each_shape (λ x. within (function_more x) (numbers (k.LeftBrace ∷ []) ++ TYPE_MOST)) refl (shape_of e),
      λ _. refl,
    ),
    refl,
    refl,
    λ e. each_shape (λ x. within (function_more x) (function_more x)) refl (shape_of e),
    λ e. each_shape (λ x. within (function_more x) (numbers (k.LeftBrace ∷ []) ++ TYPE_MOST)) refl (shape_of e),
  )

  pub is_sound_header_function : IsSound (grammar text) r.HeaderFunction
  unfolding shown_lists
  is_sound_header_function = ((sound_function_head, tt, refl), refl, refl, λ v. refl, λ v. refl)
