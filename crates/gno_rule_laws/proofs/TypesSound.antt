-- One token decides in types; and of the rules of types the sets in the table are right.
use Rattle.std.proofs.Common.{◌≡◌, refl, ℕ, Bool, true, List, [], ◌∷◌}
use Rattle.gno_grammar.specs.Sets.{disjoint, within}
use Rattle.gno_grammar.specs.Phrases.{both}
use Rattle.gno_grammar.specs.Readers.{first}
use Rattle.gno_grammar.specs.Deciding.{more, empty, quiet_after, Sound, IsSound}
use Rattle.gno_grammar.proofs.Plain.{easy}
use Rattle.gno_scan.specs.declared.kind.TokenKind.TheVariants as k
use Rattle.gno_scan.specs.declared.token.Token.{Token}
use Rattle.gno_tree.specs.declared.type_expr.TypeExpr.{TypeExpr}
use Rattle.gno_rules.specs.Parts.{P, a, to, up_to, name, dotted}
use Rattle.gno_rules.specs.Signatures.{type_more, RESULT}
use Rattle.gno_rules.specs.Expressions.{expr, found_more}
use Rattle.gno_rules.specs.Kinds.{numbers}
use Rattle.gno_rules.specs.Types.{expr_length, before_type, pointer_to, bracketed_type, map_of, pointer, length, bracket, array, map_key, map, function, struct, behind_member_name, member as interface_member, interface, paren_type, built, result_type, other_type, type, length_end, declared_length, declared_array, declared_type, operand_length, array_operand, type_operand}
use Rattle.gno_rules.specs.Table.{grammar}
use Rattle.gno_rules.specs.declared.expression.Found.{Found}
use Rattle.gno_rules.specs.declared.expression.Found.TheVariants as f
use Rattle.gno_rules.specs.declared.expression.Place.TheVariants.{Plain}
use Rattle.gno_rules.specs.declared.expression.Shape.TheVariants as s
use Rattle.gno_rules.specs.declared.rule.Rule.TheVariants as r
use Rattle.gno_rules.specs.declared.types.TypeEnd.{TypeEnd}
use Rattle.gno_rules.specs.declared.types.TypeEnd.TheVariants.{Closed, Name as Named, Open}
use Rattle.gno_rules.specs.declared.types.TypeRead.{TypeRead}
use Rattle.gno_rule_laws.proofs.TypeEnds.{shown, end_within, end_same, end_same_none, end_apart_none_none}
use Rattle.gno_rule_laws.proofs.Lists.{sound_closed_list}
use Rattle.gno_rule_laws.proofs.SignaturesSound.{sound_type_by_name, sound_signature}
use Rattle.gno_rule_laws.proofs.OperationsSound.{sound_expr}

-- what may stand behind the length of an array in a declaration of a type
abbrev LENGTH_END : List ℕ
LENGTH_END = numbers (k.Name ∷ k.Comma ∷ k.Interface ∷ k.RightBracket ∷ [])

module _ (text : List ℕ) where
  -- ---- types that end in a type

  -- a type behind something that was read, which ends as the type does
  sound_before : {A : Type 0} (f : A → TypeRead → TypeRead) (g : P A) → Sound (grammar text) g → ((a : A) → disjoint (more (grammar text) g a) RESULT ≡ true)
      → ((a : A) (x : TypeRead) → within (type_more x.end) (type_more (f a x).end) ≡ true) → Sound (grammar text) (before_type text f g)
  unfolding shown
  sound_before f g s apart ends = (s, λ _. tt, λ _. refl, apart, ends, λ x. end_within x.end, λ _. refl)

  sound_pointer : Sound (grammar text) (pointer text)
  unfolding shown
  sound_pointer = sound_before pointer_to (a k.Star) refl (λ _. refl) (λ _ x. end_same x.end)

  sound_length : Sound (grammar text) (length text)
  unfolding shown
  sound_length = ((refl, tt, refl), ((sound_expr text Plain, tt, refl), refl, refl), refl, refl)

  sound_bracket : Sound (grammar text) (bracket text)
  unfolding shown
  sound_bracket = (refl, sound_length, refl)

  sound_array : Sound (grammar text) (array text)
  unfolding shown
  sound_array = sound_before bracketed_type (bracket text) sound_bracket (λ _. refl) (λ _ x. end_same x.end)

  sound_map : Sound (grammar text) (map text)
  unfolding shown
  sound_map = sound_before map_of (map_key text) (easy (grammar text) (map_key text) refl) (λ _. refl) (λ _ x. end_same x.end)

  sound_function : Sound (grammar text) (function text)
  unfolding shown
  sound_function = (refl, λ _. sound_signature text, λ _. refl, λ _. refl, λ _ x. end_same x.end, λ x. end_within x.end, λ _. refl)

  -- ---- types in braces and parentheses

  sound_struct : Sound (grammar text) (struct text)
  unfolding shown
  sound_struct = easy (grammar text) (struct text) refl

  sound_behind_member_name : Sound (grammar text) (behind_member_name text)
  unfolding shown
  sound_behind_member_name = ((sound_signature text, tt, refl), (((easy (grammar text) (dotted text) refl, tt, refl), tt, refl, refl), (tt, refl), refl), refl, refl)

  sound_member : Sound (grammar text) (interface_member text)
  unfolding shown
  sound_member = ((easy (grammar text) (name text) refl, sound_behind_member_name, refl), refl)

  sound_interface : Sound (grammar text) (interface text)
  unfolding shown
  sound_interface = (refl, (refl, sound_closed_list text k.Semicolon k.RightBrace (interface_member text) sound_member refl, refl), refl)

  sound_paren_type : Sound (grammar text) (paren_type text)
  unfolding shown
  sound_paren_type = easy (grammar text) (paren_type text) refl

  -- ---- types

  sound_built : Sound (grammar text) (built text)
  unfolding shown
  sound_built = (sound_pointer, (sound_array, (sound_map, (sound_function, (sound_struct, sound_interface, refl, refl), refl, refl), refl, refl), refl, refl), refl, refl)

  pub sound_result_type : Sound (grammar text) (result_type text)
  unfolding shown
  sound_result_type = (sound_type_by_name text, sound_built, refl, refl)

  pub sound_other_type : Sound (grammar text) (other_type text)
  unfolding shown
  sound_other_type = (sound_paren_type, sound_built, refl, refl)

  pub sound_type : Sound (grammar text) (type text)
  unfolding shown
  sound_type = (sound_type_by_name text, sound_other_type, refl, refl)

  -- ---- types of declarations

  sound_length_end : (e : Found) → Sound (grammar text) (length_end text e)
  unfolding shown
  sound_length_end (f.Name n) = easy (grammar text) (length_end text (f.Name n)) refl
  sound_length_end (f.Expr e shape) = refl
  sound_length_end (f.Guard e pos) = refl

  length_end_within : (e : Found) → within (first (grammar text) (length_end text e)) LENGTH_END ≡ true
  unfolding shown
  length_end_within (f.Name n) = refl
  length_end_within (f.Expr e shape) = refl
  length_end_within (f.Guard e pos) = refl

  length_end_quiet : (e : Found) → quiet_after {B = Token} (λ _. []) (λ e _. expr_length e) (found_more Plain 5 e) e (empty (length_end text e)) ≡ true
  unfolding shown
  length_end_quiet (f.Name n) = refl
  length_end_quiet (f.Expr e shape) = refl
  length_end_quiet (f.Guard e pos) = refl

  length_end_closed : (e : Found) (t : Token) → within (more (grammar text) (length_end text e) t) [] ≡ true
  unfolding shown
  length_end_closed (f.Name n) t = refl
  length_end_closed (f.Expr e shape) t = refl
  length_end_closed (f.Guard e pos) t = refl

  -- a `]` goes on with no expression, and what shows a generic type goes on with no name
  length_ends : (e : Found) → disjoint (more (grammar text) (expr text Plain) e) (first (grammar text) (length_end text e)) ≡ true
  unfolding shown
  length_ends (f.Name n) = refl
  length_ends (f.Expr e s.Name) = refl
  length_ends (f.Expr e s.Qualified) = refl
  length_ends (f.Expr e (s.Type Closed)) = refl
  length_ends (f.Expr e (s.Type Named)) = refl
  length_ends (f.Expr e (s.Type Open)) = refl
  length_ends (f.Expr e (s.Function Closed)) = refl
  length_ends (f.Expr e (s.Function Named)) = refl
  length_ends (f.Expr e (s.Function Open)) = refl
  length_ends (f.Expr e (s.Pointer Closed)) = refl
  length_ends (f.Expr e (s.Pointer Named)) = refl
  length_ends (f.Expr e (s.Pointer Open)) = refl
  length_ends (f.Expr e s.Paren) = refl
  length_ends (f.Expr e (s.Other Closed)) = refl
  length_ends (f.Expr e (s.Other Named)) = refl
  length_ends (f.Expr e (s.Other Open)) = refl
  length_ends (f.Expr e s.Guard) = refl
  length_ends (f.Guard e pos) = refl

  sound_declared_length : Sound (grammar text) (declared_length text)
  unfolding shown
  sound_declared_length = ((refl, tt, refl), (sound_expr text Plain, sound_length_end, length_end_quiet, length_ends, length_end_closed, λ _. refl, length_end_within), refl, refl)

  sound_declared_array : Sound (grammar text) (declared_array text)
  unfolding shown
  sound_declared_array = sound_before bracketed_type (both (λ t length. (t.pos, length)) (a k.LeftBracket) (declared_length text)) (refl, sound_declared_length, refl) (λ _. refl) (λ _ x. end_same x.end)

  pub sound_declared_type : Sound (grammar text) (declared_type text)
  unfolding shown
  sound_declared_type = (sound_type_by_name text, (sound_paren_type, (sound_pointer, (sound_declared_array, (sound_map, (sound_function, (sound_struct, sound_interface, refl, refl), refl, refl), refl, refl), refl, refl), refl, refl), refl, refl), refl, refl)

  -- ---- types that are operands

  sound_operand_length : Sound (grammar text) (operand_length text)
  unfolding shown
  sound_operand_length = (easy (grammar text) (to {A = Token} (λ _. tt {0}) (up_to (a k.Ellipsis) (a k.RightBracket))) refl, sound_length, refl, refl)

  sound_array_operand : Sound (grammar text) (array_operand text)
  unfolding shown
  sound_array_operand = ((refl, sound_operand_length, refl), λ _. tt, λ _. refl, λ _. refl, λ _ x. end_same x.end, λ x. end_within x.end, λ _. refl)

  pub sound_type_operand : Sound (grammar text) (type_operand text)
  unfolding shown
  sound_type_operand = (sound_array_operand, ((sound_map, (sound_struct, sound_interface, refl, refl), refl, refl), λ _. tt, λ x. end_same_none x.end, λ x. end_apart_none_none x.end, λ _ _. refl, λ x. end_within x.end, λ _. refl), refl, refl)

  -- ---- the sets of the rules

  type_sets : (of : TypeExpr) (e : TypeEnd) → within (more (grammar text) (type text) (record { of = of; end = e })) (type_more e) ≡ true
  unfolding shown
  type_sets of Closed = refl
  type_sets of Named = refl
  type_sets of Open = refl

  pub is_sound_type : IsSound (grammar text) r.Type
  unfolding shown
  is_sound_type = (sound_type, refl, refl, λ x. type_sets x.of x.end, λ x. end_within x.end)

  other_type_sets : (of : TypeExpr) (e : TypeEnd) → within (more (grammar text) (other_type text) (record { of = of; end = e })) (type_more e) ≡ true
  unfolding shown
  other_type_sets of Closed = refl
  other_type_sets of Named = refl
  other_type_sets of Open = refl

  pub is_sound_other_type : IsSound (grammar text) r.OtherType
  unfolding shown
  is_sound_other_type = (sound_other_type, refl, refl, λ x. other_type_sets x.of x.end, λ x. end_within x.end)

  result_type_sets : (of : TypeExpr) (e : TypeEnd) → within (more (grammar text) (result_type text) (record { of = of; end = e })) (type_more e) ≡ true
  unfolding shown
  result_type_sets of Closed = refl
  result_type_sets of Named = refl
  result_type_sets of Open = refl

  pub is_sound_result_type : IsSound (grammar text) r.ResultType
  unfolding shown
  is_sound_result_type = (sound_result_type, refl, refl, λ x. result_type_sets x.of x.end, λ x. end_within x.end)

  declared_type_sets : (of : TypeExpr) (e : TypeEnd) → within (more (grammar text) (declared_type text) (record { of = of; end = e })) (type_more e) ≡ true
  unfolding shown
  declared_type_sets of Closed = refl
  declared_type_sets of Named = refl
  declared_type_sets of Open = refl

  pub is_sound_declared_type : IsSound (grammar text) r.DeclaredType
  unfolding shown
  is_sound_declared_type = (sound_declared_type, refl, refl, λ x. declared_type_sets x.of x.end, λ x. end_within x.end)

  type_operand_sets : (of : TypeExpr) (e : TypeEnd) (is_counted : Bool) → within (more (grammar text) (type_operand text) (record { of = of; end = e; is_counted = is_counted })) (type_more e) ≡ true
  unfolding shown
  type_operand_sets of Closed is_counted = refl
  type_operand_sets of Named is_counted = refl
  type_operand_sets of Open is_counted = refl

  pub is_sound_type_operand : IsSound (grammar text) r.OperandType
  unfolding shown
  is_sound_type_operand = (sound_type_operand, refl, refl, λ x. type_operand_sets x.of x.end x.is_counted, λ x. end_within x.end)
