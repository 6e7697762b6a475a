-- Of the headers of `if`, `switch` and `for` one token decides.
use Rattle.std.proofs.Common.{◌≡◌, refl, ℕ, true, List, [], ◌∷◌, Option, Some, None}
use Rattle.gno_grammar.specs.Sets.{within}
use Rattle.gno_grammar.specs.Readers.{first}
use Rattle.gno_grammar.specs.Deciding.{empty, more, Sound}
use Rattle.gno_scan.specs.declared.kind.TokenKind.TheVariants as k
use Rattle.gno_tree.specs.declared.statement.ForHeader.{ForHeader}
use Rattle.gno_tree.specs.declared.expr.Expr.TheVariants as x
use Rattle.gno_tree.specs.declared.statement.Simple.{Simple}
use Rattle.gno_tree.specs.declared.statement.Simple.TheVariants as simple
use Rattle.gno_rules.specs.Kinds.{numbers}
use Rattle.gno_rules.specs.Shapes.{shape_of_operand, MOST}
use Rattle.gno_rules.specs.Expressions.{found_more}
use Rattle.gno_rules.specs.Statements.{SIMPLE_MOST, HEADER_MOST, TAG_MOST, condition, behind_simple, if_header, if_arm, alternative, if_arms, if_statement, guard_alone, behind_tag, tag, tag_behind, behind_switch, switch_head, switch_statement, for_clauses, behind_for, for_header, for_statement}
use Rattle.gno_rules.specs.Table.{grammar}
use Rattle.gno_rules.specs.declared.expression.Found.{Found}
use Rattle.gno_rules.specs.declared.expression.Found.TheVariants as f
use Rattle.gno_rules.specs.declared.expression.Place.TheVariants.{Header, Guard}
use Rattle.gno_rules.specs.declared.statement.Header.{Header as HeaderRead}
use Rattle.gno_rules.specs.declared.statement.Kind.TheVariants as kind
use Rattle.gno_rules.specs.declared.statement.SimpleRead.{SimpleRead}
use Rattle.gno_rules.specs.declared.statement.SimpleRead.TheVariants as sr
use Rattle.gno_rules.specs.declared.statement.SwitchHeader.{SwitchHeader}
use Rattle.gno_rules.specs.declared.statement.Tag.{Tag}
use Rattle.gno_rule_laws.proofs.KindSets.{apart_left, apart_right, within_trans}
use Rattle.gno_rule_laws.proofs.SimpleSound.{quiet, sound_range_of, sound_simple_statements}
use Rattle.gno_rule_laws.proofs.OperandsSound.{sound_operand_alone, sound_suffix}
use Rattle.gno_rule_laws.proofs.OperationsSound.{sound_expr}
use Rattle.gno_rule_laws.proofs.TypeEnds.{shown}

abbrev SEMICOLON : List ℕ
SEMICOLON = numbers (k.Semicolon ∷ [])

-- ---- `if`

sound_condition : (text : List ℕ) → Sound (grammar text) (condition text)
unfolding shown
sound_condition text = (sound_expr text Header, tt, refl)

sound_behind_simple : (text : List ℕ) (read : SimpleRead) → Sound (grammar text) (behind_simple text read)
unfolding shown
sound_behind_simple text (sr.Name n) = (((refl, sound_condition text, refl), tt, refl), tt, refl, refl)
sound_behind_simple text (sr.Expr e) = (((refl, sound_condition text, refl), tt, refl), tt, refl, refl)
sound_behind_simple text (sr.Simple s) = ((refl, sound_condition text, refl), tt, refl)
sound_behind_simple text (sr.Guard of) = ((refl, sound_condition text, refl), tt, refl)
sound_behind_simple text (sr.Range left of) = ((refl, sound_condition text, refl), tt, refl)

behind_simple_more : (text : List ℕ) (read : SimpleRead) (v : HeaderRead) → within (more (grammar text) (behind_simple text read) v) (HEADER_MOST kind.Header) ≡ true
unfolding shown
behind_simple_more text (sr.Name n) v = refl
behind_simple_more text (sr.Expr e) v = refl
behind_simple_more text (sr.Simple s) v = refl
behind_simple_more text (sr.Guard of) v = refl
behind_simple_more text (sr.Range left of) v = refl

behind_simple_first : (text : List ℕ) (read : SimpleRead) → within (first (grammar text) (behind_simple text read)) SEMICOLON ≡ true
unfolding shown
behind_simple_first text (sr.Name n) = refl
behind_simple_first text (sr.Expr e) = refl
behind_simple_first text (sr.Simple s) = refl
behind_simple_first text (sr.Guard of) = refl
behind_simple_first text (sr.Range left of) = refl

sound_if_header : (text : List ℕ) → Sound (grammar text) (if_header text)
unfolding shown
sound_if_header text = (
  ((refl, sound_condition text, refl), tt, refl),
  (
    sound_simple_statements text kind.Header,
    λ read. sound_behind_simple text read,
    λ read. quiet (HEADER_MOST kind.Header) (λ _ h. h) (SIMPLE_MOST kind.Header) read (empty (behind_simple text read)) refl,
    λ read. apart_right (SIMPLE_MOST kind.Header) SEMICOLON (first (grammar text) (behind_simple text read)) refl (behind_simple_first text read),
    λ read v. behind_simple_more text read v,
    λ _. refl,
    λ read. behind_simple_first text read,
  ),
  refl,
  refl,
)

sound_if_arm : (text : List ℕ) → Sound (grammar text) (if_arm text)
unfolding shown
sound_if_arm text = (refl, (sound_if_header text, tt, refl), refl)

sound_alternative : (text : List ℕ) → Sound (grammar text) (alternative text)
unfolding shown
sound_alternative text = (refl, ((sound_if_arm text, tt, refl), (tt, tt, refl), refl, refl), refl)

sound_if_arms : (text : List ℕ) → Sound (grammar text) (if_arms text)
unfolding shown
sound_if_arms text = ((sound_if_arm text, tt, refl), sound_alternative text, refl, refl, refl)

pub sound_if_statement : (text : List ℕ) → Sound (grammar text) (if_statement text)
unfolding shown
sound_if_statement text = (sound_if_arms text, tt, refl)

-- ---- `switch`

-- any step but `.(type)` can be followed by it
sound_guard_alone : (text : List ℕ) → Sound (grammar text) (guard_alone text)
unfolding shown
sound_guard_alone text = (
  sound_operand_alone text Guard,
  λ x. sound_suffix text Guard (shape_of_operand x),
  refl,
  λ x. refl,
  λ x e. refl,
  λ x step e. refl,
  λ x e. refl,
  λ x step e. refl,
  λ x. refl,
  λ x e. refl,
)

sound_behind_tag : (text : List ℕ) (e : Found) → Sound (grammar text) (behind_tag text e)
unfolding shown
sound_behind_tag text (f.Name n) = (((refl, sound_guard_alone text, refl), tt, refl), tt, refl, refl)
sound_behind_tag text (f.Expr e shape) = tt
sound_behind_tag text (f.Guard of pos) = tt

abbrev DEFINE : List ℕ
DEFINE = numbers (k.Define ∷ [])

tag_more : (text : List ℕ) (e : Found) (v : Tag) → within (more (grammar text) (behind_tag text e) v) TAG_MOST ≡ true
unfolding shown
tag_more text (f.Name n) v = refl
tag_more text (f.Expr e shape) v = refl
tag_more text (f.Guard of pos) v = refl

tag_first : (text : List ℕ) (e : Found) → within (first (grammar text) (behind_tag text e)) DEFINE ≡ true
unfolding shown
tag_first text (f.Name n) = refl
tag_first text (f.Expr e shape) = refl
tag_first text (f.Guard of pos) = refl

found_within : (text : List ℕ) (e : Found) → within (found_more Guard 5 e) (MOST Guard 5) ≡ true
unfolding shown
found_within text e = (sound_expr text Guard).5 e

sound_tag : (text : List ℕ) → Sound (grammar text) (tag text)
unfolding shown
sound_tag text = (
  sound_expr text Guard,
  λ e. sound_behind_tag text e,
  λ e. quiet TAG_MOST (λ _ s. s) (found_more Guard 5 e) e (empty (behind_tag text e)) (within_trans (found_more Guard 5 e) (MOST Guard 5) TAG_MOST (found_within text e) refl),
  λ e. apart_left (found_more Guard 5 e) (MOST Guard 5) (first (grammar text) (behind_tag text e)) (found_within text e)
      (apart_right (MOST Guard 5) DEFINE (first (grammar text) (behind_tag text e)) refl (tag_first text e)),
  λ e v. tag_more text e v,
  λ _. refl,
  λ e. tag_first text e,
)

sound_tag_behind : (text : List ℕ) (before : Option Simple) → Sound (grammar text) (tag_behind text before)
unfolding shown
sound_tag_behind text before = ((refl, (sound_tag text, refl), refl), tt, refl)

sound_behind_switch : (text : List ℕ) (read : SimpleRead) → Sound (grammar text) (behind_switch text read)
unfolding shown
sound_behind_switch text (sr.Name n) = (sound_tag_behind text (Some (simple.Expr (x.Name n))), tt, refl, refl)
sound_behind_switch text (sr.Expr e) = (sound_tag_behind text (Some (simple.Expr e)), tt, refl, refl)
sound_behind_switch text (sr.Simple s) = sound_tag_behind text (Some s)
sound_behind_switch text (sr.Guard of) = tt
sound_behind_switch text (sr.Range left of) = sound_tag_behind text None

behind_switch_more : (text : List ℕ) (read : SimpleRead) (v : SwitchHeader) → within (more (grammar text) (behind_switch text read) v) (HEADER_MOST kind.Switch) ≡ true
unfolding shown
behind_switch_more text (sr.Name n) v = refl
behind_switch_more text (sr.Expr e) v = refl
behind_switch_more text (sr.Simple s) v = refl
behind_switch_more text (sr.Guard of) v = refl
behind_switch_more text (sr.Range left of) v = refl

behind_switch_first : (text : List ℕ) (read : SimpleRead) → within (first (grammar text) (behind_switch text read)) SEMICOLON ≡ true
unfolding shown
behind_switch_first text (sr.Name n) = refl
behind_switch_first text (sr.Expr e) = refl
behind_switch_first text (sr.Simple s) = refl
behind_switch_first text (sr.Guard of) = refl
behind_switch_first text (sr.Range left of) = refl

sound_switch_head : (text : List ℕ) → Sound (grammar text) (switch_head text)
unfolding shown
sound_switch_head text = (
  sound_tag_behind text None,
  (
    sound_simple_statements text kind.Switch,
    λ read. sound_behind_switch text read,
    λ read. quiet (HEADER_MOST kind.Switch) (λ _ h. h) (SIMPLE_MOST kind.Switch) read (empty (behind_switch text read)) refl,
    λ read. apart_right (SIMPLE_MOST kind.Switch) SEMICOLON (first (grammar text) (behind_switch text read)) refl (behind_switch_first text read),
    λ read v. behind_switch_more text read v,
    λ _. refl,
    λ read. behind_switch_first text read,
  ),
  refl,
  refl,
)

pub sound_switch_statement : (text : List ℕ) → Sound (grammar text) (switch_statement text)
unfolding shown
sound_switch_statement text = (refl, ((sound_switch_head text, tt, refl, refl), tt, refl), refl)

-- ---- `for`

sound_for_clauses : (text : List ℕ) (before : Option Simple) → Sound (grammar text) (for_clauses text before)
unfolding shown
sound_for_clauses text before = (
  (refl, ((sound_condition text, tt, refl), tt, refl, refl), refl),
  (refl, ((sound_simple_statements text kind.Header, tt, refl), tt, refl, refl), refl),
  refl,
)

sound_behind_for : (text : List ℕ) (read : SimpleRead) → Sound (grammar text) (behind_for text read)
unfolding shown
sound_behind_for text (sr.Name n) = (sound_for_clauses text (Some (simple.Expr (x.Name n))), tt, refl, refl)
sound_behind_for text (sr.Expr e) = (sound_for_clauses text (Some (simple.Expr e)), tt, refl, refl)
sound_behind_for text (sr.Simple s) = sound_for_clauses text (Some s)
sound_behind_for text (sr.Guard of) = sound_for_clauses text None
sound_behind_for text (sr.Range left of) = tt

behind_for_more : (text : List ℕ) (read : SimpleRead) (v : ForHeader) → within (more (grammar text) (behind_for text read) v) (HEADER_MOST kind.For) ≡ true
unfolding shown
behind_for_more text (sr.Name n) v = refl
behind_for_more text (sr.Expr e) v = refl
behind_for_more text (sr.Simple s) v = refl
behind_for_more text (sr.Guard of) v = refl
behind_for_more text (sr.Range left of) v = refl

behind_for_first : (text : List ℕ) (read : SimpleRead) → within (first (grammar text) (behind_for text read)) SEMICOLON ≡ true
unfolding shown
behind_for_first text (sr.Name n) = refl
behind_for_first text (sr.Expr e) = refl
behind_for_first text (sr.Simple s) = refl
behind_for_first text (sr.Guard of) = refl
behind_for_first text (sr.Range left of) = refl

sound_for_header : (text : List ℕ) → Sound (grammar text) (for_header text)
unfolding shown
sound_for_header text = (
  (sound_range_of text, tt, refl),
  (
    sound_for_clauses text None,
    (
      sound_simple_statements text kind.For,
      λ read. sound_behind_for text read,
      λ read. quiet (HEADER_MOST kind.For) (λ _ h. h) (SIMPLE_MOST kind.For) read (empty (behind_for text read)) refl,
      λ read. apart_right (SIMPLE_MOST kind.For) SEMICOLON (first (grammar text) (behind_for text read)) refl (behind_for_first text read),
      λ read v. behind_for_more text read v,
      λ _. refl,
      λ read. behind_for_first text read,
    ),
    refl,
    refl,
  ),
  refl,
  refl,
)

pub sound_for_statement : (text : List ℕ) → Sound (grammar text) (for_statement text)
unfolding shown
sound_for_statement text = (refl, ((sound_for_header text, tt, refl, refl), tt, refl), refl)
