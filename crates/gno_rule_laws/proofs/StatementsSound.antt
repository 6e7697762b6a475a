-- Of statements, blocks and the bodies of `switch` one token decides.
use Rattle.std.proofs.Common.{refl, ℕ, List}
use Rattle.gno_grammar.specs.Deciding.{Sound, IsSound}
use Rattle.gno_rules.specs.Statements.{return_statement, break_statement, continue_statement, fallthrough_statement, defer_statement, keyword_statement, unlabeled, labeled, statement, next_statement, statements, block, case_labels, one_case, cases, switch_body}
use Rattle.gno_rules.specs.Table.{grammar}
use Rattle.gno_rules.specs.declared.expression.Place.TheVariants.{Plain}
use Rattle.gno_rules.specs.declared.rule.Rule.TheVariants as r
use Rattle.gno_rules.specs.declared.statement.Kind.TheVariants as kind
use Rattle.gno_rule_laws.proofs.HeadersSound.{sound_if_statement, sound_switch_statement, sound_for_statement}
use Rattle.gno_rule_laws.proofs.SimpleSound.{sound_simple_statements}
use Rattle.gno_rule_laws.proofs.DeclarationsSound.{sound_declaration}
use Rattle.gno_rule_laws.proofs.ListsSound.{sound_values, sound_plain_expr}
use Rattle.gno_rule_laws.proofs.TypeEnds.{shown}
use Rattle.gno_grammar.proofs.Plain.{easy}

-- ---- statements

sound_return_statement : (text : List ℕ) → Sound (grammar text) (return_statement text)
unfolding shown
sound_return_statement text = (refl, (sound_values text Plain, tt, refl, refl), refl)

sound_break_statement : (text : List ℕ) → Sound (grammar text) (break_statement text)
unfolding shown
sound_break_statement text = easy (grammar text) (break_statement text) refl

sound_continue_statement : (text : List ℕ) → Sound (grammar text) (continue_statement text)
unfolding shown
sound_continue_statement text = easy (grammar text) (continue_statement text) refl

sound_fallthrough_statement : (text : List ℕ) → Sound (grammar text) (fallthrough_statement text)
unfolding shown
sound_fallthrough_statement text = easy (grammar text) (fallthrough_statement text) refl

sound_defer_statement : (text : List ℕ) → Sound (grammar text) (defer_statement text)
unfolding shown
sound_defer_statement text = (refl, sound_plain_expr text, refl)

sound_keyword_statement : (text : List ℕ) → Sound (grammar text) (keyword_statement text)
unfolding shown
sound_keyword_statement text = (
  (sound_declaration text, tt, refl),
  (
    (tt, tt, refl),
    (
      sound_if_statement text,
      (
        sound_switch_statement text,
        (
          sound_for_statement text,
          (
            sound_return_statement text,
            (sound_break_statement text, (sound_continue_statement text, (sound_fallthrough_statement text, sound_defer_statement text, refl, refl), refl, refl), refl, refl),
            refl,
            refl,
          ),
          refl,
          refl,
        ),
        refl,
        refl,
      ),
      refl,
      refl,
    ),
    refl,
    refl,
  ),
  refl,
  refl,
)

sound_unlabeled : (text : List ℕ) → Sound (grammar text) (unlabeled text)
unfolding shown
sound_unlabeled text = ((sound_keyword_statement text, tt, refl), (sound_simple_statements text kind.Body, tt, refl), refl, refl)

sound_labeled : (text : List ℕ) → Sound (grammar text) (labeled text)
unfolding shown
sound_labeled text = ((sound_unlabeled text, tt, refl), (refl, (sound_unlabeled text, refl), refl), refl, refl, refl)

sound_statement : (text : List ℕ) → Sound (grammar text) (statement text)
unfolding shown
sound_statement text = (sound_labeled text, tt, refl)

-- ---- lists of statements

sound_next_statement : (text : List ℕ) → Sound (grammar text) (next_statement text)
unfolding shown
sound_next_statement text = (refl, (sound_statement text, refl), refl)

sound_statements : (text : List ℕ) → Sound (grammar text) (statements text)
unfolding shown
sound_statements text = (((sound_statement text, refl), tt, refl), sound_next_statement text, refl, refl, refl)

pub sound_block : (text : List ℕ) → Sound (grammar text) (block text)
unfolding shown
sound_block text = (refl, (sound_statements text, refl, refl), refl)

sound_case_labels : (text : List ℕ) → Sound (grammar text) (case_labels text)
unfolding shown
sound_case_labels text = ((refl, sound_values text Plain, refl), (refl, tt, refl), refl, refl)

sound_one_case : (text : List ℕ) → Sound (grammar text) (one_case text)
unfolding shown
sound_one_case text = ((sound_case_labels text, refl, refl), sound_statements text, refl)

sound_cases : (text : List ℕ) → Sound (grammar text) (cases text)
unfolding shown
sound_cases text = (tt, sound_one_case text, refl, refl, refl)

pub sound_switch_body : (text : List ℕ) → Sound (grammar text) (switch_body text)
unfolding shown
sound_switch_body text = (refl, ((sound_cases text, refl, refl), tt, refl), refl)

-- ---- the constructs

pub is_sound_block : (text : List ℕ) → IsSound (grammar text) r.Block
unfolding shown
is_sound_block text = (sound_block text, refl, refl, λ v. refl, λ v. refl)

pub is_sound_switch_body : (text : List ℕ) → IsSound (grammar text) r.SwitchBody
unfolding shown
is_sound_switch_body text = (sound_switch_body text, refl, refl, λ v. refl, λ v. refl)
