-- Of simple statements one token decides.
use Rattle.std.proofs.Common.{◌≡◌, refl, ℕ, true, List, ◌++◌, Option, Some, None}
use Rattle.gno_grammar.specs.Sets.{disjoint, within}
use Rattle.gno_grammar.specs.Readers.{first}
use Rattle.gno_grammar.specs.Deciding.{empty, quiet_after, more, Sound}
use Rattle.gno_rules.specs.Signatures.{COMMA}
use Rattle.gno_rules.specs.Shapes.{MOST}
use Rattle.gno_rules.specs.Expressions.{exprs_more}
use Rattle.gno_rules.specs.Statements.{place_of, Left, one_name, one_expr, one_guard, many_names, many_exprs, left_of, TAIL, SIMPLE_MOST, range_of, assigned, assign_tail, define_tail, define_one, step_tail, simple_tail, simple_read, simple_statements}
use Rattle.gno_rules.specs.Table.{grammar}
use Rattle.gno_rules.specs.declared.expression.Exprs.{Exprs}
use Rattle.gno_rules.specs.declared.expression.Place.{Place}
use Rattle.gno_rules.specs.declared.expression.Place.TheVariants.{Plain, Header, Guard}
use Rattle.gno_rules.specs.declared.statement.Kind.{Kind}
use Rattle.gno_rules.specs.declared.statement.Kind.TheVariants as kind
use Rattle.gno_rules.specs.declared.statement.Tail.{Tail}
use Rattle.gno_rule_laws.proofs.KindSets.{apart_left, apart_right, within_trans}
use Rattle.gno_rule_laws.proofs.OperationsSound.{sound_expr}
use Rattle.gno_rule_laws.proofs.ListsSound.{sound_exprs, sound_values}
use Rattle.gno_rule_laws.proofs.TypeEnds.{shown, shown_sets}

-- where one set is what can go on at any value, it is only to be compared with what could go on before
pub quiet : {A B C : Type 0} (w : List ℕ) (f : A → B → C) (s : List ℕ) (x : A) (o : Option B) → within s w ≡ true → quiet_after (λ _. w) f s x o ≡ true
quiet w f s x None e = refl
quiet w f s x (Some b) e = e

-- ---- what stands behind the expressions that a simple statement begins with

pub sound_range_of : (text : List ℕ) → Sound (grammar text) (range_of text)
unfolding shown
sound_range_of text = (refl, (sound_expr text Header, tt, refl), refl)

sound_assigned : (text : List ℕ) (place : Kind) → Sound (grammar text) (assigned text place)
unfolding shown
sound_assigned text kind.For = ((sound_range_of text, tt, refl), (sound_values text Header, tt, refl), refl, refl)
sound_assigned text kind.Body = (sound_values text Plain, tt, refl)
sound_assigned text kind.Header = (sound_values text Header, tt, refl)
sound_assigned text kind.Switch = (sound_values text Header, tt, refl)

sound_assign_tail : (text : List ℕ) (place : Kind) → Sound (grammar text) (assign_tail text place)
unfolding shown
sound_assign_tail text place = ((refl, sound_assigned text place, refl), (refl, sound_values text (place_of place), refl), refl, refl)

sound_define_tail : (text : List ℕ) (place : Kind) → Sound (grammar text) (define_tail text place)
unfolding shown
sound_define_tail text kind.For = (refl, ((sound_range_of text, tt, refl), (sound_values text Header, tt, refl), refl, refl), refl)
sound_define_tail text kind.Body = (refl, sound_values text Plain, refl)
sound_define_tail text kind.Header = (refl, sound_values text Header, refl)
sound_define_tail text kind.Switch = (refl, sound_values text Header, refl)

-- the kinds that can go on with a list of expressions are among these
exprs_within : (text : List ℕ) (place : Place) (es : Exprs) → within (exprs_more place es) (COMMA ++ MOST place 5) ≡ true
unfolding shown
exprs_within text place es = (sound_exprs text place).8 es

sound_define_one : (text : List ℕ) (place : Kind) → Sound (grammar text) (define_one text place)
unfolding shown
sound_define_one text kind.For = sound_define_tail text kind.For
sound_define_one text kind.Body = sound_define_tail text kind.Body
sound_define_one text kind.Header = sound_define_tail text kind.Header
sound_define_one text kind.Switch = (refl, λ _. sound_exprs text Guard, λ _. refl, λ _. refl, λ _ es. exprs_within text Guard es, λ _. refl, λ _. refl)

sound_step_tail : (text : List ℕ) → Sound (grammar text) (step_tail text)
unfolding shown
sound_step_tail text = (refl, tt, refl)

sound_simple_tail : (text : List ℕ) (place : Kind) (left : Left) → Sound (grammar text) (simple_tail text place left)
unfolding shown
sound_simple_tail text kind.Body one_name = (sound_step_tail text, (sound_assign_tail text kind.Body, (sound_define_one text kind.Body, tt, refl, refl), refl, refl), refl, refl)
sound_simple_tail text kind.Header one_name = (sound_step_tail text, (sound_assign_tail text kind.Header, (sound_define_one text kind.Header, tt, refl, refl), refl, refl), refl, refl)
sound_simple_tail text kind.Switch one_name = (sound_step_tail text, (sound_assign_tail text kind.Switch, (sound_define_one text kind.Switch, tt, refl, refl), refl, refl), refl, refl)
sound_simple_tail text kind.For one_name = (sound_step_tail text, (sound_assign_tail text kind.For, (sound_define_one text kind.For, tt, refl, refl), refl, refl), refl, refl)
sound_simple_tail text place one_expr = (sound_step_tail text, (sound_assign_tail text place, tt, refl, refl), refl, refl)
sound_simple_tail text place one_guard = tt
sound_simple_tail text kind.Body many_names = (sound_assign_tail text kind.Body, sound_define_tail text kind.Body, refl, refl)
sound_simple_tail text kind.Header many_names = (sound_assign_tail text kind.Header, sound_define_tail text kind.Header, refl, refl)
sound_simple_tail text kind.Switch many_names = (sound_assign_tail text kind.Switch, sound_define_tail text kind.Switch, refl, refl)
sound_simple_tail text kind.For many_names = (sound_assign_tail text kind.For, sound_define_tail text kind.For, refl, refl)
sound_simple_tail text place many_exprs = sound_assign_tail text place

-- the kinds that begin it
tail_first : (text : List ℕ) (place : Kind) (left : Left) → within (first (grammar text) (simple_tail text place left)) TAIL ≡ true
unfolding shown
tail_first text kind.Body one_name = refl
tail_first text kind.Header one_name = refl
tail_first text kind.Switch one_name = refl
tail_first text kind.For one_name = refl
tail_first text place one_expr = refl
tail_first text place one_guard = refl
tail_first text kind.Body many_names = refl
tail_first text kind.Header many_names = refl
tail_first text kind.Switch many_names = refl
tail_first text kind.For many_names = refl
tail_first text place many_exprs = refl

-- the kinds that can go on with it
tail_more : (text : List ℕ) (place : Kind) (left : Left) (tail : Tail) → within (more (grammar text) (simple_tail text place left) tail) (SIMPLE_MOST place) ≡ true
unfolding shown
tail_more text kind.Body one_name tail = refl
tail_more text kind.Header one_name tail = refl
tail_more text kind.Switch one_name tail = refl
tail_more text kind.For one_name tail = refl
tail_more text kind.Body one_expr tail = refl
tail_more text kind.Header one_expr tail = refl
tail_more text kind.Switch one_expr tail = refl
tail_more text kind.For one_expr tail = refl
tail_more text place one_guard tail = refl
tail_more text kind.Body many_names tail = refl
tail_more text kind.Header many_names tail = refl
tail_more text kind.Switch many_names tail = refl
tail_more text kind.For many_names tail = refl
tail_more text kind.Body many_exprs tail = refl
tail_more text kind.Header many_exprs tail = refl
tail_more text kind.Switch many_exprs tail = refl
tail_more text kind.For many_exprs tail = refl

-- ---- simple statements

simple_self : (place : Kind) → within (SIMPLE_MOST place) (SIMPLE_MOST place) ≡ true
unfolding shown_sets
simple_self kind.Body = refl
simple_self kind.Header = refl
simple_self kind.Switch = refl
simple_self kind.For = refl

exprs_among : (place : Kind) → within (COMMA ++ MOST (place_of place) 5) (SIMPLE_MOST place) ≡ true
unfolding shown_sets
exprs_among kind.Body = refl
exprs_among kind.Header = refl
exprs_among kind.Switch = refl
exprs_among kind.For = refl

exprs_apart : (place : Kind) → disjoint (COMMA ++ MOST (place_of place) 5) TAIL ≡ true
unfolding shown_sets
exprs_apart kind.Body = refl
exprs_apart kind.Header = refl
exprs_apart kind.Switch = refl
exprs_apart kind.For = refl

pub sound_simple_statements : (text : List ℕ) (place : Kind) → Sound (grammar text) (simple_statements text place)
unfolding shown
sound_simple_statements text place = (
  sound_exprs text (place_of place),
  λ es. sound_simple_tail text place (left_of es),
  λ es. quiet (SIMPLE_MOST place) simple_read (exprs_more (place_of place) es) es (empty (simple_tail text place (left_of es)))
      (within_trans (exprs_more (place_of place) es) (COMMA ++ MOST (place_of place) 5) (SIMPLE_MOST place) (exprs_within text (place_of place) es) (exprs_among place)),
  λ es. apart_left (exprs_more (place_of place) es) (COMMA ++ MOST (place_of place) 5) (first (grammar text) (simple_tail text place (left_of es))) (exprs_within text (place_of place) es)
      (apart_right (COMMA ++ MOST (place_of place) 5) TAIL (first (grammar text) (simple_tail text place (left_of es))) (exprs_apart place) (tail_first text place (left_of es))),
  λ es tail. tail_more text place (left_of es) tail,
  λ _. simple_self place,
  λ es. tail_first text place (left_of es),
)
