use Rattle.std.proofs.Common.{length}
use Rattle.gno_grammar.proofs.Loops.{UntilGoing}
use Rattle.gno_reader.specs.Scope.{reads}
use Rattle.gno_rules.specs.Shapes.{is_guard, shape_of_operand, with_suffix}
use Rattle.gno_rules.specs.Expressions.{suffix}
use Rattle.gno_rules.specs.Statements.{guard_alone}
use Rattle.gno_rules.specs.declared.expression.Place.TheVariants.{Guard}
use Rattle.gno_switches.proofs.switch_header.guard_alone.Given as goal

abbrev pub invariant-loop-tokens : goal.invariant-loop-tokens
invariant-loop-tokens g l = UntilGoing (λ x. is_guard (shape_of_operand x)) (λ x. reads (g.R.Reader.scope l.fn.reader) (λ text. suffix text Guard (shape_of_operand x))) with_suffix (reads (g.R.Reader.scope l.fn.reader) guard_alone l.fn.tokens) l.operand l.tokens

abbrev pub decreases-loop-tokens : goal.decreases-loop-tokens
decreases-loop-tokens g l = length l.tokens
