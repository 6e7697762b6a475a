use Rattle.std.proofs.Common.{length}
use Rattle.gno_grammar.proofs.Loops.{Going}
use Rattle.gno_reader.specs.Scope.{reads}
use Rattle.gno_rules.specs.Kinds.{code}
use Rattle.gno_rules.specs.Signatures.{COMMA, goes_on, with_entry, parameter_list}
use Rattle.gno_signatures.proofs.Turns.{next}
use Rattle.gno_signatures.proofs.parameters.parameter_list.Given as goal

abbrev pub invariant-loop-tokens : goal.invariant-loop-tokens
invariant-loop-tokens g l = Going code goes_on (λ _. COMMA) (λ list. reads (g.R.Reader.scope l.reader) (next l.variadics list.state)) with_entry
    (reads (g.R.Reader.scope l.reader) (λ text. parameter_list text l.variadics) l.fn.tokens) l.list l.tokens

abbrev pub decreases-loop-tokens : goal.decreases-loop-tokens
decreases-loop-tokens g l = length l.tokens
