use Rattle.std.proofs.Common.{length, not, List, [], ◌∷◌}
use Rattle.gno_grammar.proofs.Loops.{Going}
use Rattle.gno_reader.specs.Lists.{Reads, ReadsItem, further, items}
use Rattle.gno_rules.specs.Kinds.{code, numbers}
use Rattle.gno_rules.specs.Parts.{with_item}
use Rattle.gno_reader.proofs.list.listed.Given as goal

abbrev pub invariant-loop-separator : goal.invariant-loop-separator
invariant-loop-separator g l = (read : Reads g.row.T.Denot) → ReadsItem read (goal.I-pre g l.fn.item) (goal.I-post g l.fn.item)
    → Going code (λ xs. not xs.1) (λ _. numbers (l.fn.separator ∷ [])) (λ _. further l.fn.separator l.fn.begin read) with_item (items l.fn.separator l.fn.begin read l.fn.tokens) l.list l.tokens

abbrev pub decreases-loop-separator : goal.decreases-loop-separator
decreases-loop-separator g l = length l.tokens
