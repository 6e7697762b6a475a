use Rattle.std.proofs.Common.{length}
use Rattle.gno_grammar.specs.Readers.{first}
use Rattle.gno_grammar.proofs.Loops.{Going}
use Rattle.gno_reader.specs.Scope.{reads}
use Rattle.gno_rules.specs.Kinds.{code}
use Rattle.gno_rules.specs.Statements.{may_be_label, unlabeled, with_label, labeled}
use Rattle.gno_rules.specs.Table.{grammar}
use Rattle.gno_grammar.specs.Phrases.{optional}
use Rattle.gno_scan.specs.declared.kind.TokenKind.TheVariants as k
use Rattle.gno_rules.specs.Parts.{a, past, to}
use Rattle.gno_statements.proofs.labeled.labeled.Given as goal

abbrev pub invariant-loop-tokens : goal.invariant-loop-tokens
invariant-loop-tokens g l = Going code (λ l. may_be_label l.last) (λ _. first (grammar (g.R.Reader.scope l.fn.reader).text) (past (a k.Colon) (optional (unlabeled (g.R.Reader.scope l.fn.reader).text)))) (λ _. reads (g.R.Reader.scope l.fn.reader) (λ text. past (a k.Colon) (optional (unlabeled text)))) with_label
    (reads (g.R.Reader.scope l.fn.reader) labeled l.fn.tokens) l.labeled l.tokens

abbrev pub decreases-loop-tokens : goal.decreases-loop-tokens
decreases-loop-tokens g l = length l.tokens
