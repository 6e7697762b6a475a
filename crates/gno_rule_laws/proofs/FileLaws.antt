-- The laws of a file's tree and of its outcome.
use Rattle.std.proofs.Common.{◌≡◌, ℕ, List}
use Rattle.gno_grammar.specs.Readers.{Outcome, run, level}
use Rattle.gno_grammar.specs.Answers.{closed}
use Rattle.gno_grammar.proofs.OneOutcome.{one_outcome}
use Rattle.gno_scan.specs.declared.token.Token.{Token}
use Rattle.gno_tree.specs.declared.file.FileTree.{FileTree}
use Rattle.gno_rules.specs.Declarations.{file}
use Rattle.gno_rules.specs.Files.{Reads, IsOutcome, MOST_NESTED}
use Rattle.gno_rules.specs.Table.{grammar}
use Rattle.gno_rule_laws.proofs.Sound.{file_answers, one_file}

pub same_tree : (text : List ℕ) (tokens : List Token) (tree other : FileTree) → Reads text tokens tree → Reads text tokens other → tree ≡ other
same_tree text tokens tree other h h' = one_file text tokens tree other h h'

pub some_outcome : (text : List ℕ) (tokens : List Token) → (out : Outcome Token FileTree) × IsOutcome text tokens out
some_outcome text tokens = (closed (grammar text) (run (grammar text) (level (grammar text) MOST_NESTED) (file text) tokens), file_answers text MOST_NESTED tokens)

pub same_outcome : (text : List ℕ) (tokens : List Token) (out other : Outcome Token FileTree) → IsOutcome text tokens out → IsOutcome text tokens other → out ≡ other
same_outcome text tokens out other h h' = one_outcome (grammar text) (file text) MOST_NESTED tokens out other h h'
