-- The tree of a file's tokens, and where tokens that are no file go wrong.
use Rattle.std.specs.Prelude.{ℕ, List}
use Rattle.gno_grammar.specs.Answers.{Is, Exactly}
use Rattle.gno_grammar.specs.Readers.{Outcome}
use Rattle.gno_scan.specs.declared.token.Token.{Token}
use Rattle.gno_tree.specs.declared.file.FileTree.{FileTree}
use Rattle.gno_rules.specs.Declarations.{file}
use Rattle.gno_rules.specs.Table.{grammar}

-- the tokens of the text are the tree, however deep it nests
abbrev pub Reads : List ℕ → List Token → FileTree → Type 0
Reads text tokens tree = Is (grammar text) (file text) tokens tree

-- so many constructs nest at most
abbrev pub MOST_NESTED : ℕ
MOST_NESTED = 200

-- What the tokens give: their one tree; or the first token that continues no tree, unless before it, or there, a form that is left out or a construct too deep begins,
-- which is what is refused then.
abbrev pub IsOutcome : List ℕ → List Token → Outcome Token FileTree → Type 0
IsOutcome text tokens out = Exactly (grammar text) MOST_NESTED (file text) tokens out
