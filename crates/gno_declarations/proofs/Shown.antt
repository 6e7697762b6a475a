-- Phrases that are named like a word of the code.
use Rattle.std.proofs.Common.{ℕ}
use Rattle.gno_rules.specs.Declarations.{const, var, type as declared}

unfoldable pub specs : ℕ
unfolding const var declared
specs = 0
