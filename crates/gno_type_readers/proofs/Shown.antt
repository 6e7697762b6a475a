-- Phrases that are named like a word of the code.
use Rattle.std.proofs.Common.{ℕ}
use Rattle.gno_rules.specs.Types.{struct, type as type_phrase}

unfoldable pub structure : ℕ
unfolding struct
structure = 0

unfoldable pub any_type : ℕ
unfolding type_phrase
any_type = 0
