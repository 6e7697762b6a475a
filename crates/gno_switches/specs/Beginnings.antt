-- The kinds that begin the header of a `switch`.
use Rattle.std.specs.Prelude.{ℕ, List, [], ◌∷◌, ◌++◌}
use Rattle.gno_scan.specs.declared.kind.TokenKind.TheVariants as k
use Rattle.gno_rules.specs.Kinds.{numbers}
use Rattle.gno_rules.specs.Shapes.{EXPRESSION}

abbrev pub SWITCH_HEADER : List ℕ
SWITCH_HEADER = numbers (k.Semicolon ∷ []) ++ EXPRESSION
