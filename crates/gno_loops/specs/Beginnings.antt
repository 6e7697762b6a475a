-- The kinds that begin the header of a `for`.
use Rattle.std.specs.Prelude.{ℕ, List, [], ◌∷◌, ◌++◌}
use Rattle.gno_scan.specs.declared.kind.TokenKind.TheVariants as k
use Rattle.gno_rules.specs.Kinds.{numbers}
use Rattle.gno_rules.specs.Shapes.{EXPRESSION}

abbrev pub FOR_HEADER : List ℕ
FOR_HEADER = numbers (k.Range ∷ k.Semicolon ∷ []) ++ EXPRESSION
