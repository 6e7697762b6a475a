-- The kinds that begin statements.
use Rattle.std.specs.Prelude.{ℕ, List, [], ◌∷◌, ◌++◌}
use Rattle.gno_scan.specs.declared.kind.TokenKind.TheVariants as k
use Rattle.gno_rules.specs.Kinds.{numbers}
use Rattle.gno_rules.specs.Shapes.{EXPRESSION}

-- the kinds that begin a statement that is no simple statement
abbrev pub KEYWORD : List ℕ
KEYWORD = numbers (k.Const ∷ k.Type ∷ k.Var ∷ k.LeftBrace ∷ k.If ∷ k.Switch ∷ k.For ∷ k.Return ∷ k.Break ∷ k.Continue ∷ k.Fallthrough ∷ k.Defer ∷ [])

abbrev pub STATEMENT : List ℕ
STATEMENT = KEYWORD ++ EXPRESSION
