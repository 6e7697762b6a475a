-- The kinds of tokens by number, so that sets of them are lists of numbers.
use Rattle.std.specs.Prelude.{ℕ, List, [], ◌∷◌, map, Option, Some, None, slice_index_or}
use Rattle.gno_grammar.specs.declared.refusal.LeftOut.{LeftOut}
use Rattle.gno_grammar.specs.declared.refusal.LeftOut.TheVariants.{Goroutine, Channel, Select as SelectForm, Goto as GotoForm}
use Rattle.gno_scan.specs.Places.{first_of}
use Rattle.gno_scan.specs.declared.kind.TokenKind.{TokenKind}
use Rattle.gno_scan.specs.declared.kind.TokenKind.TheVariants as k
use Rattle.gno_scan.specs.declared.token.Token.{Token}

abbrev pub number : TokenKind → ℕ
number k.Name = 0
number k.Integer = 1
number k.Rune = 2
number k.String = 3
number k.Break = 4
number k.Case = 5
number k.Chan = 6
number k.Const = 7
number k.Continue = 8
number k.Default = 9
number k.Defer = 10
number k.Else = 11
number k.Fallthrough = 12
number k.For = 13
number k.Func = 14
number k.Go = 15
number k.Goto = 16
number k.If = 17
number k.Import = 18
number k.Interface = 19
number k.Map = 20
number k.Package = 21
number k.Range = 22
number k.Return = 23
number k.Select = 24
number k.Struct = 25
number k.Switch = 26
number k.Type = 27
number k.Var = 28
number k.Plus = 29
number k.Minus = 30
number k.Star = 31
number k.Slash = 32
number k.Percent = 33
number k.And = 34
number k.Or = 35
number k.Caret = 36
number k.ShiftLeft = 37
number k.ShiftRight = 38
number k.AndNot = 39
number k.PlusAssign = 40
number k.MinusAssign = 41
number k.StarAssign = 42
number k.SlashAssign = 43
number k.PercentAssign = 44
number k.AndAssign = 45
number k.OrAssign = 46
number k.CaretAssign = 47
number k.ShiftLeftAssign = 48
number k.ShiftRightAssign = 49
number k.AndNotAssign = 50
number k.BothTrue = 51
number k.OneTrue = 52
number k.Arrow = 53
number k.Increment = 54
number k.Decrement = 55
number k.Equal = 56
number k.NotEqual = 57
number k.Less = 58
number k.LessEqual = 59
number k.Greater = 60
number k.GreaterEqual = 61
number k.Assign = 62
number k.Define = 63
number k.Not = 64
number k.Tilde = 65
number k.Ellipsis = 66
number k.LeftParen = 67
number k.RightParen = 68
number k.LeftBracket = 69
number k.RightBracket = 70
number k.LeftBrace = 71
number k.RightBrace = 72
number k.Comma = 73
number k.Period = 74
number k.Colon = 75
number k.Semicolon = 76

abbrev pub numbers : List TokenKind → List ℕ
numbers kinds = map number kinds

abbrev pub all_kinds : List TokenKind
all_kinds = k.Name ∷ k.Integer ∷ k.Rune ∷ k.String ∷ k.Break ∷ k.Case ∷ k.Chan ∷ k.Const ∷ k.Continue ∷ k.Default ∷ k.Defer ∷ k.Else ∷ k.Fallthrough ∷ k.For ∷ k.Func ∷ k.Go ∷ k.Goto ∷ k.If ∷ k.Import ∷ k.Interface ∷ k.Map ∷ k.Package ∷ k.Range ∷ k.Return ∷ k.Select ∷ k.Struct ∷ k.Switch ∷ k.Type ∷ k.Var ∷ k.Plus ∷ k.Minus ∷ k.Star ∷ k.Slash ∷ k.Percent ∷ k.And ∷ k.Or ∷ k.Caret ∷ k.ShiftLeft ∷ k.ShiftRight ∷ k.AndNot ∷ k.PlusAssign ∷ k.MinusAssign ∷ k.StarAssign ∷ k.SlashAssign ∷ k.PercentAssign ∷ k.AndAssign ∷ k.OrAssign ∷ k.CaretAssign ∷ k.ShiftLeftAssign ∷ k.ShiftRightAssign ∷ k.AndNotAssign ∷ k.BothTrue ∷ k.OneTrue ∷ k.Arrow ∷ k.Increment ∷ k.Decrement ∷ k.Equal ∷ k.NotEqual ∷ k.Less ∷ k.LessEqual ∷ k.Greater ∷ k.GreaterEqual ∷ k.Assign ∷ k.Define ∷ k.Not ∷ k.Tilde ∷ k.Ellipsis ∷ k.LeftParen ∷ k.RightParen ∷ k.LeftBracket ∷ k.RightBracket ∷ k.LeftBrace ∷ k.RightBrace ∷ k.Comma ∷ k.Period ∷ k.Colon ∷ k.Semicolon ∷ []

abbrev pub code : Token → ℕ
code token = number token.kind

-- a token of the kind of that number
abbrev pub token_of : ℕ → Token
token_of n = record { kind = slice_index_or all_kinds n k.Name; start = 0; end = 0; pos = first_of 0 }

-- the forms that a token of such a kind begins wherever it stands
abbrev pub form_of : TokenKind → Option LeftOut
form_of k.Go = Some Goroutine
form_of k.Chan = Some Channel
form_of k.Arrow = Some Channel
form_of k.Select = Some SelectForm
form_of k.Goto = Some GotoForm
form_of _ = None
