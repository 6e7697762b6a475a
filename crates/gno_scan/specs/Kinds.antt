-- The spellings of Fixed read the other way round: the kind of a word.
use Rattle.std.specs.Prelude.{ℕ, List, [], ◌∷◌, ◌==◌, nat_le, Option, Some, None, if◌then◌else◌, codes}
use Rattle.std.specs.Str.{byte, bytes_eq}
use Rattle.gno_scan.specs.declared.kind.TokenKind.{TokenKind}
use Rattle.gno_scan.specs.declared.kind.TokenKind.TheVariants.{Break, Case, Chan, Const, Continue, Default, Defer, Else, Fallthrough, For, Func, Go, Goto, If, Import, Interface, Map, Package, Range, Return, Select, Struct, Switch, «Type», Var, Plus, Minus, Star, Slash, Percent, And, Or, Caret, ShiftLeft, ShiftRight, AndNot, PlusAssign, MinusAssign, StarAssign, SlashAssign, PercentAssign, AndAssign, OrAssign, CaretAssign, ShiftLeftAssign, ShiftRightAssign, AndNotAssign, BothTrue, OneTrue, Arrow, Increment, Decrement, Equal, NotEqual, Less, LessEqual, Greater, GreaterEqual, Assign, Define, Not, Tilde, Ellipsis, LeftParen, RightParen, LeftBracket, RightBracket, LeftBrace, RightBrace, Comma, Period, Colon, Semicolon}

-- the kind that stands beside this word
abbrev pub kind_of : List (List ℕ × TokenKind) → List ℕ → Option TokenKind
kind_of [] word = None
kind_of (entry ∷ entries) word = if bytes_eq word entry.0 then Some entry.1 else kind_of entries word

-- the operators and marks of one byte
unfoldable pub operators_of_one : List (List ℕ × TokenKind)
operators_of_one = (codes "+", Plus) ∷ (codes "-", Minus) ∷ (codes "*", Star) ∷ (codes "/", Slash) ∷ (codes "%", Percent) ∷ (codes "&", And) ∷ (codes "|", Or)
    ∷ (codes "^", Caret) ∷ (codes "<", Less) ∷ (codes ">", Greater) ∷ (codes "=", Assign) ∷ (codes "!", Not) ∷ (codes "~", Tilde) ∷ (codes "(", LeftParen)
    ∷ (codes ")", RightParen) ∷ (codes "[", LeftBracket) ∷ (codes "]", RightBracket) ∷ (codes "{", LeftBrace) ∷ (codes "}", RightBrace)
    ∷ (codes ",", Comma) ∷ (codes ".", Period) ∷ (codes ":", Colon) ∷ (codes ";", Semicolon) ∷ []

-- the operators of two bytes of which the second is `=`
unfoldable pub operators_with_equals : List (List ℕ × TokenKind)
operators_with_equals = (codes "+=", PlusAssign) ∷ (codes "-=", MinusAssign) ∷ (codes "*=", StarAssign) ∷ (codes "/=", SlashAssign) ∷ (codes "%=", PercentAssign)
    ∷ (codes "&=", AndAssign) ∷ (codes "|=", OrAssign) ∷ (codes "^=", CaretAssign) ∷ (codes "==", Equal) ∷ (codes "!=", NotEqual) ∷ (codes "<=", LessEqual)
    ∷ (codes ">=", GreaterEqual) ∷ (codes ":=", Define) ∷ []

-- the other operators of two bytes
unfoldable pub other_operators_of_two : List (List ℕ × TokenKind)
other_operators_of_two = (codes "<<", ShiftLeft) ∷ (codes ">>", ShiftRight) ∷ (codes "&^", AndNot) ∷ (codes "&&", BothTrue) ∷ (codes "||", OneTrue) ∷ (codes "<-", Arrow)
    ∷ (codes "++", Increment) ∷ (codes "--", Decrement) ∷ []

-- the operators of three bytes
unfoldable pub operators_of_three : List (List ℕ × TokenKind)
operators_of_three = (codes "<<=", ShiftLeftAssign) ∷ (codes ">>=", ShiftRightAssign) ∷ (codes "&^=", AndNotAssign) ∷ (codes "...", Ellipsis) ∷ []

abbrev pub one_byte : ℕ → Option TokenKind
one_byte a = kind_of operators_of_one (a ∷ [])

abbrev pub before_equals : ℕ → Option TokenKind
before_equals a = kind_of operators_with_equals (a ∷ byte "=" ∷ [])

abbrev pub two_bytes : ℕ → ℕ → Option TokenKind
two_bytes a b = if b == byte "=" then before_equals a else kind_of other_operators_of_two (a ∷ b ∷ [])

abbrev pub three_bytes : ℕ → ℕ → ℕ → Option TokenKind
three_bytes a b c = kind_of operators_of_three (a ∷ b ∷ c ∷ [])

-- the operator or mark that the first byte of a text is, the first two bytes and the first three
abbrev pub at_one : List ℕ → Option TokenKind
at_one (a ∷ rest) = one_byte a
at_one text = None

abbrev pub at_two : List ℕ → Option TokenKind
at_two (a ∷ b ∷ rest) = two_bytes a b
at_two text = None

abbrev pub at_three : List ℕ → Option TokenKind
at_three (a ∷ b ∷ c ∷ rest) = three_bytes a b c
at_three text = None

-- the keywords of at most three bytes
unfoldable pub keywords_up_to_three : List (List ℕ × TokenKind)
keywords_up_to_three = (codes "for", For) ∷ (codes "go", Go) ∷ (codes "if", If) ∷ (codes "map", Map) ∷ (codes "var", Var) ∷ []

-- those of four
unfoldable pub keywords_of_four : List (List ℕ × TokenKind)
keywords_of_four = (codes "case", Case) ∷ (codes "chan", Chan) ∷ (codes "else", Else) ∷ (codes "func", Func) ∷ (codes "goto", Goto) ∷ (codes "type", «Type»)
    ∷ []

-- those of five
unfoldable pub keywords_of_five : List (List ℕ × TokenKind)
keywords_of_five = (codes "break", Break) ∷ (codes "const", Const) ∷ (codes "defer", Defer) ∷ (codes "range", Range) ∷ []

-- those of six
unfoldable pub keywords_of_six : List (List ℕ × TokenKind)
keywords_of_six = (codes "import", Import) ∷ (codes "return", Return) ∷ (codes "select", Select) ∷ (codes "struct", Struct) ∷ (codes "switch", Switch)
    ∷ []

-- those of seven or more
unfoldable pub keywords_from_seven : List (List ℕ × TokenKind)
keywords_from_seven = (codes "continue", Continue) ∷ (codes "default", Default) ∷ (codes "fallthrough", Fallthrough) ∷ (codes "interface", Interface) ∷ (codes "package", Package)
    ∷ []

-- the keywords among which a word of so many bytes can be
abbrev pub keywords_by_length : ℕ → List (List ℕ × TokenKind)
keywords_by_length n = if nat_le n 3 then keywords_up_to_three else if n == 4 then keywords_of_four else if n == 5 then keywords_of_five else if n == 6 then keywords_of_six else keywords_from_seven
