-- The class of a byte: which pieces can begin with it.
use Rattle.std.specs.Prelude.{ℕ, ◌==◌, Bool, List, [], ◌∷◌, if◌then◌else◌, codes}
use Rattle.std.specs.List.{list_any}
use Rattle.std.specs.Str.{byte}
use Rattle.gno_scan.specs.declared.class.Class.{Class}
use Rattle.gno_scan.specs.declared.class.Class.TheVariants.{Space, LineFeed, Quote, DoubleQuote, BackQuote, Digit, Point, Solidus, Mark, Other}
use Rattle.gno_scan.specs.Numbers.{is_decimal_digit}
use Rattle.gno_scan.specs.Pieces.{is_blank}

-- a byte with which operators and marks begin, and no other piece
unfoldable pub is_mark : ℕ → Bool
is_mark b = list_any (λ mark. b == mark) (codes "+-*%&|^<>=!~()[]{},:;")

abbrev pub mark_or_other : ℕ → Class
mark_or_other b = if is_mark b then Mark else Other

unfoldable pub class_of : ℕ → Class
class_of b =
    if is_blank b then Space
    else if b == byte "\n" then LineFeed
    else if b == byte "'" then Quote
    else if b == byte "\"" then DoubleQuote
    else if b == byte "`" then BackQuote
    else if is_decimal_digit b then Digit
    else if b == byte "." then Point
    else if b == byte "/" then Solidus
    else mark_or_other b

-- the class of a text's first byte
abbrev pub class_at : List ℕ → Class
class_at [] = Other
class_at (b ∷ rest) = class_of b
