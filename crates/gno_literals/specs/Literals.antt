-- The constant that a literal spells. Go specification, "Integer literals", "Rune literals" and "String literals".
use Rattle.std.specs.Prelude.{ℕ, pos, List, ◌==◌, not, filter}
use Rattle.std.specs.Str.{byte}
use Rattle.gno_constants.specs.declared.constant.Constant.{Constant}
use Rattle.gno_constants.specs.declared.constant.Constant.TheVariants.{Text, Whole}
use Rattle.gno_scan.specs.Numbers.{IsInteger, IsValue}
use Rattle.gno_scan.specs.Quoted.{IsQuoted, IsRaw}
use Rattle.gno_tree.specs.declared.word.LiteralKind.{LiteralKind}
use Rattle.gno_tree.specs.declared.word.LiteralKind.TheVariants.{Integer, Rune, String}
use Rattle.gno_literals.specs.Parts.{CharacterValue, PartsValue}

-- an integer literal, and its number, which is at most 2^127 - 1
pub record IntegerValue (word : List ℕ) (value : ℕ) : Type 0 where
  pub literal : IsInteger word
  pub value_is : IsValue word value

-- one character or one escape between quotes, and its number
pub record RuneValue (word : List ℕ) (value : ℕ) : Type 0 where
  pub literal : IsQuoted (byte "'") word
  pub character : CharacterValue (byte "'") literal.inside value

-- an interpreted string, and the bytes of its parts
pub record InterpretedValue (word bytes : List ℕ) : Type 0 where
  pub literal : IsQuoted (byte "\"") word
  pub parts : PartsValue (byte "\"") literal.inside bytes

-- bytes without the carriage returns among them
abbrev pub without_returns : List ℕ → List ℕ
without_returns bytes = filter (λ b. not (b == byte "\r")) bytes

-- a string literal, and the bytes of the string
pub data TextValue : List ℕ → List ℕ → Type 0 where
  interpreted : (word bytes : List ℕ) → InterpretedValue word bytes → TextValue word bytes
  raw : (word : List ℕ) (literal : IsRaw word) → TextValue word (without_returns literal.inside)

-- the constant that a literal of such a kind spells
pub data Spells : LiteralKind → List ℕ → Constant → Type 0 where
  integer : (word : List ℕ) (value : ℕ) → IntegerValue word value → Spells Integer word (Whole (pos value))
  rune : (word : List ℕ) (value : ℕ) → RuneValue word value → Spells Rune word (Whole (pos value))
  string : (word bytes : List ℕ) → TextValue word bytes → Spells String word (Text bytes)
