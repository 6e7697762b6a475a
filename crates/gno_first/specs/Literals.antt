-- Numbers. Go specification, "Integer literals", cut to decimal ones below 10^18.
use Rattle.std.specs.Prelude.{ℕ, ◌≡◌, ◌<◌, ◌^◌, ◌&&◌, List, if◌then◌else◌, Option, Some, None, nat_lt, bytes_eq}
use Rattle.std.specs.Str.Parse.{digits_value}
use Rattle.std.specs.Fmt.{decimal}

-- the word spells the number, without a leading zero
pub record IsLiteral (word : List ℕ) (n : ℕ) : Type 0 where
  pub spelled : word ≡ decimal n
  pub small : n < 10 ^ 18

-- the number that a word spells
unfoldable pub literal_of : List ℕ → Option ℕ
literal_of word = if bytes_eq word (decimal (digits_value 10 word)) && nat_lt (digits_value 10 word) (10 ^ 18) then Some (digits_value 10 word) else None
