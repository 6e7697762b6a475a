-- The words of a script's lines.
use Rattle.std.specs.Prelude.{ℕ, ◌≡◌, ◌<◌, ◌^◌, List, length, Bool, ◌==◌, ◌&&◌, ◌||◌, nat_le, nat_eq, codes}
use Rattle.std.specs.List.{list_all, ends_with}
use Rattle.std.specs.Fmt.{decimal}
use Rattle.gno_base.specs.Callers.{is_small_letter, is_digit}

-- from `!` to `~`
abbrev pub is_visible : ℕ → Bool
is_visible b = nat_le 33 b && nat_le b 126

-- a word has 1 to 256 visible bytes
abbrev pub is_word : List ℕ → Bool
is_word word = nat_le 1 (length word) && (nat_le (length word) 256 && list_all is_visible word)

-- `A` to `Z`
abbrev pub is_capital_letter : ℕ → Bool
is_capital_letter b = nat_le 65 b && nat_le b 90

-- a letter, a digit, `_`, `-` or `.`
abbrev pub is_name_byte : ℕ → Bool
is_name_byte b = is_small_letter b || (is_capital_letter b || (is_digit b || (b == 95 || (b == 45 || b == 46))))

-- a file's name has at most 256 of these, and ends in `.gno`
abbrev pub is_file_name : List ℕ → Bool
is_file_name word = nat_le (length word) 256 && (ends_with nat_eq word (codes ".gno") && list_all is_name_byte word)

-- a budget is a decimal number without a leading zero
pub record IsBudget (word : List ℕ) (n : ℕ) : Type 0 where
  pub spelled : word ≡ decimal n
  pub small : n < 2 ^ 63
