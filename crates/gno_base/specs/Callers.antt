-- The names of callers.
use Rattle.std.specs.Prelude.{ℕ, List, length, Bool, ◌&&◌, ◌||◌, nat_le}
use Rattle.std.specs.List.{list_all}

-- `a` to `z`
abbrev pub is_small_letter : ℕ → Bool
is_small_letter b = nat_le 97 b && nat_le b 122

-- `0` to `9`
abbrev pub is_digit : ℕ → Bool
is_digit b = nat_le 48 b && nat_le b 57

abbrev pub is_caller_byte : ℕ → Bool
is_caller_byte b = is_small_letter b || is_digit b

-- a caller has 1 to 64 small letters and digits
abbrev pub is_caller : List ℕ → Bool
is_caller text = nat_le 1 (length text) && (nat_le (length text) 64 && list_all is_caller_byte text)
