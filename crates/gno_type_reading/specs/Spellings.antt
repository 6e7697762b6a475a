-- Names, as tests.
use Rattle.std.specs.Prelude.{ℕ, List, length, Bool, true, false, ◌&&◌, Option, Some, None}
use Rattle.std.specs.List.{list_all}
use Rattle.gno_scan.specs.declared.kind.TokenKind.{TokenKind}
use Rattle.gno_scan.specs.Kinds.{kind_of, keywords_by_length}
use Rattle.gno_scan.specs.Names.{begins_with_letter, is_letter_or_digit}

abbrev pub is_there : {A : Type 0} → Option A → Bool
is_there None = false
is_there (Some x) = true

-- a keyword stands beside the word
abbrev pub is_in : List (List ℕ × TokenKind) → List ℕ → Bool
is_in entries word = is_there (kind_of entries word)

abbrev pub is_keyword : List ℕ → Bool
is_keyword word = is_in (keywords_by_length (length word)) word

-- a letter, and letters and digits behind it
abbrev pub are_letters : List ℕ → Bool
are_letters characters = begins_with_letter characters && list_all is_letter_or_digit characters
