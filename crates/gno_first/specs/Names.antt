-- Names. Go specification, "Identifiers", "Keywords" and "Predeclared identifiers", cut to ASCII letters and digits.
use Rattle.std.specs.Prelude.{ℕ, List, [], ◌∷◌, Bool, false, not, ◌&&◌, ◌||◌, nat_le, codes}
use Rattle.std.specs.List.{list_all, list_any}
use Rattle.std.specs.Str.{bytes_eq}

abbrev pub is_among : List (List ℕ) → List ℕ → Bool
is_among words word = list_any (bytes_eq word) words

abbrev pub is_upper : ℕ → Bool
is_upper b = nat_le 65 b && nat_le b 90

abbrev pub is_letter : ℕ → Bool
is_letter b = is_upper b || (nat_le 97 b && nat_le b 122)

abbrev pub is_digit : ℕ → Bool
is_digit b = nat_le 48 b && nat_le b 57

-- the words that Go keeps for itself
abbrev pub keywords : List (List ℕ)
keywords = codes "break" ∷ codes "case" ∷ codes "chan" ∷ codes "const" ∷ codes "continue" ∷ codes "default" ∷ codes "defer" ∷ codes "else" ∷ codes "fallthrough"
    ∷ codes "for" ∷ codes "func" ∷ codes "go" ∷ codes "goto" ∷ codes "if" ∷ codes "import" ∷ codes "interface" ∷ codes "map" ∷ codes "package" ∷ codes "range"
    ∷ codes "return" ∷ codes "select" ∷ codes "struct" ∷ codes "switch" ∷ codes "type" ∷ codes "var" ∷ []

-- the predeclared names of Gno
abbrev pub predeclared : List (List ℕ)
predeclared = codes "any" ∷ codes "append" ∷ codes "bool" ∷ codes "byte" ∷ codes "cap" ∷ codes "copy" ∷ codes "cross" ∷ codes "delete" ∷ codes "error" ∷ codes "false"
    ∷ codes "int" ∷ codes "int16" ∷ codes "int32" ∷ codes "int64" ∷ codes "int8" ∷ codes "iota" ∷ codes "len" ∷ codes "make" ∷ codes "new" ∷ codes "nil" ∷ codes "panic"
    ∷ codes "print" ∷ codes "println" ∷ codes "realm" ∷ codes "recover" ∷ codes "rune" ∷ codes "string" ∷ codes "true" ∷ codes "uint" ∷ codes "uint16" ∷ codes "uint32"
    ∷ codes "uint64" ∷ codes "uint8" ∷ []

-- further names that a file of the first form does not declare
abbrev pub kept_back : List (List ℕ)
kept_back = codes "clear" ∷ codes "cur" ∷ codes "init" ∷ codes "main" ∷ codes "max" ∷ codes "min" ∷ []

abbrev pub is_reserved : List ℕ → Bool
is_reserved word = is_among keywords word || (is_among predeclared word || is_among kept_back word)

abbrev pub begins_with_letter : List ℕ → Bool
begins_with_letter [] = false
begins_with_letter (b ∷ bs) = is_letter b

-- a name has ASCII letters and digits, begins with a letter, and is none of the reserved words
unfoldable pub is_name : List ℕ → Bool
is_name word = begins_with_letter word && (list_all (λ b. is_letter b || is_digit b) word && not (is_reserved word))
