-- Exported names. Go specification, "Exported identifiers".
use Rattle.std.specs.Prelude.{ℕ, List, [], ◌∷◌, Bool, false, ◌&&◌}
use Rattle.std.specs.Str.{chars, is_utf8}
use Rattle.ucd_category.specs.GeneralCategory.{general_category, general_category_eq}
use Rattle.ucd_category.specs.declared.GeneralCategory.TheVariants.{UppercaseLetter}

-- a character of the category Lu
abbrev pub is_capital : ℕ → Bool
is_capital c = general_category_eq (general_category c) UppercaseLetter

abbrev pub first_is_capital : List ℕ → Bool
first_is_capital [] = false
first_is_capital (c ∷ cs) = is_capital c

abbrev pub begins_with_capital : List ℕ → Bool
begins_with_capital text = first_is_capital (chars text)

-- a name whose first character is a capital letter
unfoldable pub is_exported : List ℕ → Bool
is_exported name = is_utf8 name && begins_with_capital name
