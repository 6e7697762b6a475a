-- Identifiers. Go specification, "Letters and digits" and "Identifiers"; the categories are Unicode's.
use Rattle.std.specs.Prelude.{ℕ, ◌≡◌, List, [], ◌∷◌, ◌==◌, ◌||◌, Bool, true, false, All, Some, flat_map}
use Rattle.std.specs.List.{list_all}
use Rattle.std.specs.Char.{encode_utf8, IsScalar}
use Rattle.ucd_category.specs.GeneralCategory.{general_category, general_category_eq}
use Rattle.ucd_category.specs.GeneralCategoryGroup.{in_group}
use Rattle.ucd_category.specs.declared.GeneralCategory.TheVariants.{DecimalNumber}
use Rattle.ucd_category.specs.declared.GeneralCategoryGroup.TheVariants.{Letter}
use Rattle.gno_scan.specs.declared.kind.TokenKind.{TokenKind}
use Rattle.gno_scan.specs.Fixed.{keyword_spelling}

-- `_` or a character of the categories Lu, Ll, Lt, Lm and Lo
unfoldable pub is_letter : ℕ → Bool
is_letter c = c == 95 || in_group Letter (general_category c)

-- a character of the category Nd
unfoldable pub is_digit : ℕ → Bool
is_digit c = general_category_eq (general_category c) DecimalNumber

abbrev pub is_letter_or_digit : ℕ → Bool
is_letter_or_digit c = is_letter c || is_digit c

abbrev pub begins_with_letter : List ℕ → Bool
begins_with_letter [] = false
begins_with_letter (c ∷ cs) = is_letter c

-- the bytes of a letter and of letters and digits behind it
pub record IsIdentifier (word : List ℕ) : Type 0 where
  pub characters : List ℕ
  pub scalars : All IsScalar characters
  pub spelled : word ≡ flat_map encode_utf8 characters
  pub first : begins_with_letter characters ≡ true
  pub each : list_all is_letter_or_digit characters ≡ true

abbrev pub IsKeyword : List ℕ → Type 0
IsKeyword word = (kind : TokenKind) × (keyword_spelling kind ≡ Some word)

-- a name is an identifier that is no keyword
pub record IsName (word : List ℕ) : Type 0 where
  pub identifier : IsIdentifier word
  pub no_keyword : IsKeyword word → ⊥
