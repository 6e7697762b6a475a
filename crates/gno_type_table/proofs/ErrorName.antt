-- The name of the one method of `error`.
use Rattle.std.proofs.Common.{◌≡◌, refl, [], ◌∷◌, true, Some, rules, arith}
use Rattle.std.specs.Prelude.{codes, All}
use Rattle.std.specs.List.{list_all}
use Rattle.std.proofs.lemmas.List.Elements.{All-cons, All-nil}
use Rattle.std.specs.Char.{encode_utf8, IsScalar}
use Rattle.std.specs.Str.{chars, is_utf8}
use Rattle.gno_scan.specs.declared.kind.TokenKind.{TokenKind}
use Rattle.ucd_category.specs.GeneralCategory.{general_category}
use Rattle.ucd_category.proofs.Computing.{ucd_category}
use Rattle.gno_scan.specs.Fixed.{keyword_spelling}
use Rattle.gno_scan.specs.Names.{IsName, IsIdentifier, is_letter, is_letter_or_digit}
use Rattle.gno_scan.proofs.Letters.{is_letter-ascii}
use Rattle.gno_terms.specs.Exported.{is_exported}

no_spelling : (kind : TokenKind) → keyword_spelling kind ≡ Some (codes "Error") → ⊥
unfolding keyword_spelling
no_spelling _ e = search (rules, e)

pub error_is_exported : is_exported (codes "Error") ≡ true
unfolding ucd_category general_category is_exported is_utf8 chars encode_utf8
error_is_exported = refl

letters : list_all is_letter_or_digit (codes "Error") ≡ true
unfolding ucd_category general_category is_letter
letters = refl

scalars : All IsScalar (codes "Error")
scalars = All-cons IsScalar 69 (114 ∷ 114 ∷ 111 ∷ 114 ∷ []) refl (All-cons IsScalar 114 (114 ∷ 111 ∷ 114 ∷ []) refl (All-cons IsScalar 114 (111 ∷ 114 ∷ []) refl (All-cons IsScalar 111 (114 ∷ []) refl (All-cons IsScalar 114 [] refl (All-nil IsScalar)))))

error_identifier : IsIdentifier (codes "Error")
unfolding encode_utf8
error_identifier = record {
  characters = codes "Error";
  scalars = scalars;
  spelled = refl;
  first = is_letter-ascii 69 (omega arith);
  each = letters;
}

pub error_is_name : IsName (codes "Error")
error_is_name = record { identifier = error_identifier; no_keyword = λ k. no_spelling k.0 k.1 }
