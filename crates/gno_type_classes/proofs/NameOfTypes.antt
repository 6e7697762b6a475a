-- The name that types have in tests.
use Rattle.std.proofs.Common.{◌≡◌, refl, [], ◌∷◌, true, Some, rules, arith}
use Rattle.std.specs.Prelude.{codes, All}
use Rattle.std.specs.List.{list_all}
use Rattle.std.proofs.lemmas.List.Elements.{All-cons, All-nil}
use Rattle.std.specs.Char.{encode_utf8, IsScalar}
use Rattle.gno_scan.specs.declared.kind.TokenKind.{TokenKind}
use Rattle.ucd_category.specs.GeneralCategory.{general_category}
use Rattle.ucd_category.proofs.Computing.{ucd_category}
use Rattle.gno_scan.specs.Fixed.{keyword_spelling}
use Rattle.gno_scan.specs.Names.{IsName, IsIdentifier, is_letter, is_letter_or_digit}
use Rattle.gno_scan.proofs.Letters.{is_letter-ascii}

no_spelling : (kind : TokenKind) → keyword_spelling kind ≡ Some (codes "T") → ⊥
unfolding keyword_spelling
no_spelling _ e = search (rules, e)

letters : list_all is_letter_or_digit (codes "T") ≡ true
unfolding ucd_category general_category is_letter
letters = refl

identifier : IsIdentifier (codes "T")
unfolding encode_utf8
identifier = record {
  characters = codes "T";
  scalars = All-cons IsScalar 84 [] refl (All-nil IsScalar);
  spelled = refl;
  first = is_letter-ascii 84 (omega arith);
  each = letters;
}

pub t_is_name : IsName (codes "T")
t_is_name = record { identifier = identifier; no_keyword = λ k. no_spelling k.0 k.1 }
