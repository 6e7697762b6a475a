-- Tables of words and kinds.
use Rattle.std.proofs.Common.{◌≡◌, ℕ, Bool, List, [], ◌∷◌, refl}
use Rattle.std.specs.Prelude.{true, false, Option, Some, if◌then◌else◌}
use Rattle.std.specs.Str.{bytes_eq}
use Rattle.std.proofs.lemmas.Slice.Eq.{bytes_eq-Decides}
use Rattle.gno_scan.specs.declared.kind.TokenKind.{TokenKind}
use Rattle.gno_scan.specs.Kinds.{kind_of}

-- each kind of the table is spelled as the word beside it
abbrev pub AreSpelled : (TokenKind → Option (List ℕ)) → List (List ℕ × TokenKind) → Type 0
AreSpelled spelling [] = Unit {0}
AreSpelled spelling (entry ∷ entries) = (spelling entry.1 ≡ Some entry.0) × AreSpelled spelling entries

pub spelled_in : (spelling : TokenKind → Option (List ℕ)) (entries : List (List ℕ × TokenKind)) (word : List ℕ) (kind : TokenKind) → AreSpelled spelling entries → kind_of entries word ≡ Some kind → spelling kind ≡ Some word
spelled_in spelling [] word kind h e = cc
spelled_in spelling (entry ∷ entries) word kind h e = at_entry (λ later. spelled_in spelling entries word kind h.1 later) (bytes_eq word entry.0) refl e
  where
    at_entry : (kind_of entries word ≡ Some kind → spelling kind ≡ Some word) → (t : Bool) → bytes_eq word entry.0 ≡ t → (if t then Some entry.1 else kind_of entries word) ≡ Some kind
        → spelling kind ≡ Some word
    at_entry later true same is = let equal = (bytes_eq-Decides word entry.0).0 same in let first = h.0 in cc
    at_entry later false same is = later is
