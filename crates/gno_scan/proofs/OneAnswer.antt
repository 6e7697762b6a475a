-- The scan of a text has one answer.
use Rattle.std.proofs.Common.{◌≡◌, ◌≤◌, ◌<◌, ◌⊎◌, inl, inr, ℕ, zero, suc, List, ap, refl, sym, subst, arith, length}
use Rattle.std.specs.Prelude.{Option, Some, None, IfSome}
use Rattle.std.specs.Str.{IsUtf8, IsValidUpTo}
use Rattle.std.proofs.lemmas.List.{take_all}
use Rattle.gno_scan.specs.declared.piece.Piece.{Piece}
use Rattle.gno_scan.specs.Pieces.{IsPiece}
use Rattle.gno_scan.specs.Scan.{IsFirstFault, IsFaultless, too_long, bad_byte, in_tokens}
use Rattle.gno_scan.specs.Tokens.{Fault, Span, TokensOf}
use Rattle.gno_scan.proofs.OnePiece.{one_piece}
use Rattle.gno_scan.proofs.OneScan.{one_tokens}
use Rattle.gno_scan.proofs.Sorts.{fits}

not_empty : (piece : Piece) (word : List ℕ) → IsPiece piece word → 0 < length word
not_empty piece word is = omega (arith, ap length (fits piece word is).parts)

pub one_list : (text : List ℕ) (spans other : List Span) (fault fault' : Option Fault) → TokensOf text spans fault → TokensOf text other fault' → (spans ≡ other) × (fault ≡ fault')
one_list text spans other fault fault' tokens tokens' = one_tokens one_piece not_empty text spans other fault fault' tokens tokens'

not_further : (text : List ℕ) (at at' : ℕ) → IsValidUpTo text at → IsValidUpTo text at' → at < at' → ⊥
not_further text at at' valid valid' less = valid.longest at' less valid'.front

which : (m n : ℕ) → (m < n) ⊎ (m ≡ n) ⊎ (n < m)
which zero zero = inr (inl refl)
which zero (suc n) = inl (omega arith)
which (suc m) zero = inr (inr (omega arith))
which (suc m) (suc n) = elim (which m n) [
  | inl less ↦ inl (omega (arith, less))
  | inr (inl same) ↦ inr (inl (ap suc same))
  | inr (inr more) ↦ inr (inr (omega (arith, more)))
]

one_place : (text : List ℕ) (at at' : ℕ) → IsValidUpTo text at → IsValidUpTo text at' → (at ≡ at')
one_place text at at' valid valid' = elim (which at at') [
  | inl less ↦ absurd (not_further text at at' valid valid' less)
  | inr (inl same) ↦ same
  | inr (inr more) ↦ absurd (not_further text at' at valid' valid more)
]

not_valid : (text : List ℕ) (at : ℕ) → IsUtf8 text → IsValidUpTo text at → ⊥
not_valid text at utf8 valid = valid.longest (length text) valid.short (subst IsUtf8 (sym (take_all (length text) text (omega arith))) utf8)

some_is : (found : Option Fault) (fault : Fault) (at : ℕ) → found ≡ Some fault → IfSome found (λ f. at ≤ f.at) → at ≤ fault.at
some_is found fault at is before = subst (λ (f : Option Fault). IfSome f (λ g. at ≤ g.at)) is before

same_some : (fault other : Fault) → Some fault ≡ Some other → fault ≡ other
same_some fault other e = cc

not_both : (fault : Fault) → None ≡ Some fault → ⊥
not_both fault e = cc

byte_or_token : (text : List ℕ) (at : ℕ) (spans spans' : List Span) (found : Option Fault) (fault : Fault) → IsValidUpTo text at → TokensOf text spans found → IfSome found (λ f. at ≤ f.at) →
    TokensOf text spans' (Some fault) → IsUtf8 text ⊎ ((bad : ℕ) × IsValidUpTo text bad × (fault.at < bad)) → ⊥
byte_or_token text at spans spans' found fault valid tokens before tokens' (inl utf8) = not_valid text at utf8 valid
byte_or_token text at spans spans' found fault valid tokens before tokens' (inr bad) =
    let same = one_place text at bad.0 valid bad.1 in
    omega (arith, some_is found fault at (one_list text spans spans' found (Some fault) tokens tokens').1 before, bad.2, same)

pub one_fault : (text : List ℕ) (fault other : Fault) → IsFirstFault text fault → IsFirstFault text other → fault ≡ other
one_fault text _ _ (too_long long) (too_long long') = refl
one_fault text _ _ (too_long long) (bad_byte at spans found short valid tokens before) = absurd (omega (arith, long, short))
one_fault text _ _ (too_long long) (in_tokens spans fault short tokens first) = absurd (omega (arith, long, short))
one_fault text _ _ (bad_byte at spans found short valid tokens before) (too_long long) = absurd (omega (arith, long, short))
one_fault text _ _ (bad_byte at spans found short valid tokens before) (bad_byte at' spans' found' short' valid' tokens' before') = ap (λ n. record { code = 1; at = n }) (one_place text at at' valid valid')
one_fault text _ _ (bad_byte at spans found short valid tokens before) (in_tokens spans' fault short' tokens' first) = absurd (byte_or_token text at spans spans' found fault valid tokens before tokens' first)
one_fault text _ _ (in_tokens spans fault short tokens first) (too_long long) = absurd (omega (arith, long, short))
one_fault text _ _ (in_tokens spans' fault short' tokens' first) (bad_byte at spans found short valid tokens before) = absurd (byte_or_token text at spans spans' found fault valid tokens before tokens' first)
one_fault text _ _ (in_tokens spans fault short tokens first) (in_tokens spans' fault' short' tokens' first') = same_some fault fault' (one_list text spans spans' (Some fault) (Some fault') tokens tokens').1

pub right_or_fault : (text : List ℕ) (spans : List Span) (fault : Fault) → IsFaultless text spans → IsFirstFault text fault → ⊥
right_or_fault text spans _ right (too_long long) = omega (arith, long, right.not_too_long)
right_or_fault text spans _ right (bad_byte at spans' found short valid tokens before) = not_valid text at right.utf8 valid
right_or_fault text spans _ right (in_tokens spans' fault short tokens first) = not_both fault (one_list text spans spans' None (Some fault) right.tokens tokens).1
