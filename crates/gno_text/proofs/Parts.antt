-- How the parts of a text begin.
use Rattle.std.proofs.Common.{◌≡◌, ℕ, zero, suc, ◌+◌, ◌-◌, ◌<◌, ◌≤◌, Bool, List, [], ◌∷◌, ◌++◌, length, take, drop, slice_index, true, false, refl, ap, sym, append_assoc, arith}
use Rattle.std.specs.Prelude.{IsUtf8, MatchResult, Result, Ok, Err, is_ok}
use Rattle.std.specs.Str.{is_utf8, continuation_len}
use Rattle.std.proofs.lemmas.Str.{IsUtf8-from_is_utf8, is_utf8-from_IsUtf8}
use Rattle.gno_text.specs.Quoting.{Part, begins_character, parts_after, spelling, spellings}
use Rattle.gno_text.specs.Quoting.Part.{Inside, Outside}

pub take-one_more : (n b : ℕ) (bs : List ℕ) → take (1 + n) (b ∷ bs) ≡ b ∷ take n bs
take-one_more n b bs = let e : 1 + n ≡ suc n = omega arith in rw e refl

pub begins_character-front : (xs : List ℕ) → 0 < length xs → begins_character xs ≡ is_utf8 (take (1 + continuation_len (slice_index xs 0)) xs)
unfolding begins_character
begins_character-front [] h = absurd (omega (arith, h))
begins_character-front (b ∷ bs) h = ap is_utf8 (sym (take-one_more (continuation_len b) b bs))

pub parts_after-more : (more : ℕ) (xs : List ℕ) → 0 < more → 0 < length xs → parts_after more xs ≡ Inside (slice_index xs 0) ∷ parts_after (more - 1) (drop 1 xs)
unfolding parts_after
parts_after-more zero xs h k = absurd (omega (arith, h))
parts_after-more (suc more) [] h k = absurd (omega (arith, k))
parts_after-more (suc more) (b ∷ bs) h k = let e : suc more - 1 ≡ more = omega arith in rw e refl

pub parts_after-character : (more next : ℕ) (xs : List ℕ) → more ≤ 0 → begins_character xs ≡ true → next ≡ continuation_len (slice_index xs 0) → 0 < length xs → parts_after more xs ≡ Inside (slice_index xs 0) ∷ parts_after next (drop 1 xs)
unfolding parts_after
parts_after-character (suc more) next xs h e n k = absurd (omega (arith, h))
parts_after-character zero next [] h e n k = absurd (omega (arith, k))
parts_after-character zero next (b ∷ bs) h e n k = rw e (rw n refl)

pub parts_after-outside : (more : ℕ) (xs : List ℕ) → more ≤ 0 → begins_character xs ≡ false → 0 < length xs → parts_after more xs ≡ Outside (slice_index xs 0) ∷ parts_after 0 (drop 1 xs)
unfolding parts_after
parts_after-outside (suc more) xs h e k = absurd (omega (arith, h))
parts_after-outside zero [] h e k = absurd (omega (arith, k))
parts_after-outside zero (b ∷ bs) h e k = rw e refl

pub parts_after-end : (more : ℕ) (xs : List ℕ) → length xs ≡ 0 → parts_after more xs ≡ []
unfolding parts_after
parts_after-end zero [] h = refl
parts_after-end (suc more) [] h = refl
parts_after-end more (x ∷ xs) h = absurd (omega (arith, h))

pub not_true : (b : Bool) → (b ≡ true → ⊥) → b ≡ false
not_true true h = absurd (h refl)
not_true false h = refl

pub is_utf8-no : (xs : List ℕ) → ¬ (IsUtf8 xs) → is_utf8 xs ≡ false
is_utf8-no xs h = not_true (is_utf8 xs) (λ e. h (IsUtf8-from_is_utf8 xs e))

-- what a test of bytes for UTF-8 tells
pub is_ok-utf8 : {A E : Type 0} (P : A → Type 0) (Q : E → Type 0) (r : Result A E) (xs : List ℕ) → MatchResult r (λ s. P s × IsUtf8 xs) (λ e. ¬ (IsUtf8 xs) × Q e) → is_ok r ≡ is_utf8 xs
is_ok-utf8 P Q (Ok s) xs h = sym (is_utf8-from_IsUtf8 xs h.1)
is_ok-utf8 P Q (Err e) xs h = sym (is_utf8-no xs h.0)

-- a line goes on by the spelling of the first part
pub first_spelled : (line new : List ℕ) (p : Part) (parts rest : List Part) → new ≡ line ++ spelling p → parts ≡ p ∷ rest → new ++ spellings rest ≡ line ++ spellings parts
first_spelled line new p parts rest h e = rw h (rw e (append_assoc line (spelling p) (spellings rest)))
