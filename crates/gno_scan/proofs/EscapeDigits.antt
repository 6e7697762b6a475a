-- The number of the digits of an escape.
use Rattle.std.proofs.Common.{◌≡◌, ◌≤◌, ◌<◌, ◌+◌, ◌*◌, ◌^◌, ℕ, zero, suc, List, [], ◌∷◌, sym, subst, arith, length, take, get_or, length-take}
use Rattle.std.specs.Char.{digit_value}
use Rattle.std.specs.Str.Parse.{AllDigits, digits_value}
use Rattle.std.proofs.lemmas.Int.Digits.{digits_more, digits_value-lt, digits_value_more}
use Rattle.std.proofs.lemmas.List.{get_or-take}
use Rattle.std.proofs.Math.Nat.{pow-le-pow_left, pow-le-pow_right}
use Rattle.gno_scan.specs.Escapes.{AreDigitsIn}

pub bounded : (base at : ℕ) (text : List ℕ) → base ≤ 16 → at < 8 → at < length text → AllDigits base (take at text) → digit_value (get_or text at 0) < base →
    digits_value base (take at text) * base + digit_value (get_or text at 0) < 2 ^ 32
bounded base at text small few within digits digit =
    let size : length (take (at + 1) text) ≡ at + 1 = omega (arith, length-take (at + 1) text, within) in
    let below : digits_value base (take (at + 1) text) < base ^ (at + 1) = subst (λ (n : ℕ). digits_value base (take (at + 1) text) < base ^ n) size (digits_value-lt base (take (at + 1) text) (digits_more base text at within digits digit)) in
    let wide : base ^ (at + 1) ≤ 16 ^ (at + 1) = pow-le-pow_left small (at + 1) in
    let most : 16 ^ (at + 1) ≤ 16 ^ 8 = pow-le-pow_right (omega arith) {i = at + 1} {j = 8} (omega (arith, few)) in
    rw (sym (digits_value_more base text at within)) (omega (arith, below, wide, most))

digit_at : (base i : ℕ) (digits : List ℕ) → AllDigits base digits → i < length digits → digit_value (get_or digits i 0) < base
digit_at base i [] all within = absurd (omega (arith, within))
digit_at base zero (c ∷ cs) all within = all.0
digit_at base (suc i) (c ∷ cs) all within = digit_at base i cs all.1 (omega (arith, within))

pub each_is_digit : (base count at : ℕ) (text : List ℕ) → at < count → AreDigitsIn base count (take count text) → digit_value (get_or text at 0) < base
each_is_digit base count at text within digits =
    subst (λ (c : ℕ). digit_value c < base) (get_or-take count text at 0 within) (digit_at base at (take count text) digits.each (omega (arith, within, digits.size)))
