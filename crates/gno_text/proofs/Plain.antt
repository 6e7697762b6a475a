-- A quoted text holds no control byte.
use Rattle.std.proofs.Common.{◌≡◌, ℕ, zero, suc, ◌<◌, ◌/◌, ◌%◌, Bool, List, [], ◌∷◌, ◌++◌, get_or, true, false, refl, arith}
use Rattle.std.specs.Prelude.{Option, Some, None, if◌then◌else◌, codes, not}
use Rattle.std.specs.Str.{continuation_len}
use Rattle.gno_text.specs.Quoting.{Part, IsPlain, begins_character, hex_digit, hex_escape, is_control, letter_of, parts_after, parts_of, quoted, spelling, spelling_with, spellings}
use Rattle.gno_text.specs.Quoting.Part.{Inside, Outside}

-- `IsPlain`, byte by byte
abbrev Plain : List ℕ → Type 0
Plain [] = Unit {0}
Plain (b ∷ bs) = (is_control b ≡ false) × Plain bs

Plain-append : (xs ys : List ℕ) → Plain xs → Plain ys → Plain (xs ++ ys)
Plain-append [] ys h k = k
Plain-append (x ∷ xs) ys h k = (h.0, Plain-append xs ys h.1 k)

IsPlain-from_Plain : (line : List ℕ) → Plain line → IsPlain line
IsPlain-from_Plain [] h k d n = absurd (omega (arith, n))
IsPlain-from_Plain (b ∷ bs) h zero d n = h.0
IsPlain-from_Plain (b ∷ bs) h (suc k) d n = IsPlain-from_Plain bs h.1 k d (omega (arith, n))

digits-plain : Plain (codes "0123456789abcdef")
unfolding is_control
digits-plain = (refl, (refl, (refl, (refl, (refl, (refl, (refl, (refl, (refl, (refl, (refl, (refl, (refl, (refl, (refl, (refl, tt))))))))))))))))

hex_digit-plain : (n : ℕ) → n < 16 → is_control (hex_digit n) ≡ false
hex_digit-plain n h = IsPlain-from_Plain (codes "0123456789abcdef") digits-plain n 0 h

hex_escape-plain : (b : ℕ) → b < 256 → Plain (hex_escape b)
unfolding hex_escape is_control
hex_escape-plain b h =
    let high : b / 16 < 16 = omega (arith, h) in
    let low : b % 16 < 16 = omega arith in
    (refl, (refl, (hex_digit-plain (b / 16) high, (hex_digit-plain (b % 16) low, tt))))

-- whether the letter, if there is one, is no control byte
abbrev is_plain_letter : Option ℕ → Bool
is_plain_letter None = true
is_plain_letter (Some letter) = not (is_control letter)

letter_of-plain : (b : ℕ) → is_plain_letter (letter_of b) ≡ true
unfolding letter_of is_control
letter_of-plain b = grind arith

not_control : (t : Bool) → not t ≡ true → t ≡ false
not_control t e = grind arith

unlettered-plain : (t : Bool) (b : ℕ) → is_control b ≡ t → b < 256 → Plain (if t then hex_escape b else b ∷ [])
unlettered-plain true b e h = hex_escape-plain b h
unlettered-plain false b e h = (e, tt)

backslash-plain : is_control 92 ≡ false
unfolding is_control
backslash-plain = refl

quote-plain : is_control 34 ≡ false
unfolding is_control
quote-plain = refl

spelling_with-plain : (letter : Option ℕ) (b : ℕ) → is_plain_letter letter ≡ true → b < 256 → Plain (spelling_with letter b)
spelling_with-plain (Some letter) b e h = (backslash-plain, (not_control (is_control letter) e, tt))
spelling_with-plain None b e h = unlettered-plain (is_control b) b refl h

inside-plain : (b : ℕ) → b < 256 → Plain (spelling (Inside b))
unfolding spelling
inside-plain b h = spelling_with-plain (letter_of b) b (letter_of-plain b) h

outside-plain : (b : ℕ) → b < 256 → Plain (spelling (Outside b))
unfolding spelling
outside-plain b h = hex_escape-plain b h

first-plain : (begins : Bool) (b : ℕ) (ps qs : List Part) → b < 256 → Plain (spellings ps) → Plain (spellings qs) → Plain (spellings (if begins then Inside b ∷ ps else Outside b ∷ qs))
first-plain true b ps qs h p q = Plain-append (spelling (Inside b)) (spellings ps) (inside-plain b h) p
first-plain false b ps qs h p q = Plain-append (spelling (Outside b)) (spellings qs) (outside-plain b h) q

parts-plain : (more : ℕ) (text : List ℕ) → ((i : ℕ) → get_or text i 0 < 256) → Plain (spellings (parts_after more text))
unfolding parts_after
parts-plain zero [] h = tt
parts-plain (suc more) [] h = tt
parts-plain (suc more) (b ∷ bs) h = Plain-append (spelling (Inside b)) _ (inside-plain b (h 0)) (parts-plain more bs (λ i. h (suc i)))
parts-plain zero (b ∷ bs) h =
    let rest = λ (more : ℕ). parts-plain more bs (λ i. h (suc i)) in
    first-plain (begins_character (b ∷ bs)) b _ _ (h 0) (rest (continuation_len b)) (rest 0)

pub quoted-plain : (text : List ℕ) → ((i : ℕ) → get_or text i 0 < 256) → IsPlain (quoted text)
quoted-plain text h = IsPlain-from_Plain (quoted text) (quote-plain, Plain-append (spellings (parts_of text)) (34 ∷ []) (parts-plain 0 text h) (quote-plain, tt))
