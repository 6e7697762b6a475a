-- Different texts have different quotations: the first byte of a text can be read from the spellings.
use Rattle.std.proofs.Common.{◌≡◌, ℕ, zero, suc, ◌+◌, ◌-◌, ◌*◌, ◌<◌, ◌/◌, ◌%◌, Bool, List, [], ◌∷◌, ◌++◌, length, get_or, true, false, refl, ap, sym, ◌∙◌, drop, length-append, arith}
use Rattle.std.proofs.lemmas.List.{append_cancel_right}
use Rattle.std.specs.Prelude.{Option, Some, None, if◌then◌else◌, codes, not, ◌==◌, ◌&&◌, nat_lt}
use Rattle.std.specs.Str.{continuation_len}
use Rattle.gno_text.specs.Quoting.{Part, begins_character, hex_digit, hex_escape, is_control, letter_of, parts_after, parts_of, quoted, spelling, spelling_with, spellings}
use Rattle.gno_text.proofs.Parts.{parts_after-end}
use Rattle.gno_text.specs.Quoting.Part.{Inside, Outside}

abbrev byte_of : Part → ℕ
byte_of (Inside b) = b
byte_of (Outside b) = b

abbrev letter_value : ℕ → ℕ
letter_value l = if l == 110 then 10 else if l == 116 then 9 else if l == 114 then 13 else l

abbrev hex_value : ℕ → ℕ
hex_value d = if nat_lt d 58 then d - 48 else d - 87

abbrev after_x : List ℕ → ℕ × List ℕ
after_x [] = (0, [])
after_x (h ∷ []) = (0, [])
after_x (h ∷ l ∷ line) = (16 * hex_value h + hex_value l, line)

abbrev after_backslash : List ℕ → ℕ × List ℕ
after_backslash [] = (0, [])
after_backslash (l ∷ line) = if l == 120 then after_x line else (letter_value l, line)

-- the byte that is spelled first, and the rest of the line
abbrev read_one : List ℕ → ℕ × List ℕ
read_one [] = (0, [])
read_one (b ∷ line) = if b == 92 then after_backslash line else (b, line)

-- the digits have the values from n on
abbrev Values : ℕ → List ℕ → Type 0
Values n [] = Unit {0}
Values n (d ∷ ds) = (hex_value d ≡ n) × Values (suc n) ds

values_at : (n : ℕ) (ds : List ℕ) (i : ℕ) → Values n ds → i < length ds → hex_value (get_or ds i 0) ≡ n + i
values_at n [] i h k = absurd (omega (arith, k))
values_at n (d ∷ ds) zero h k = omega (arith, h.0)
values_at n (d ∷ ds) (suc i) h k = let e = values_at (suc n) ds i h.1 (omega (arith, k)) in omega (arith, e)

digits-values : Values 0 (codes "0123456789abcdef")
digits-values = (refl, (refl, (refl, (refl, (refl, (refl, (refl, (refl, (refl, (refl, (refl, (refl, (refl, (refl, (refl, (refl, tt))))))))))))))))

hex_digit-value : (n : ℕ) → n < 16 → hex_value (hex_digit n) ≡ n
hex_digit-value n h = let e = values_at 0 (codes "0123456789abcdef") n digits-values h in omega (arith, e)

read_one-hex : (b : ℕ) (line : List ℕ) → b < 256 → read_one (hex_escape b ++ line) ≡ (b, line)
unfolding hex_escape
read_one-hex b line h =
    let high = hex_digit-value (b / 16) (omega (arith, h)) in
    let low = hex_digit-value (b % 16) (omega arith) in
    let value : 16 * hex_value (hex_digit (b / 16)) + hex_value (hex_digit (b % 16)) ≡ b = rw high (rw low (omega arith)) in
    ap (λ (n : ℕ). (n, line)) value

-- whether the letter is read as b, and b is no backslash where there is no letter
abbrev is_letter_for : ℕ → Option ℕ → Bool
is_letter_for b None = not (b == 92)
is_letter_for b (Some l) = not (l == 120) && (letter_value l == b)

letter_of-is_for : (b : ℕ) → is_letter_for b (letter_of b) ≡ true
unfolding letter_of
letter_of-is_for b = grind arith

read_one-letter : (b l : ℕ) (line : List ℕ) → is_letter_for b (Some l) ≡ true → read_one (92 ∷ l ∷ line) ≡ (b, line)
read_one-letter b l line e = grind arith

read_one-unlettered : (t : Bool) (b : ℕ) (line : List ℕ) → is_letter_for b None ≡ true → b < 256 → read_one ((if t then hex_escape b else b ∷ []) ++ line) ≡ (b, line)
read_one-unlettered true b line e h = read_one-hex b line h
read_one-unlettered false b line e h = grind arith

read_one-with : (letter : Option ℕ) (b : ℕ) (line : List ℕ) → is_letter_for b letter ≡ true → b < 256 → read_one (spelling_with letter b ++ line) ≡ (b, line)
read_one-with (Some l) b line e h = read_one-letter b l line e
read_one-with None b line e h = read_one-unlettered (is_control b) b line e h

read_one-spelling : (p : Part) (line : List ℕ) → byte_of p < 256 → read_one (spelling p ++ line) ≡ (byte_of p, line)
unfolding spelling
read_one-spelling (Inside b) line h = read_one-with (letter_of b) b line (letter_of-is_for b) h
read_one-spelling (Outside b) line h = read_one-hex b line h

-- the first part of a text that is not empty, and how many bytes behind it end its character
record Begins (more x : ℕ) (xs : List ℕ) : Type 0 where
  part : Part
  next : ℕ
  byte : byte_of part ≡ x
  parts : parts_after more (x ∷ xs) ≡ part ∷ parts_after next xs

begins-by : (t : Bool) (x : ℕ) (xs : List ℕ) → begins_character (x ∷ xs) ≡ t → Begins 0 x xs
unfolding parts_after
begins-by true x xs e = record { part = Inside x; next = continuation_len x; byte = refl; parts = rw e refl }
begins-by false x xs e = record { part = Outside x; next = 0; byte = refl; parts = rw e refl }

begins : (more x : ℕ) (xs : List ℕ) → Begins more x xs
unfolding parts_after
begins zero x xs = begins-by (begins_character (x ∷ xs)) x xs refl
begins (suc more) x xs = record { part = Inside x; next = more; byte = refl; parts = refl }

-- the spellings of a text that is not empty give its first byte, and the spellings of the rest
reads_first : (more x : ℕ) (xs : List ℕ) (b : Begins more x xs) → x < 256 → read_one (spellings (parts_after more (x ∷ xs))) ≡ (x, spellings (parts_after b.next xs))
reads_first more x xs b h =
    let rest = spellings (parts_after b.next xs) in
    rw b.parts (read_one-spelling b.part rest (rw b.byte h) ∙ ap (λ (n : ℕ). (n, rest)) b.byte)

-- each part is spelled by some bytes
is_spelled-unlettered : (t : Bool) (b : ℕ) → 0 < length (if t then hex_escape b else b ∷ [])
unfolding hex_escape
is_spelled-unlettered true b = omega arith
is_spelled-unlettered false b = omega arith

is_spelled-with : (letter : Option ℕ) (b : ℕ) → 0 < length (spelling_with letter b)
is_spelled-with (Some l) b = omega arith
is_spelled-with None b = is_spelled-unlettered (is_control b) b

is_spelled : (p : Part) → 0 < length (spelling p)
unfolding spelling hex_escape
is_spelled (Inside b) = is_spelled-with (letter_of b) b
is_spelled (Outside b) = omega arith

spellings-not_empty : (more x : ℕ) (xs : List ℕ) → [] ≡ spellings (parts_after more (x ∷ xs)) → ⊥
spellings-not_empty more x xs e =
    let b = begins more x xs in
    let rest = spellings (parts_after b.next xs) in
    let none = ap length (rw b.parts at e) in
    omega (arith, none, is_spelled b.part, length-append (spelling b.part) rest)

same_text : (more other : ℕ) (xs ys : List ℕ) → ((i : ℕ) → get_or xs i 0 < 256) → ((i : ℕ) → get_or ys i 0 < 256) → spellings (parts_after more xs) ≡ spellings (parts_after other ys) → xs ≡ ys
same_text more other [] [] h k e = refl
same_text more other [] (y ∷ ys) h k e = absurd (spellings-not_empty other y ys (rw (parts_after-end more [] refl) at e))
same_text more other (x ∷ xs) [] h k e = let back = sym e in absurd (spellings-not_empty more x xs (rw (parts_after-end other [] refl) at back))
same_text more other (x ∷ xs) (y ∷ ys) h k e =
    let a = begins more x xs in
    let b = begins other y ys in
    let read = sym (reads_first more x xs a (h 0)) ∙ ap read_one e ∙ reads_first other y ys b (k 0) in
    let first : x ≡ y = ap (λ r. r.0) read in
    let rest : xs ≡ ys = same_text a.next b.next xs ys (λ i. h (suc i)) (λ i. k (suc i)) (ap (λ r. r.1) read) in
    rw first (rw rest refl)

pub same_quoted : (xs ys : List ℕ) → ((i : ℕ) → get_or xs i 0 < 256) → ((i : ℕ) → get_or ys i 0 < 256) → quoted xs ≡ quoted ys → xs ≡ ys
same_quoted xs ys h k e = same_text 0 0 xs ys h k (append_cancel_right (spellings (parts_of xs)) (spellings (parts_of ys)) (34 ∷ []) (ap (λ (line : List ℕ). drop 1 line) e))
