-- The text of a name with its package, and of a defined type.
use Rattle.std.proofs.Common.{◌≡◌, refl, ap, sym, ◌∙◌, true≢false, ℕ, ◌<◌, ◌^◌, Bool, true, false, cond, ◌==◌, arith, List, [], ◌∷◌, ◌++◌, length, drop, inl, inr, ◌⊎◌}
use Rattle.std.specs.Fmt.{decimal}
use Rattle.std.specs.List.{list_all}
use Rattle.std.specs.Char.{digit_value}
use Rattle.std.specs.Str.Parse.{AllDigits}
use Rattle.std.proofs.lemmas.Bool.{and_parts, and_from}
use Rattle.std.proofs.lemmas.Bool.Decides.{nat_tests}
use Rattle.std.proofs.lemmas.Fmt.{decimal_injective, decimal_is_IsNumeral}
use Rattle.gno_base.specs.Callers.{is_digit}
use Rattle.gno_scan.specs.Names.{IsName}
use Rattle.gno_terms.specs.Lawful.{IsPath}
use Rattle.gno_terms.specs.Texts.{member_text, local_text}
use Rattle.gno_terms.proofs.Words.{begins, stops, weaken, weaken_first, all-append, same_word, same_last, no_such}
use Rattle.gno_terms.proofs.Bytes.{in_name, in_member, in_word, name-member, path-member, member-word, digit-word, small-member}
use Rattle.gno_terms.proofs.NameBytes.{name_bytes, name_begins}
use Rattle.gno_terms.proofs.PathBytes.{path_begins, path_bytes}

-- no package, or the path of one
abbrev pub IsPackage : List ℕ → Type 0
IsPackage path = (path ≡ []) ⊎ IsPath path

member_bytes : (name path : List ℕ) → list_all in_name name ≡ true → list_all in_member path ≡ true → list_all in_member (member_text name path) ≡ true
member_bytes name [] n p = weaken in_name in_member name-member name n
member_bytes name (b ∷ path) n p = all-append in_member (b ∷ path) (46 ∷ name) p (weaken in_name in_member name-member name n)

pub all_member : (name path : List ℕ) → IsName name → IsPackage path → list_all in_member (member_text name path) ≡ true
all_member name path n (inl e) = member_bytes name path (name_bytes name n) (ap (list_all in_member) e)
all_member name path n (inr p) = member_bytes name path (name_bytes name n) (weaken _ in_member path-member path (path_bytes path p))

pub member_begins : (name path : List ℕ) → IsName name → IsPackage path → begins in_member (member_text name path) ≡ true
member_begins name [] n p = weaken_first in_name in_member name-member name (name_begins name n)
member_begins name (b ∷ path) n (inl e) = absurd (true≢false (ap not_empty e))
  where
    not_empty : List ℕ → Bool
    not_empty [] = false
    not_empty (x ∷ xs) = true
member_begins name (b ∷ path) n (inr p) = small-member b (path_begins (b ∷ path) p)

-- the last point parts a package and a name
pub same_member : (name path name₂ path₂ : List ℕ) → IsName name → IsName name₂ → member_text name path ≡ member_text name₂ path₂ → (name ≡ name₂) × (path ≡ path₂)
same_member name [] name₂ [] n m e = (e, refl)
same_member name [] name₂ (b ∷ path) n m e = absurd (no_such in_name 46 refl (b ∷ path) name₂ (ap (list_all in_name) (sym e) ∙ name_bytes name n))
same_member name (b ∷ path) name₂ [] n m e = absurd (no_such in_name 46 refl (b ∷ path) name (ap (list_all in_name) e ∙ name_bytes name₂ m))
same_member name (b ∷ path) name₂ (b₂ ∷ path₂) n m e =
    let t = same_last in_name 46 refl (b ∷ path) (b₂ ∷ path₂) name name₂ (name_bytes name n) (name_bytes name₂ m) e in
    (t.1, t.0)

digit : (b : ℕ) → digit_value b < 10 → is_digit b ≡ true
digit b h = grind (arith, nat_tests)

digits : (ds : List ℕ) → AllDigits 10 ds → list_all is_digit ds ≡ true
digits [] a = refl
digits (d ∷ ds) a = and_from (is_digit d) (list_all is_digit ds) (digit d a.0) (digits ds a.1)

pub decimal_digits : (n : ℕ) → n < 2 ^ 64 → list_all is_digit (decimal n) ≡ true
decimal_digits n h = digits (decimal n) (decimal_is_IsNumeral n h).0.1

pub decimal_begins : (n : ℕ) → n < 2 ^ 64 → begins is_digit (decimal n) ≡ true
decimal_begins n h = first (decimal n) (decimal_is_IsNumeral n h).0.0 (decimal_digits n h)
  where
    first : (ds : List ℕ) → 0 < length ds → list_all is_digit ds ≡ true → begins is_digit ds ≡ true
    first [] h e = absurd (omega (arith, h))
    first (d ∷ ds) h e = (and_parts (is_digit d) (list_all is_digit ds) e).0

-- behind the name of a type that a function declares
local_word : (n : ℕ) (t : Bool) → n < 2 ^ 64 → list_all in_word (cond t [] (35 ∷ decimal n)) ≡ true
local_word n true h = refl
local_word n false h = weaken is_digit in_word digit-word (decimal n) (decimal_digits n h)

pub defined_word : (name path : List ℕ) (local : ℕ) → IsName name → IsPath path → local < 2 ^ 64 → list_all in_word (member_text name path ++ local_text local) ≡ true
defined_word name path local n p h =
    all-append in_word (member_text name path) (local_text local) (weaken in_member in_word member-word (member_text name path) (all_member name path n (inr p))) (local_word local (local == 0) h)

same_mark : (m n : ℕ) (s t : Bool) → (m == 0) ≡ s → (n == 0) ≡ t → m < 2 ^ 64 → n < 2 ^ 64 → cond s [] (35 ∷ decimal m) ≡ cond t [] (35 ∷ decimal n) → m ≡ n
same_mark m n true true a b h k e = grind (arith, nat_tests)
same_mark m n true false a b h k e = absurd (true≢false (ap (stops in_word) e))
same_mark m n false true a b h k e = absurd (true≢false (sym (ap (stops in_word) e)))
same_mark m n false false a b h k e = decimal_injective m n h k (ap (drop 1) e)

mark_stops : (n : ℕ) (t : Bool) → stops in_member (cond t [] (35 ∷ decimal n)) ≡ true
mark_stops n true = refl
mark_stops n false = refl

-- the text of a defined type tells its name, its package and its number
pub same_defined : (name path name₂ path₂ : List ℕ) (m n : ℕ) → IsName name → IsPath path → m < 2 ^ 64 → IsName name₂ → IsPath path₂ → n < 2 ^ 64
    → member_text name path ++ local_text m ≡ member_text name₂ path₂ ++ local_text n → (name ≡ name₂) × (path ≡ path₂) × (m ≡ n)
same_defined name path name₂ path₂ m n a p h a₂ p₂ k e =
    let t = same_word in_member (member_text name path) (member_text name₂ path₂) (local_text m) (local_text n) (all_member name path a (inr p)) (all_member name₂ path₂ a₂ (inr p₂)) (mark_stops m (m == 0)) (mark_stops n (n == 0)) e in
    let u = same_member name path name₂ path₂ a a₂ t.0 in
    (u.0, u.1, same_mark m n (m == 0) (n == 0) refl refl h k t.1)
