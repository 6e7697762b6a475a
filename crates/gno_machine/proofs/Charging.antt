-- Charges that fit, and one that does not.
use Rattle.std.proofs.Common.{◌≡◌, ℕ, ◌-◌, ◌≤◌, ◌<◌, List, ap, ◌∙◌, sym, refl, arith}
use Rattle.std.specs.Prelude.{Bool, true, false, nat_lt, cond}
use Rattle.std.proofs.lemmas.Bool.Decides.{nat_tests}
use Rattle.gno_base.specs.Number.{Number}
use Rattle.gno_machine.specs.Meaning.{Ended, State, charged, spent_at}

abbrev pub at : List Number → List ℕ → ℕ → State
at values printed left = record { values = values; printed = printed; left = left }

not_less : (a n : ℕ) → n ≤ a → nat_lt a n ≡ false
not_less a n h = grind (arith, nat_tests)

less : (a n : ℕ) → a < n → nat_lt a n ≡ true
less a n h = grind (arith, nat_tests)

pub charged_fits : (n : ℕ) (values : List Number) (printed : List ℕ) (a b : ℕ) (go : State → Ended) → n ≤ a → b ≡ a - n → charged n (at values printed a) go ≡ go (at values printed b)
charged_fits n values printed a b go h e =
    ap (λ t. cond t (spent_at (at values printed a)) (go (at values printed (a - n)))) (not_less a n h) ∙ ap (λ (left : ℕ). go (at values printed left)) (sym e)

pub charged_not : (n : ℕ) (s : State) (go : State → Ended) → s.left < n → charged n s go ≡ spent_at s
charged_not n s go h = ap (λ t. cond t (spent_at s) (go (record { values = s.values; printed = s.printed; left = s.left - n }))) (less s.left n h)

pub two_charges : (values : List Number) (printed : List ℕ) (a b c : ℕ) (go : State → Ended) → 1 ≤ a → b ≡ a - 1 → 1 ≤ b → c ≡ b - 1 → charged 1 (at values printed a) (λ s. charged 1 s go) ≡ go (at values printed c)
two_charges values printed a b c go ha eb hb ec = charged_fits 1 values printed a b (λ s. charged 1 s go) ha eb ∙ charged_fits 1 values printed b c go hb ec
