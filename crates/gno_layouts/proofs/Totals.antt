-- The layout of settled parts together.
use Rattle.std.proofs.Common.{◌≡◌, refl, sym, ap, ◌∙◌, subst, ℕ, zero, suc, ◌+◌, List, [], ◌∷◌, ◌++◌, Some, take, rules, arith}
use Rattle.std.specs.Prelude.{slice_get}
use Rattle.gno_layouts.specs.declared.row.Layout.{Layout}
use Rattle.gno_layouts.specs.declared.settling.State.{State}
use Rattle.gno_layouts.specs.Layouts.{nothing, together}
use Rattle.gno_layouts.specs.Settling.{settled_at, Totals}
use Rattle.gno_layouts.proofs.Bounds.{together_comm, together_assoc}

-- what is settled stays so
abbrev pub Later : List State → List State → Type 0
Later states later = (n : ℕ) (a : Layout) → settled_at states n ≡ Some a → settled_at later n ≡ Some a

pub totals_later : (states later : List State) → Later states later → (ns : List ℕ) (a : Layout) → Totals states ns a → Totals later ns a
totals_later states later h [] a t = t
totals_later states later h (n ∷ ns) a t = (t.0, t.1, h n t.0 t.2, totals_later states later h ns t.1 t.3, t.4)

unwrapped : {a b : Layout} → Some a ≡ Some b → a ≡ b
unwrapped e = search (rules, e)

pub totals_same : (states : List State) (ns : List ℕ) (a b : Layout) → Totals states ns a → Totals states ns b → a ≡ b
totals_same states [] a b t u = t ∙ sym u
totals_same states (n ∷ ns) a b t u =
    t.4 ∙ ap (λ x. together x t.1) (unwrapped (sym t.2 ∙ u.2)) ∙ ap (together u.0) (totals_same states ns t.1 u.1 t.3 u.3) ∙ sym u.4

pub totals_last : (states : List State) (ns : List ℕ) (n : ℕ) (a b : Layout) → Totals states ns a → settled_at states n ≡ Some b → Totals states (ns ++ n ∷ []) (together a b)
totals_last states [] n a b t e = (b, nothing, e, refl, together_comm a b ∙ ap (together b) t)
totals_last states (m ∷ ms) n a b t e =
    (t.0, together t.1 b, t.2, totals_last states ms n t.1 b t.3 e, ap (λ x. together x b) t.4 ∙ together_assoc t.0 t.1 b)

-- each is settled
pub settled_in : (states : List State) (ns : List ℕ) (a : Layout) → Totals states ns a → (at n : ℕ) → slice_get ns at ≡ Some n → (b : Layout) × (settled_at states n ≡ Some b)
settled_in states [] a t at n e = absurd (search (rules, e))
settled_in states (m ∷ ms) a t zero n e = let k : m ≡ n = search (rules, e) in (t.0, subst (λ x. settled_at states x ≡ Some t.0) k t.2)
settled_in states (m ∷ ms) a t (suc at) n e = settled_in states ms t.1 t.3 at n e

one_more : (ns : List ℕ) (at n : ℕ) → slice_get ns at ≡ Some n → take (suc at) ns ≡ take at ns ++ n ∷ []
one_more [] at n e = absurd (search (rules, e))
one_more (m ∷ ms) zero n e = let k : m ≡ n = search (rules, e) in ap (λ x. x ∷ []) k
one_more (m ∷ ms) (suc at) n e = ap (λ l. m ∷ l) (one_more ms at n e)

pub take_one : (ns : List ℕ) (at n : ℕ) → slice_get ns at ≡ Some n → take (at + 1) ns ≡ take at ns ++ n ∷ []
take_one ns at n e = let k : at + 1 ≡ suc at = omega arith in ap (λ i. take i ns) k ∙ one_more ns at n e
