-- What is kept of rows below a number, by the states below it.
use Rattle.std.proofs.Common.{◌≡◌, ap, ◌∙◌, ℕ, zero, suc, ◌<◌, List, [], ◌∷◌, ◌++◌, take}
use Rattle.std.specs.Prelude.{slice_get}
use Rattle.std.specs.List.{AllByRecursion}
use Rattle.gno_layouts.specs.declared.row.Layout.{Layout}
use Rattle.gno_layouts.specs.declared.row.Row.{Row}
use Rattle.gno_layouts.specs.declared.settling.State.{State}
use Rattle.gno_layouts.specs.declared.settling.State.TheVariants.{Waiting, Settled}
use Rattle.gno_layouts.specs.Layouts.{parts}
use Rattle.gno_layouts.specs.Settling.{layout_of, settled_at, Totals, Fits, Waits, AreRows}
use Rattle.gno_layouts.proofs.Fitting.{each_at}

pub each_wider : {A : Type 0} (P Q : A → Type 0) → ((x : A) → P x → Q x) → (xs : List A) → AllByRecursion P xs → AllByRecursion Q xs
each_wider P Q f [] h = tt
each_wider P Q f (x ∷ xs) h = (f x h.0, each_wider P Q f xs h.1)

pub each_joined : {A : Type 0} (P : A → Type 0) (xs ys : List A) → AllByRecursion P xs → AllByRecursion P ys → AllByRecursion P (xs ++ ys)
each_joined P [] ys h k = k
each_joined P (x ∷ xs) ys h k = (h.0, each_joined P xs ys h.1 k)

pub each_taken : {A : Type 0} (P : A → Type 0) (at : ℕ) (xs : List A) → AllByRecursion P xs → AllByRecursion P (take at xs)
each_taken P zero xs h = tt
each_taken P (suc at) [] h = tt
each_taken P (suc at) (x ∷ xs) h = (h.0, each_taken P at xs h.1)

abbrev pub Agree : ℕ → List State → List State → Type 0
Agree size states later = (n : ℕ) → n < size → slice_get later n ≡ slice_get states n

module _ (size : ℕ) (states later : List State) (h : Agree size states later) where
  settled_agree : (n : ℕ) → n < size → settled_at later n ≡ settled_at states n
  settled_agree n w = ap layout_of (h n w)

  totals_agree : (ns : List ℕ) (a : Layout) → AllByRecursion (λ n. n < size) ns → Totals states ns a → Totals later ns a
  totals_agree [] a b t = t
  totals_agree (n ∷ ns) a b t = (t.0, t.1, settled_agree n b.0 ∙ t.2, totals_agree ns t.1 b.1 t.3, t.4)

  pub fits_agree : (row : Row) (state : State) → AreRows size row → Fits states row state → Fits later row state
  fits_agree row (Waiting place held) b f = (f.0, totals_agree (take place (parts row)) f.0 (each_taken (λ n. n < size) place (parts row) b) f.1, f.2, f.3)
  fits_agree row (Settled layout) b f = (f.0, f.1, totals_agree (parts row) f.1 b f.2, f.3)

  pub waits_agree : (row : Row) (state : State) → AreRows size row → Waits states row state → Waits later row state
  waits_agree row (Waiting place held) b w = λ known. let up = w known in (up.0, up.1, settled_agree up.0 (each_at (λ n. n < size) (parts row) place up.0 b up.1) ∙ up.2)
  waits_agree row (Settled layout) b w = tt
