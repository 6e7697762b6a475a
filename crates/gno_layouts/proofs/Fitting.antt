-- How a row goes on.
use Rattle.std.proofs.Common.{◌≡◌, sym, ap, ◌∙◌, subst, ℕ, zero, suc, ◌+◌, ◌<◌, ◌≤◌, List, [], ◌∷◌, Some, length, take, get_or, true, rules, arith}
use Rattle.std.specs.Prelude.{slice_get}
use Rattle.std.specs.List.{AllByRecursion}
use Rattle.std.proofs.lemmas.Option.{slice_get_within, slice_get-get_or}
use Rattle.std.proofs.Math.Seq.{take-length}
use Rattle.gno_layouts.specs.declared.row.Layout.{Layout}
use Rattle.gno_layouts.specs.declared.row.Row.{Row}
use Rattle.gno_layouts.specs.declared.settling.State.{State}
use Rattle.gno_layouts.specs.declared.settling.State.TheVariants.{Waiting, Settled}
use Rattle.gno_layouts.specs.Layouts.{parts, is_known, together, whole, saturated}
use Rattle.gno_layouts.specs.Settling.{settled_at, Totals, Fits}
use Rattle.gno_layouts.proofs.Bounds.{saturated_left, saturated_whole}
use Rattle.gno_layouts.proofs.Totals.{totals_last, take_one}

pub state_read : (states : List State) (n : ℕ) (d s : State) → n < length states → get_or states n d ≡ s → slice_get states n ≡ Some s
state_read states n d s w e = slice_get-get_or states n d w ∙ ap Some e

pub each_at : {A : Type 0} (P : A → Type 0) (xs : List A) (at : ℕ) (x : A) → AllByRecursion P xs → slice_get xs at ≡ Some x → P x
each_at P [] at x h e = absurd (search (rules, e))
each_at P (y ∷ ys) zero x h e = let k : y ≡ x = search (rules, e) in subst P k h.0
each_at P (y ∷ ys) (suc at) x h e = each_at P ys at x h.1 e

module _ (states : List State) (row : Row) (at : ℕ) (held : Layout) (fit : Fits states row (Waiting at held)) where
  pub fits_on : (n : ℕ) (a new : Layout) → slice_get (parts row) at ≡ Some n → settled_at states n ≡ Some a → new ≡ saturated (together held a) → Fits states row (Waiting (at + 1) new)
  fits_on n a new there settled is = (
    together fit.0 a,
    subst (λ l. Totals states l (together fit.0 a)) (sym (take_one (parts row) at n there)) (totals_last states (take at (parts row)) n fit.0 a fit.1 settled),
    is ∙ ap (λ x. saturated (together x a)) fit.2 ∙ saturated_left fit.0 a,
    (let w = slice_get_within (parts row) at n there in omega (arith, w)),
  )

  all_taken : length (parts row) ≤ at → take at (parts row) ≡ parts row
  all_taken past = let e : at ≡ length (parts row) = (let w = fit.3 in omega (arith, w, past)) in ap (λ i. take i (parts row)) e ∙ take-length (parts row)

  pub fits_end : (layout : Layout) → is_known row ≡ true → length (parts row) ≤ at → layout ≡ saturated (whole row held) → Fits states row (Settled layout)
  fits_end layout known past is = (
    known,
    fit.0,
    subst (λ l. Totals states l fit.0) (all_taken past) fit.1,
    is ∙ ap (λ x. saturated (whole row x)) fit.2 ∙ saturated_whole row fit.0,
  )
