-- Layouts that follow from rows.
use Rattle.std.proofs.Common.{◌≡◌, refl, sym, ap, ◌∙◌, ℕ, List, [], ◌∷◌, Option, Some, None, true, rules}
use Rattle.std.specs.Prelude.{⊤, slice_get}
use Rattle.std.specs.List.{AllByRecursion}
use Rattle.gno_layouts.specs.declared.row.Layout.{Layout}
use Rattle.gno_layouts.specs.declared.row.Row.{Row}
use Rattle.gno_layouts.specs.declared.settling.State.{State}
use Rattle.gno_layouts.specs.declared.settling.State.TheVariants.{Waiting, Settled}
use Rattle.gno_layouts.specs.Layouts.{parts, is_known, nothing, together, whole, saturated, HasLayout, HaveLayouts, has, none, more}
use Rattle.gno_layouts.specs.Settling.{layout_of, Totals, Fits, Derived, EachDerived}
use Rattle.gno_layouts.proofs.Bounds.{alike_together, alike_whole, saturated_twice}

-- what has a layout is settled
pub settled_state : (state : Option State) (layout : Layout) → layout_of state ≡ Some layout → state ≡ Some (Settled layout)
settled_state None layout e = absurd (search (rules, e))
settled_state (Some (Waiting place held)) layout e = absurd (search (rules, e))
settled_state (Some (Settled a)) layout e = let same : a ≡ layout = search (rules, e) in ap (λ x. Some (Settled x)) same

-- ---- a row whose parts are settled

module _ (rows : List Row) (states : List State) (each : EachDerived rows states) where
  abbrev Added : List ℕ → Layout → Type 0
  Added ns a = (b : Layout) × HaveLayouts rows ns b × (saturated a ≡ saturated b)

  totals_derived : (ns : List ℕ) (a : Layout) → Totals states ns a → Added ns a
  totals_derived [] a t = (nothing, none refl, ap saturated t)
  totals_derived (n ∷ ns) a t =
      let one = each n t.0 t.2 in
      let rest = totals_derived ns t.1 t.3 in
      (together one.0 rest.0, more one.0 rest.0 one.1 rest.1 refl, ap saturated t.4 ∙ alike_together t.0 one.0 t.1 rest.0 (ap saturated one.2 ∙ saturated_twice one.0) rest.2)

  pub state_derived : (n : ℕ) (row : Row) (state : State) (layout : Layout) → slice_get rows n ≡ Some row → Fits states row state → layout_of (Some state) ≡ Some layout → Derived rows n layout
  state_derived n row (Waiting place held) layout there fit e = absurd (search (rules, e))
  state_derived n row (Settled l) layout there fit e =
      let same : l ≡ layout = search (rules, e) in
      let t = totals_derived (parts row) fit.1 fit.2 in
      (whole row t.0, has row t.0 there fit.0 t.1 refl, sym same ∙ fit.3 ∙ alike_whole row fit.1 t.0 t.2)

-- ---- other rows

pub each_true : (ns : List ℕ) → AllByRecursion (λ _. ⊤) ns
each_true [] = tt
each_true (n ∷ ns) = (tt, each_true ns)

-- some rows, with their parts, are still there
module _ (rows later : List Row) (P : ℕ → Type 0) (stays : (n : ℕ) (row : Row) → P n → slice_get rows n ≡ Some row → is_known row ≡ true → (slice_get later n ≡ Some row) × AllByRecursion P (parts row)) where
  mutual
    layout_stays : {n : ℕ} {a : Layout} → P n → HasLayout rows n a → HasLayout later n a
    layout_stays {n} p (has row held there known ps is) =
        let s = stays n row p there known in
        has row held s.0 known (layouts_stay s.1 ps) is

    layouts_stay : {ns : List ℕ} {a : Layout} → AllByRecursion P ns → HaveLayouts rows ns a → HaveLayouts later ns a
    layouts_stay p (none is) = none is
    layouts_stay p (more b c l ls is) = more b c (layout_stays p.0 l) (layouts_stay p.1 ls) is

  pub derived_stays : (n : ℕ) (layout : Layout) → P n → Derived rows n layout → Derived later n layout
  derived_stays n layout p d = (d.0, layout_stays p d.1, d.2)
