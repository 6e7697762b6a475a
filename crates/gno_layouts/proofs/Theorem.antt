-- What has a layout has settled with it.
use Rattle.std.proofs.Common.{◌≡◌, refl, sym, ap, ◌∙◌, ℕ, List, Some, None, true, rules, arith}
use Rattle.std.specs.Prelude.{slice_get}
use Rattle.std.proofs.lemmas.Option.{slice_get_within}
use Rattle.gno_layouts.specs.declared.row.Layout.{Layout}
use Rattle.gno_layouts.specs.declared.row.Row.{Row}
use Rattle.gno_layouts.specs.declared.settling.State.{State}
use Rattle.gno_layouts.specs.declared.settling.State.TheVariants.{Waiting, Settled}
use Rattle.gno_layouts.specs.Layouts.{parts, is_known, nothing, together, whole, saturated, HasLayout, HaveLayouts, has, none, more}
use Rattle.gno_layouts.specs.Settling.{layout_of, settled_at, Totals, Fits, Waits, AreSettled}
use Rattle.gno_layouts.proofs.Bounds.{alike_together, alike_whole, saturated_twice}
use Rattle.gno_layouts.proofs.Totals.{totals_same, settled_in}
use Rattle.gno_layouts.proofs.Ends.{some_at}

module _ (rows : List Row) (states : List State) (are : AreSettled rows states) where
  -- parts that are settled, with the same layout up to the bound
  abbrev Together : List ℕ → Layout → Type 0
  Together ns a = (b : Layout) × Totals states ns b × (saturated b ≡ saturated a)

  -- a row whose parts are settled
  by_state : (n : ℕ) (row : Row) (a held : Layout) (state : State) → slice_get states n ≡ Some state → Fits states row state → Waits states row state → is_known row ≡ true → Together (parts row) held → a ≡ whole row held → settled_at states n ≡ Some (saturated a)
  by_state n row a held (Waiting place h) there fit waits known t is =
      let up = waits known in
      let there = settled_in states (parts row) t.0 t.1 place up.0 up.1 in
      absurd (differ (sym there.1 ∙ up.2))
    where
      differ : {b : Layout} → Some b ≡ None → ⊥
      differ e = search (rules, e)
  by_state n row a held (Settled layout) there fit waits known t is =
      let same : fit.1 ≡ t.0 = totals_same states (parts row) fit.1 t.0 fit.2 t.1 in
      ap layout_of there ∙ ap Some (fit.3 ∙ ap (λ x. saturated (whole row x)) same ∙ alike_whole row t.0 held t.2 ∙ ap saturated (sym is))

  mutual
    pub settled_layout : {n : ℕ} {a : Layout} → HasLayout rows n a → settled_at states n ≡ Some (saturated a)
    settled_layout {n} {a} (has row held at known ps is) =
        let w = slice_get_within rows n row at in
        let z = are.size in
        let s = some_at states n (omega (arith, w, z)) in
        by_state n row a held s.0 s.1 (are.fits n row s.0 at s.1) (are.waits n row s.0 at s.1) known (totals_layouts ps) is

    totals_layouts : {ns : List ℕ} {a : Layout} → HaveLayouts rows ns a → Together ns a
    totals_layouts (none is) = (nothing, refl, ap saturated (sym is))
    totals_layouts (more b c l ls is) =
        let t = totals_layouts ls in
        (together (saturated b) t.0, (saturated b, t.0, settled_layout l, t.1, refl), alike_together (saturated b) b t.0 c (saturated_twice b) t.2 ∙ ap saturated (sym is))
