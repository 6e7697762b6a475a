use Rattle.std.proofs.Common.{◌≡◌, sym, ap, ◌∙◌, subst, ℕ, List, Option, Some, None, true, rules}
use Rattle.std.specs.Prelude.{IfSome}
use Rattle.std.specs.Option.{is_some}
use Rattle.gno_layouts.specs.declared.row.Layout.{Layout}
use Rattle.gno_layouts.specs.declared.row.Row.{Row}
use Rattle.gno_layouts.specs.Layouts.{HasLayout, saturated}
use Rattle.gno_terms.specs.Tables.{Table, Is}
use Rattle.gno_type_rows.specs.Holding.{Slots}
use Rattle.gno_type_rows.proofs.Held.{slots_held}
use Rattle.gno_type_rows.proofs.Sized.{layout_sized}
use Rattle.gno_type_rows.proofs.rows.Rows.is_sized.Goals as goal

-- the layout of which a look-up tells
told : (rows : List Row) (n : ℕ) (o : Option Layout) → IfSome o (λ layout. (a : Layout) × HasLayout rows n a × (layout ≡ saturated a)) → is_some o ≡ true → (a : Layout) × HasLayout rows n a
told rows n None h e = absurd (search (rules, e))
told rows n (Some layout) h e = (h.0, h.1)

pub returns : goal.returns
returns c s is =
    let there = subst (λ (v : Table). Is v c.args.t s) (sym c.self.view_is) is in (
      λ e.
          let own = told c.self.inside.layouts c.args.t.0 c.layout.result c.layout.ensures.some (sym c.is_some.ensures ∙ e) in
          subst (λ (v : Table). (n : ℕ) × Slots v s n) c.self.view_is (layout_sized c.self.inside.terms.items c.self.inside.numbers c.self.inside.definitions.items c.self.inside.layouts c.self.invariant own.1 s there),
      λ h.
          let sized = subst (λ (v : Table). (n : ℕ) × Slots v s n) (sym c.self.view_is) h in
          let held = slots_held c.self.inside.terms.items c.self.inside.numbers c.self.inside.definitions.items c.self.inside.layouts c.self.invariant sized.1 c.args.t.0 there in
          c.is_some.ensures ∙ ap is_some (c.layout.ensures.is held.0 held.1),
    )
