use Rattle.std.proofs.Common.{◌≡◌, refl, sym, ap, ◌∙◌, subst, ℕ, List, Option, Some, None, rules}
use Rattle.std.specs.Prelude.{IfSome, IsNone}
use Rattle.gno_layouts.specs.declared.row.Layout.{Layout}
use Rattle.gno_layouts.specs.declared.row.Row.{Row}
use Rattle.gno_layouts.specs.declared.settling.State.{State}
use Rattle.gno_layouts.specs.Layouts.{HasLayout, saturated}
use Rattle.gno_layouts.specs.Settling.{settled_at, Derived}
use Rattle.gno_layouts.proofs.Theorem.{settled_layout}
use Rattle.gno_layouts.proofs.layouts.Layouts.layout.Goals as goal

pub returns-clause-is : goal.returns-clause-is
returns-clause-is c layout h =
    c.settled.ensures ∙ ap (λ (states : List State). settled_at states c.args.number) c.deref.ensures.value
    ∙ settled_layout c.self.inside.rows.items c.self.inside.states.items c.self.invariant.settled (subst (λ (rows : List Row). HasLayout rows c.args.number layout) (sym c.self.view_is) h)

some_by : (rows : List Row) (n : ℕ) (o : Option Layout) → ((layout : Layout) → o ≡ Some layout → Derived rows n layout) → IfSome o (Derived rows n)
some_by rows n None f = tt
some_by rows n (Some layout) f = f layout refl

pub returns-clause-some : goal.returns-clause-some
returns-clause-some c =
    let is = c.settled.ensures ∙ ap (λ (states : List State). settled_at states c.args.number) c.deref.ensures.value in
    some_by c.args.self.now c.args.number c.settled.result
    (λ layout e. subst (λ (rows : List Row). Derived rows c.args.number layout) c.self.view_is (c.self.invariant.settled.derived c.args.number layout (sym is ∙ e)))

none_by : (o : Option Layout) (layout : Layout) → o ≡ Some layout → IsNone o → ⊥
none_by None layout e h = absurd (search (rules, e))
none_by (Some other) layout e h = search (rules, h)

pub returns-clause-none : goal.returns-clause-none
returns-clause-none c h layout own =
    none_by c.settled.result (saturated layout)
    (c.settled.ensures ∙ ap (λ (states : List State). settled_at states c.args.number) c.deref.ensures.value
    ∙ settled_layout c.self.inside.rows.items c.self.inside.states.items c.self.invariant.settled (subst (λ (rows : List Row). HasLayout rows c.args.number layout) (sym c.self.view_is) own)) h
