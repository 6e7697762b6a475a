use Rattle.std.proofs.Common.{◌≡◌, sym, ap, ◌∙◌, subst, ℕ, List, [], ◌∷◌, ◌++◌, None, Option, length, arith}
use Rattle.std.specs.List.{AllByRecursion}
use Rattle.gno_layouts.specs.declared.row.Row.{Row}
use Rattle.gno_layouts.specs.declared.settling.State.{State}
use Rattle.gno_layouts.specs.Layouts.{parts}
use Rattle.gno_layouts.specs.Settling.{AreRows, Fits, Waits, Holds}
use Rattle.gno_layouts.proofs.Pushed.{pushed, layouts_at}
use Rattle.gno_layouts.proofs.Written.{written, held_more}
use Rattle.gno_layouts.proofs.layouts.Layouts.push.Goals as goal

pub invariant_of-self-in_err-hold_all : goal.invariant_of-self-in_err-hold_all
invariant_of-self-in_err-hold_all c =
    let was : c.deref_mut.result.now ≡ c.self.inside.holders.items = c.deref_mut.ensures.value ∙ c.in_ok-reserve-3.ensures.items in
    let size : length c.hold_all.new.holders ≡ length c.deref_mut.result.now = c.hold_all.auto.holders in
    let len : c.reserve-3.new.self.len ≡ length c.hold_all.new.holders = (let a = c.reserve-3.new.self.ok.0 in let b = ap length (c.in_ok-reserve-3.ensures.items) in let d = ap length was in omega (arith, a, b, d, size)) in
    layouts_at c.in_ok-reserve.ensures.items c.in_ok-reserve-2.ensures.items (written c.reserve-3.new.self.len c.hold_all.new.holders _ len) c.in_ok-reserve-4.ensures.items
    (held_more c.self.inside.rows.items c.self.inside.states.items c.self.inside.holders.items c.self.inside.links.items c.self.invariant c.deref_mut.result.now c.hold_all.new.holders was size c.hold_all.ensures.grows)

pub invariant_of-self-2 : goal.invariant_of-self-2
invariant_of-self-2 c =
    let was : c.deref_mut.result.now ≡ c.self.inside.holders.items = c.deref_mut.ensures.value ∙ c.in_ok-reserve-3.ensures.items in
    let size : length c.hold_all.new.holders ≡ length c.deref_mut.result.now = c.hold_all.auto.holders in
    let len : c.reserve-3.new.self.len ≡ length c.hold_all.new.holders = (let a = c.reserve-3.new.self.ok.0 in let b = ap length (c.in_ok-reserve-3.ensures.items) in let d = ap length was in omega (arith, a, b, d, size)) in
    let states : c.deref.result.now ≡ c.self.inside.states.items = c.deref.ensures.value ∙ c.in_ok-reserve-2.ensures.items in
    let number : c.len-number.result ≡ length c.self.inside.rows.items = c.len-number.ensures ∙ c.in_ok-reserve.ensures.len ∙ c.self.inside.rows.ok.0 in
    let below : AreRows (length c.self.inside.rows.items) c.args.row = subst (λ (l : List Row). AreRows (length l) c.args.row) (sym c.self.view_is) c.requires in
    let parts_are : c.parts.result.now ≡ parts c.args.row = c.parts.ensures in
    layouts_at (c.in_ok-push.ensures.items ∙ ap (λ (l : List Row). l ++ c.args.row ∷ []) c.in_ok-reserve.ensures.items)
    (c.in_ok-push-2.ensures.items ∙ ap (λ (l : List State). l ++ c.begun-state.result ∷ []) c.in_ok-reserve-2.ensures.items)
    (c.in_ok-push-3.ensures.items ∙ ap (λ (l : List (List ℕ)). l ++ c.new.result ∷ []) (written c.reserve-3.new.self.len c.hold_all.new.holders _ len) ∙ ap (λ (e : List ℕ). c.hold_all.new.holders ++ e ∷ []) c.new.ensures)
    (c.in_ok-push-4.ensures.items ∙ ap (λ (l : List (Option ℕ)). l ++ None ∷ []) c.in_ok-reserve-4.ensures.items)
    (pushed c.self.inside.rows.items c.self.inside.states.items c.self.inside.holders.items c.self.inside.links.items c.self.invariant c.args.row c.begun-state.result below
    (subst (λ (l : List State). Fits l c.args.row c.begun-state.result) states c.begun-state.ensures.fits)
    (subst (λ (l : List State). Waits l c.args.row c.begun-state.result) states c.begun-state.ensures.waits)
    c.hold_all.new.holders (size ∙ ap length was)
    (λ m n h. c.hold_all.ensures.grows m n (subst (λ (l : List (List ℕ)). Holds l m n) (sym was) h))
    (subst (λ (k : ℕ). AllByRecursion (Holds c.hold_all.new.holders k) (parts c.args.row)) number
    (subst (λ (l : List ℕ). AllByRecursion (Holds c.hold_all.new.holders c.len-number.result) l) parts_are c.in_ok-hold_all.ensures.ok)))
