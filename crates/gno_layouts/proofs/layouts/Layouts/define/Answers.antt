use Rattle.std.proofs.Common.{◌≡◌, refl, sym, ap, ◌∙◌, subst, ℕ, ◌<◌, List, [], None, Option, Some, length, slice_set, arith}
use Rattle.std.specs.Prelude.{slice_get}
use Rattle.std.proofs.lemmas.Option.{slice_get_within}
use Rattle.gno_layouts.specs.declared.row.Row.{Row}
use Rattle.gno_layouts.specs.declared.row.Row.TheVariants.{Defined}
use Rattle.gno_layouts.specs.declared.settling.State.{State}
use Rattle.gno_layouts.specs.Settling.{AreSettled, AreHolders, EachHasRows, IsBoard, Holds}
use Rattle.gno_layouts.proofs.Defining.{defined_parts, defined_holders, defined_board}
use Rattle.gno_layouts.proofs.SetAt.{set_size}
use Rattle.gno_layouts.proofs.Pushed.{layouts_at}
use Rattle.gno_layouts.proofs.Written.{written, held_more}
use Rattle.gno_layouts.proofs.layouts.Layouts.define.Goals as goal

pub invariant_of-self : goal.invariant_of-self
invariant_of-self c =
    let was : c.deref_mut.result.now ≡ c.self.inside.holders.items = c.deref_mut.ensures.value in
    let size : length c.hold.new.holders ≡ length c.deref_mut.result.now = c.hold.auto.holders in
    let len : c.self.inside.holders.len ≡ length c.hold.new.holders = (let a = c.self.inside.holders.ok.0 in let d = ap length was in omega (arith, a, d, size)) in
    layouts_at refl refl (written c.self.inside.holders.len c.hold.new.holders _ len) refl
    (held_more c.self.inside.rows.items c.self.inside.states.items c.self.inside.holders.items c.self.inside.links.items c.self.invariant c.deref_mut.result.now c.hold.new.holders was size c.hold.ensures.grows)

pub index_mut-requires : goal.index_mut-requires
index_mut-requires c =
    let at : slice_get c.self.inside.rows.items c.args.number ≡ Some (Defined None) = subst (λ (l : List Row). slice_get l c.args.number ≡ Some (Defined None)) (sym c.self.view_is) c.requires.undefined in
    let w = slice_get_within c.self.inside.rows.items c.args.number (Defined None) at in
    let ok = c.self.inside.rows.ok.0 in
    omega (arith, w, ok)

pub settle_from-requires-clause-parts : goal.settle_from-requires-clause-parts
settle_from-requires-clause-parts c =
    let rows : List Row = c.self.inside.rows.items in
    let at : slice_get rows c.args.number ≡ Some (Defined None) = subst (λ (l : List Row). slice_get l c.args.number ≡ Some (Defined None)) (sym c.self.view_is) c.requires.undefined in
    let within : c.args.of < length rows = subst (λ (l : List Row). c.args.of < length l) (sym c.self.view_is) c.requires.of in
    subst EachHasRows (sym c.deref.ensures.value) (defined_parts rows c.self.inside.states.items c.self.inside.holders.items c.self.inside.links.items c.self.invariant c.args.number c.args.of at within)

pub settle_from-requires-clause-holders : goal.settle_from-requires-clause-holders
settle_from-requires-clause-holders c =
    let rows : List Row = c.self.inside.rows.items in
    let at : slice_get rows c.args.number ≡ Some (Defined None) = subst (λ (l : List Row). slice_get l c.args.number ≡ Some (Defined None)) (sym c.self.view_is) c.requires.undefined in
    let within : c.args.of < length rows = subst (λ (l : List Row). c.args.of < length l) (sym c.self.view_is) c.requires.of in
    let was : c.deref_mut.result.now ≡ c.self.inside.holders.items = c.deref_mut.ensures.value in
    let size : length c.hold.new.holders ≡ length c.deref_mut.result.now = c.hold.auto.holders in
    let len : c.self.inside.holders.len ≡ length c.hold.new.holders = (let a = c.self.inside.holders.ok.0 in let d = ap length was in omega (arith, a, d, size)) in
    let there : c.deref-2.result.now ≡ c.hold.new.holders = c.deref-2.ensures.value ∙ written c.self.inside.holders.len c.hold.new.holders _ len in
    subst (λ (r : List Row). AreHolders r c.deref-2.result.now) (sym c.deref.ensures.value)
    (subst (AreHolders (slice_set rows c.args.number (Defined (Some c.args.of)))) (sym there)
    (defined_holders rows c.self.inside.states.items c.self.inside.holders.items c.self.inside.links.items c.self.invariant c.args.number c.args.of at within c.hold.new.holders (size ∙ ap length was)
    (λ m n h. c.hold.ensures.grows m n (subst (λ (l : List (List ℕ)). Holds l m n) (sym was) h)) c.in_ok-hold.ensures.ok))

pub settle_from-requires-clause-board : goal.settle_from-requires-clause-board
settle_from-requires-clause-board c =
    let rows : List Row = c.self.inside.rows.items in
    let at : slice_get rows c.args.number ≡ Some (Defined None) = subst (λ (l : List Row). slice_get l c.args.number ≡ Some (Defined None)) (sym c.self.view_is) c.requires.undefined in
    let within : c.args.of < length rows = subst (λ (l : List Row). c.args.of < length l) (sym c.self.view_is) c.requires.of in
    let new : List Row = slice_set rows c.args.number (Defined (Some c.args.of)) in
    subst (λ (r : List Row). IsBoard r c.deref_mut-2.result.now c.deref_mut-3.result.now None [] (λ (n : ℕ). n ≡ c.args.number) (length r)) (sym c.deref.ensures.value)
    (subst (λ (s : List State). IsBoard new s c.deref_mut-3.result.now None [] (λ (n : ℕ). n ≡ c.args.number) (length new)) (sym c.deref_mut-2.ensures.value)
    (subst (λ (l : List (Option ℕ)). IsBoard new c.self.inside.states.items l None [] (λ (n : ℕ). n ≡ c.args.number) (length new)) (sym c.deref_mut-3.ensures.value)
    (defined_board rows c.self.inside.states.items c.self.inside.holders.items c.self.inside.links.items c.self.invariant c.args.number c.args.of at within)))

pub invariant_of-self-2 : goal.invariant_of-self-2
invariant_of-self-2 c =
    let rows : List Row = c.self.inside.rows.items in
    let at : slice_get rows c.args.number ≡ Some (Defined None) = subst (λ (l : List Row). slice_get l c.args.number ≡ Some (Defined None)) (sym c.self.view_is) c.requires.undefined in
    let within : c.args.of < length rows = subst (λ (l : List Row). c.args.of < length l) (sym c.self.view_is) c.requires.of in
    let was : c.deref_mut.result.now ≡ c.self.inside.holders.items = c.deref_mut.ensures.value in
    let size : length c.hold.new.holders ≡ length c.deref_mut.result.now = c.hold.auto.holders in
    let len : c.self.inside.holders.len ≡ length c.hold.new.holders = (let a = c.self.inside.holders.ok.0 in let d = ap length was in omega (arith, a, d, size)) in
    let states_was : length c.settle_from.new.states ≡ length c.deref_mut-2.result.now = c.settle_from.auto.states in
    let states_len : c.self.inside.states.len ≡ length c.settle_from.new.states = (let a = c.self.inside.states.ok.0 in let d = ap length c.deref_mut-2.ensures.value in omega (arith, a, d, states_was)) in
    let links_was : length c.settle_from.new.links ≡ length c.deref_mut-3.result.now = c.settle_from.auto.links in
    let links_len : c.self.inside.links.len ≡ length c.settle_from.new.links = (let a = c.self.inside.links.ok.0 in let d = ap length c.deref_mut-3.ensures.value in omega (arith, a, d, links_was)) in
    layouts_at refl (written c.self.inside.states.len c.settle_from.new.states _ states_len) (written c.self.inside.holders.len c.hold.new.holders _ len) (written c.self.inside.links.len c.settle_from.new.links _ links_len)
    (record {
      parts = defined_parts rows c.self.inside.states.items c.self.inside.holders.items c.self.inside.links.items c.self.invariant c.args.number c.args.of at within;
      settled = subst (λ (r : List Row). AreSettled r c.settle_from.new.states) c.deref.ensures.value c.settle_from.ensures;
      held = defined_holders rows c.self.inside.states.items c.self.inside.holders.items c.self.inside.links.items c.self.invariant c.args.number c.args.of at within c.hold.new.holders (size ∙ ap length was)
          (λ m n h. c.hold.ensures.grows m n (subst (λ (l : List (List ℕ)). Holds l m n) (sym was) h)) c.in_ok-hold.ensures.ok;
      linked = links_was ∙ ap length c.deref_mut-3.ensures.value ∙ c.self.invariant.linked ∙ sym (set_size rows c.args.number (Defined (Some c.args.of)));
    })
