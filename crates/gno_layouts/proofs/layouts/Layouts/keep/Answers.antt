use Rattle.std.proofs.Common.{◌≡◌, sym, ap, ◌∙◌, subst, ℕ, List, Some, length, arith}
use Rattle.std.specs.Prelude.{slice_get}
use Rattle.gno_layouts.specs.declared.row.Row.{Row}
use Rattle.gno_layouts.specs.Layouts.{kept, stands}
use Rattle.gno_layouts.specs.Settling.{AreSettled, AreHolders, EachHasRows, EachKeeps}
use Rattle.gno_layouts.proofs.Known.{known_holders}
use Rattle.gno_layouts.proofs.Pushed.{layouts_at}
use Rattle.gno_layouts.proofs.Restarted.{kept_parts, kept_holders}
use Rattle.gno_layouts.proofs.Written.{written}
use Rattle.gno_layouts.proofs.layouts.Layouts.keep.Goals as goal

pub settle_anew-requires-clause-parts : goal.settle_anew-requires-clause-parts
settle_anew-requires-clause-parts g c =
    let rows : List Row = c.self.inside.rows.items in
    let fewer : List Row = c.forget.new.rows in
    let was : c.deref_mut.result.now ≡ rows = c.deref_mut.ensures.value in
    let kept_size : length fewer ≡ length c.deref_mut.result.now = c.forget.auto.rows in
    let size : length fewer ≡ length rows = kept_size ∙ ap length was in
    let len : c.self.inside.rows.len ≡ length fewer = (let a = c.self.inside.rows.ok.0 in omega (arith, a, size)) in
    let each : (n : ℕ) (row : Row) → slice_get rows n ≡ Some row → slice_get fewer n ≡ Some (kept row (stands (slice_get c.args.definitions.now n))) =
    λ n row h. c.forget.ensures n row (subst (λ (l : List Row). slice_get l n ≡ Some row) (sym was) h) in
    let there : c.deref-2.result.now ≡ fewer = c.deref-2.ensures.value ∙ written c.self.inside.rows.len fewer _ len in
    subst EachHasRows (sym there) (kept_parts rows fewer (λ (n : ℕ). stands (slice_get c.args.definitions.now n)) size each c.self.invariant.parts)

pub settle_anew-requires-clause-holders : goal.settle_anew-requires-clause-holders
settle_anew-requires-clause-holders g c =
    let rows : List Row = c.self.inside.rows.items in
    let fewer : List Row = c.forget.new.rows in
    let was : c.deref_mut.result.now ≡ rows = c.deref_mut.ensures.value in
    let kept_size : length fewer ≡ length c.deref_mut.result.now = c.forget.auto.rows in
    let size : length fewer ≡ length rows = kept_size ∙ ap length was in
    let len : c.self.inside.rows.len ≡ length fewer = (let a = c.self.inside.rows.ok.0 in omega (arith, a, size)) in
    let each : (n : ℕ) (row : Row) → slice_get rows n ≡ Some row → slice_get fewer n ≡ Some (kept row (stands (slice_get c.args.definitions.now n))) =
    λ n row h. c.forget.ensures n row (subst (λ (l : List Row). slice_get l n ≡ Some row) (sym was) h) in
    let there : c.deref.result.now ≡ fewer = c.deref.ensures.value ∙ written c.self.inside.rows.len fewer _ len in
    let there_2 : c.deref-2.result.now ≡ fewer = c.deref-2.ensures.value ∙ written c.self.inside.rows.len fewer _ len in
    let keeps : EachKeeps fewer c.deref_mut-2.result.now c.forget_holders.new.holders = subst (λ (r : List Row). EachKeeps r c.deref_mut-2.result.now c.forget_holders.new.holders) there c.forget_holders.ensures in
    let held_was : c.deref_mut-2.result.now ≡ c.self.inside.holders.items = c.deref_mut-2.ensures.value in
    let held_size : length c.forget_holders.new.holders ≡ length c.deref_mut-2.result.now = c.forget_holders.auto.holders in
    let held_len : c.self.inside.holders.len ≡ length c.forget_holders.new.holders = (let a = c.self.inside.holders.ok.0 in let d = ap length held_was in omega (arith, a, d, held_size)) in
    subst (λ (r : List Row). AreHolders r c.deref-3.result.now) (sym there_2)
    (subst (AreHolders fewer) (sym (c.deref-3.ensures.value ∙ written c.self.inside.holders.len c.forget_holders.new.holders _ held_len))
    (known_holders fewer c.deref_mut-2.result.now c.forget_holders.new.holders held_size keeps
    (subst (AreHolders fewer) (sym held_was) (kept_holders rows fewer (λ (n : ℕ). stands (slice_get c.args.definitions.now n)) size each c.self.inside.holders.items c.self.invariant.held))))

pub invariant_of-self : goal.invariant_of-self
invariant_of-self g c =
    let rows : List Row = c.self.inside.rows.items in
    let fewer : List Row = c.forget.new.rows in
    let was : c.deref_mut.result.now ≡ rows = c.deref_mut.ensures.value in
    let kept_size : length fewer ≡ length c.deref_mut.result.now = c.forget.auto.rows in
    let size : length fewer ≡ length rows = kept_size ∙ ap length was in
    let len : c.self.inside.rows.len ≡ length fewer = (let a = c.self.inside.rows.ok.0 in omega (arith, a, size)) in
    let each : (n : ℕ) (row : Row) → slice_get rows n ≡ Some row → slice_get fewer n ≡ Some (kept row (stands (slice_get c.args.definitions.now n))) =
    λ n row h. c.forget.ensures n row (subst (λ (l : List Row). slice_get l n ≡ Some row) (sym was) h) in
    let there : c.deref.result.now ≡ fewer = c.deref.ensures.value ∙ written c.self.inside.rows.len fewer _ len in
    let there_2 : c.deref-2.result.now ≡ fewer = c.deref-2.ensures.value ∙ written c.self.inside.rows.len fewer _ len in
    let keeps : EachKeeps fewer c.deref_mut-2.result.now c.forget_holders.new.holders = subst (λ (r : List Row). EachKeeps r c.deref_mut-2.result.now c.forget_holders.new.holders) there c.forget_holders.ensures in
    let held_was : c.deref_mut-2.result.now ≡ c.self.inside.holders.items = c.deref_mut-2.ensures.value in
    let held_size : length c.forget_holders.new.holders ≡ length c.deref_mut-2.result.now = c.forget_holders.auto.holders in
    let held_len : c.self.inside.holders.len ≡ length c.forget_holders.new.holders = (let a = c.self.inside.holders.ok.0 in let d = ap length held_was in omega (arith, a, d, held_size)) in
    let states_was : length c.settle_anew.new.states ≡ length c.deref_mut-3.result.now = c.settle_anew.auto.states in
    let states_len : c.self.inside.states.len ≡ length c.settle_anew.new.states = (let a = c.self.inside.states.ok.0 in let d = ap length c.deref_mut-3.ensures.value in omega (arith, a, d, states_was)) in
    let links_was : length c.settle_anew.new.links ≡ length c.deref_mut-4.result.now = c.settle_anew.auto.links in
    let links_len : c.self.inside.links.len ≡ length c.settle_anew.new.links = (let a = c.self.inside.links.ok.0 in let d = ap length c.deref_mut-4.ensures.value in omega (arith, a, d, links_was)) in
    layouts_at (written c.self.inside.rows.len fewer _ len) (written c.self.inside.states.len c.settle_anew.new.states _ states_len) (written c.self.inside.holders.len c.forget_holders.new.holders _ held_len) (written c.self.inside.links.len c.settle_anew.new.links _ links_len)
    (record {
      parts = kept_parts rows fewer (λ (n : ℕ). stands (slice_get c.args.definitions.now n)) size each c.self.invariant.parts;
      settled = subst (λ (r : List Row). AreSettled r c.settle_anew.new.states) there_2 c.settle_anew.ensures;
      held = known_holders fewer c.deref_mut-2.result.now c.forget_holders.new.holders held_size keeps
          (subst (AreHolders fewer) (sym held_was) (kept_holders rows fewer (λ (n : ℕ). stands (slice_get c.args.definitions.now n)) size each c.self.inside.holders.items c.self.invariant.held));
      linked = links_was ∙ ap length c.deref_mut-4.ensures.value ∙ c.self.invariant.linked ∙ sym size;
    })

pub returns-clause-each : goal.returns-clause-each
returns-clause-each g c n row h =
    let rows : List Row = c.self.inside.rows.items in
    let fewer : List Row = c.forget.new.rows in
    let was : c.deref_mut.result.now ≡ rows = c.deref_mut.ensures.value in
    let kept_size : length fewer ≡ length c.deref_mut.result.now = c.forget.auto.rows in
    let size : length fewer ≡ length rows = kept_size ∙ ap length was in
    let len : c.self.inside.rows.len ≡ length fewer = (let a = c.self.inside.rows.ok.0 in omega (arith, a, size)) in
    let each : (n : ℕ) (row : Row) → slice_get rows n ≡ Some row → slice_get fewer n ≡ Some (kept row (stands (slice_get c.args.definitions.now n))) =
    λ n row h. c.forget.ensures n row (subst (λ (l : List Row). slice_get l n ≡ Some row) (sym was) h) in
    ap (λ (l : List Row). slice_get l n) (written c.self.inside.rows.len fewer _ len) ∙ each n row (subst (λ (l : List Row). slice_get l n ≡ Some row) (sym c.self.view_is) h)
