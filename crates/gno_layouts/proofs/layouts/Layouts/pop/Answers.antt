use Rattle.std.proofs.Common.{◌≡◌, sym, ap, ◌∙◌, subst, ℕ, ◌-◌, List, [], ◌∷◌, ◌++◌, length, take, arith}
use Rattle.gno_layouts.specs.declared.row.Row.{Row}
use Rattle.gno_layouts.specs.Settling.{EachHasRows}
use Rattle.gno_layouts.proofs.Pushed.{layouts_at}
use Rattle.gno_layouts.proofs.Taken.{taken, taken_init}
use Rattle.gno_layouts.proofs.layouts.Layouts.pop.Goals as goal

pub invariant_of-self : goal.invariant_of-self
invariant_of-self c =
    let rows : List Row = c.self.inside.rows.items in
    let r = c.requires in
    let split : rows ≡ r.0 ++ r.1 ∷ [] = c.self.view_is ∙ r.2 in
    let n : ℕ = length rows - 1 in
    let ok = c.self.inside.rows.ok.0 in
    let len = c.len-size.ensures in
    let size : c.len-size.result - 1 ≡ n = omega (arith, ok, len) in
    let init : take n rows ≡ r.0 = taken_init rows r.0 r.1 split in
    layouts_at (c.truncate.ensures.items ∙ ap (λ (k : ℕ). take k rows) size)
    (c.truncate-2.ensures.items ∙ ap (λ (k : ℕ). take k c.self.inside.states.items) size)
    (c.truncate-3.ensures.items ∙ ap (λ (k : ℕ). take k c.self.inside.holders.items) size)
    (c.truncate-4.ensures.items ∙ ap (λ (k : ℕ). take k c.self.inside.links.items) size)
    (taken rows c.self.inside.states.items c.self.inside.holders.items c.self.inside.links.items c.self.invariant n (omega arith) (subst EachHasRows (sym init) r.3))

pub returns : goal.returns
returns c =
    let rows : List Row = c.self.inside.rows.items in
    let r = c.requires in
    let split : rows ≡ r.0 ++ r.1 ∷ [] = c.self.view_is ∙ r.2 in
    let n : ℕ = length rows - 1 in
    let ok = c.self.inside.rows.ok.0 in
    let len = c.len-size.ensures in
    let size : c.len-size.result - 1 ≡ n = omega (arith, ok, len) in
    let init : take n rows ≡ r.0 = taken_init rows r.0 r.1 split in
    (r.1, r.2 ∙ ap (λ (l : List Row). l ++ r.1 ∷ []) (sym (c.truncate.ensures.items ∙ ap (λ (k : ℕ). take k rows) size ∙ init)))
