use Rattle.std.proofs.Common.{◌≡◌, ◌-ℤ◌, arith, ap, ◌∙◌, to_z, of_z}
use Rattle.std.proofs.lemmas.Int.{ints}
use mir.Syntax.{w128}
use Rattle.gno_base.specs.Range.{InRange}
use Rattle.gno_base.specs.Number.{Number}
use Rattle.gno_base.proofs.Bounds.{bounds, number_same}
use Rattle.gno_base.proofs.whole.Whole.sub.Goals as goal

pub returns-clause-difference : goal.returns-clause-difference
returns-clause-difference c =
    let b = bounds c.self.inside.kind in
    let b' = bounds c.other.inside.kind in
    let ia : InRange c.self.inside.kind c.self.inside.bits = c.self.invariant in
    let ib : InRange c.other.inside.kind c.other.inside.bits = c.other.invariant in
    let k : c.self.inside.kind ≡ c.args.self.kind = ap (λ (n : Number). n.kind) c.self.view_is in
    let va : c.self.inside.bits ≡ c.args.self.value = ap (λ (n : Number). n.value) c.self.view_is in
    let vb : c.other.inside.bits ≡ c.args.other.value = ap (λ (n : Number). n.value) c.other.view_is in
    let e : to_z w128 (of_z w128 (to_z w128 (of_z w128 c.self.inside.bits) -ℤ to_z w128 (of_z w128 c.other.inside.bits))) ≡ c.args.self.value -ℤ c.args.other.value = omega (arith, ints) in
    c.wrap.ensures.number ∙ number_same _ _ _ _ k e
