use Rattle.std.proofs.Common.{◌≡◌, ◌<◌, ◌*ℤ◌, refl, arith, ap, ◌∙◌, to_z, of_z, subst}
use Rattle.std.proofs.lemmas.Int.{ints}
use mir.Syntax.{w128}
use Rattle.gno_base.specs.Range.{InRange, span, IsAlike}
use Rattle.gno_base.specs.Number.{Number}
use Rattle.gno_base.proofs.Bounds.{bounds, number_same, numbers, wrapped_at}
use Rattle.gno_base.proofs.Products.{product_same, products}
use Rattle.gno_base.proofs.whole.Whole.mul.Goals as goal

pub returns-clause-product : goal.returns-clause-product
returns-clause-product c =
    let b = bounds c.self.inside.kind in
    let b' = bounds c.other.inside.kind in
    let ia : InRange c.self.inside.kind c.self.inside.bits = c.self.invariant in
    let ib : InRange c.other.inside.kind c.other.inside.bits = c.other.invariant in
    let k : c.self.inside.kind ≡ c.args.self.kind = ap (λ (n : Number). n.kind) c.self.view_is in
    let va0 : c.self.inside.bits ≡ c.args.self.value = ap (λ (n : Number). n.value) c.self.view_is in
    let vb0 : c.other.inside.bits ≡ c.args.other.value = ap (λ (n : Number). n.value) c.other.view_is in
    let va : to_z w128 (of_z w128 c.self.inside.bits) ≡ c.args.self.value = omega (arith, ints) in
    let vb : to_z w128 (of_z w128 c.other.inside.bits) ≡ c.args.other.value = omega (arith, ints) in
    let pa : IsAlike c.near_zero.result c.args.self.value = subst (λ z. IsAlike c.near_zero.result z) va c.near_zero.ensures.alike in
    let pb : IsAlike c.near_zero-2.result c.args.other.value = subst (λ z. IsAlike c.near_zero-2.result z) vb c.near_zero-2.ensures.alike in
    let some : 0 < span c.self.inside.kind = omega (arith, ints) in
    let na : to_z w128 (of_z w128 c.near_zero.result) ≡ c.near_zero.result = omega (arith, ints) in
    let nb : to_z w128 (of_z w128 c.near_zero-2.result) ≡ c.near_zero-2.result = omega (arith, ints) in
    let nc : to_z w128 (of_z w128 c.times-value.result) ≡ c.times-value.result = omega (arith, ints) in
    let t : to_z w128 (of_z w128 c.times-value.result) ≡ c.near_zero.result *ℤ c.near_zero-2.result = nc ∙ c.times-value.ensures.product ∙ products _ _ _ _ na nb in
    c.wrap.ensures.number ∙ number_same _ _ _ _ refl t ∙ numbers _ _ _ _ k (product_same c.self.inside.kind _ _ _ _ some pa pb ∙ wrapped_at _ _ _ k)
