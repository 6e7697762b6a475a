use Rattle.std.proofs.Common.{arith, subst, sym, ◌≤ℤ◌, ◌^◌, neg_ℤ, pos}
use Rattle.std.proofs.lemmas.Int.{ints}
use Rattle.gno_base.proofs.Products.{bounded, computed, fitting}
use Rattle.gno_base.proofs.whole.times.Goals as goal

pub overflow_mul-result : goal.overflow_mul-result
overflow_mul-result c = fitting c.args.a c.args.b (omega (arith, ints)) (omega (arith, ints))

pub returns-clause-product : goal.returns-clause-product
returns-clause-product c = computed c.args.a c.args.b (omega (arith, ints)) (omega (arith, ints))

pub returns-clause-low : goal.returns-clause-low
returns-clause-low c =
    let small = bounded c.args.a c.args.b (2 ^ 63) (omega (arith, ints)) (omega (arith, ints)) in
    subst (λ z. neg_ℤ (pos (2 ^ 126)) ≤ℤ z) (sym (computed c.args.a c.args.b (omega (arith, ints)) (omega (arith, ints)))) (omega (arith, ints))

pub returns-clause-high : goal.returns-clause-high
returns-clause-high c =
    let small = bounded c.args.a c.args.b (2 ^ 63) (omega (arith, ints)) (omega (arith, ints)) in
    subst (λ z. z ≤ℤ pos (2 ^ 126)) (sym (computed c.args.a c.args.b (omega (arith, ints)) (omega (arith, ints)))) (omega (arith, ints))
