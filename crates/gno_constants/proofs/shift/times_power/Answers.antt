use Rattle.std.proofs.Common.{◌-◌, ◌/◌, ◌^◌, ◌*ℤ◌, pos, arith, ap, subst, sym, ◌∙◌}
use Rattle.std.specs.Prelude.{FitsSigned}
use Rattle.std.specs.Int.{w128}
use Rattle.std.specs.Option.{SomeIff}
use Rattle.gno_constants.proofs.Shifts.{in_two, product, still_wide}
use Rattle.gno_constants.proofs.shift.times_power.Goals as goal

pub returns-in_err-checked_mul : goal.returns-in_err-checked_mul
returns-in_err-checked_mul c =
    let half = c.args.count / 2 in
    let first = product c.args.value c.power.result _ c.ranges.value (record { sfits = c.power.type_inv }) c.power.ensures in
    let wide = still_wide c.args.value half (c.args.count - half) c.args.count (omega arith) (subst (λ z. ¬ FitsSigned w128 z) first c.in_err-checked_mul.ensures) in
    subst (λ o. SomeIff o (FitsSigned w128 (c.args.value *ℤ pos (2 ^ c.args.count))) (c.args.value *ℤ pos (2 ^ c.args.count))) (sym c.from_residual.ensures) wide

pub returns : goal.returns
returns c =
    let half = c.args.count / 2 in
    let first = product c.args.value c.power.result _ c.ranges.value (record { sfits = c.power.type_inv }) c.power.ensures in
    let done = c.in_ok-checked_mul.ensures in
    let fits : FitsSigned w128 c.in_ok-checked_mul.field-0 = subst (λ z. FitsSigned w128 z) (sym done.1) done.0 in
    let second = product c.in_ok-checked_mul.field-0 c.power-2.result _ fits (record { sfits = c.power-2.type_inv }) c.power-2.ensures in
    let whole = second ∙ ap (λ z. z *ℤ pos (2 ^ (c.args.count - half))) (done.1 ∙ first) ∙ in_two c.args.value half (c.args.count - half) c.args.count (omega arith) in
    subst (λ z. SomeIff c.checked_mul-2.result (FitsSigned w128 z) z) whole c.checked_mul-2.ensures
