use Rattle.std.proofs.Common.{ℕ, ◌-◌, ◌+◌, ◌∙◌, ap, sym}
use Rattle.gno_items.specs.Adding.{charge_variables}
use Rattle.gno_items.proofs.Charges.{charged, one_less}
use Rattle.gno_base.specs.declared.cycles.Cycles.{Cycles}
use Rattle.gno_items.proofs.adding.charge_variables.Goals as goal

pub loop-variable-preserved : goal.loop-variable-preserved
loop-variable-preserved c =
    let first = ap (λ (x : Cycles). x.left) c.in_ok-charge.ensures.taken in
    let second = ap (λ (x : Cycles). x.left) c.in_ok-charge-2.ensures.taken in
    sym (charged (c.args.count - (c.loop-variable._variable + 1)) c.loop-variable.cycles.left _ _ c.in_ok-charge.ensures.fits first c.in_ok-charge-2.ensures.fits second)
    ∙ ap (λ (n : ℕ). charge_variables n c.loop-variable.cycles.left) (sym (one_less c.args.count c.loop-variable._variable c.loop-variable-test.true))
    ∙ c.loop-variable.invariant
