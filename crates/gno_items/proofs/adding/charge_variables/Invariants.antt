use Rattle.std.proofs.Common.{◌≡◌, ◌-◌}
use Rattle.gno_items.specs.Adding.{charge_variables}
use Rattle.gno_items.proofs.adding.charge_variables.Given as goal

abbrev pub invariant-loop-variable : goal.invariant-loop-variable
invariant-loop-variable l = charge_variables (l.count - l._variable) l.cycles.left ≡ charge_variables l.count l.fn.cycles.left
