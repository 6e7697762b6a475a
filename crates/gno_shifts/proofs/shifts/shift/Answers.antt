use Rattle.std.proofs.Common.{◌∙◌}
use Rattle.gno_seen.proofs.Seen.{constant_seen}
use Rattle.gno_shifts.proofs.shifts.shift.Goals as goal

pub returns-in-Ok : goal.returns-in-Ok
returns-in-Ok c l r basics left right = c.shifted_by_value.ensures l r basics left right (c.in-Ok.ensures ∙ constant_seen c.args.types.now c.args.right r right) (c.calls_in-calls.ensures c.args.types.now r right)
