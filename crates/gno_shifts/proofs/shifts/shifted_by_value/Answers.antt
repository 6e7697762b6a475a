use Rattle.gno_shifts.proofs.shifts.shifted_by_value.Goals as goal

pub returns-in-Ok : goal.returns-in-Ok
returns-in-Ok c l r basics left right by calls = c.shifted_where_counted.ensures c.args.faults.now l r left by calls (c.in-Ok.ensures r basics right)
