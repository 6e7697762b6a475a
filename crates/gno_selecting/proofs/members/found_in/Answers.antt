use Rattle.gno_selecting.proofs.members.found_in.Goals as goal

pub returns-in-Ok : goal.returns-in-Ok
returns-in-Ok c s u y is own form = c.chosen.ensures c.args.path.now c.args.name.now s u y is (c.in-Ok.ensures.selection u own) c.in-Ok.ensures.below form
