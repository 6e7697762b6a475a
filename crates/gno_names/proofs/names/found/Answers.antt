use Rattle.std.proofs.Common.{ap, None}
use Rattle.std.specs.Prelude.{IfOk}
use Rattle.std.specs.Option.{option_copied}
use Rattle.gno_judging.specs.Answers.{Answers}
use Rattle.gno_judging.specs.Found.{OperandStands}
use Rattle.gno_judging.proofs.Answers.{refuses}
use Rattle.gno_names.proofs.Judged.{as_nothing, as_something}
use Rattle.gno_names.proofs.names.found.Goals as goal

pub returns-in-Some : goal.returns-in-Some
returns-in-Some c y h = as_something (λ J. IfOk c.meant.result (λ r. Answers J (OperandStands c.args.types.now) c.args.faults.now c.meant.new.faults r)) c.args.types.now c.args.at _ (option_copied c.args.is) y (ap option_copied c.in-Some.is) h (λ m is. c.meant.ensures m is)

pub returns-in-None : goal.returns-in-None
returns-in-None c y h = as_nothing (λ J. Answers J (OperandStands c.args.types.now) c.args.faults.now c.note.new.self None) c.args.types.now c.args.at (option_copied c.args.is) y (ap option_copied c.in-None.is) h (refuses (OperandStands c.args.types.now) 40 c.args.at _ _ c.note.ensures)
