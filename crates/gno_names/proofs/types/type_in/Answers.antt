use Rattle.std.proofs.Common.{ap, None}
use Rattle.std.specs.Option.{option_copied}
use Rattle.std.specs.Prelude.{IfOk}
use Rattle.gno_judging.specs.Answers.{Answers}
use Rattle.gno_judging.proofs.Answers.{refuses}
use Rattle.gno_judging.specs.Found.{TypeStands}
use Rattle.gno_names.proofs.TypeNames.{a_meaning, no_meaning}
use Rattle.gno_names.proofs.types.type_in.Goals as goal

pub returns-in-Some : goal.returns-in-Some
returns-in-Some c packages y h given = a_meaning (λ J. IfOk c.type_meant.result (λ r. Answers J (TypeStands c.args.types.now) c.args.faults.now c.type_meant.new.faults r)) packages c.args.types.now c.args.at c.args.name.now c.args.exports.now _ (option_copied c.args.is) y (ap option_copied c.in-Some.is) h given (λ m is own. c.type_meant.ensures packages m is own)

pub returns-in-None : goal.returns-in-None
returns-in-None c packages y h given = no_meaning (λ J. Answers J (TypeStands c.args.types.now) c.args.faults.now c.note.new.self None) packages c.args.types.now c.args.at c.args.name.now (option_copied c.args.is) y (ap option_copied c.in-None.is) h (refuses (TypeStands c.args.types.now) 40 c.args.at _ _ c.note.ensures)
