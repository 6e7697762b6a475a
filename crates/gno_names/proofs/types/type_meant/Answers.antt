use Rattle.std.proofs.Common.{None}
use Rattle.std.specs.Prelude.{IfOk}
use Rattle.gno_judging.specs.Answers.{Answers}
use Rattle.gno_judging.proofs.Answers.{refuses}
use Rattle.gno_judging.specs.Found.{TypeStands}
use Rattle.gno_names.proofs.TypeNames.{a_package, no_package}
use Rattle.gno_names.proofs.types.type_meant.Goals as goal

pub returns-in-Package : goal.returns-in-Package
returns-in-Package c packages y h given = a_package (λ J. IfOk c.type_of_package.result (λ r. Answers J (TypeStands c.args.types.now) c.args.faults.now c.type_of_package.new.faults r)) packages c.args.types.now c.args.at c.args.name.now c.args.exports.now _ c.args.meaning.now y c.in-Package.is h given (λ ms own. c.type_of_package.ensures ms own)

pub returns-in_default : goal.returns-in_default
returns-in_default c packages y h given = no_package (λ J. Answers J (TypeStands c.args.types.now) c.args.faults.now c.note.new.self None) packages c.args.types.now c.args.at c.args.name.now c.args.meaning.now y h c.in_default.not-Package (refuses (TypeStands c.args.types.now) 41 c.args.at _ _ c.note.ensures)
