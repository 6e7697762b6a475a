use Rattle.std.proofs.Common.{sym, subst, None}
use Rattle.std.specs.Prelude.{IfOk}
use Rattle.gno_judging.specs.Answers.{Answers}
use Rattle.gno_judging.specs.Stands.{Stands}
use Rattle.gno_judging.proofs.Answers.{refuses}
use Rattle.gno_type_classes.specs.Unnumbered.{unnumbered}
use Rattle.gno_typing.specs.Binary.{counted}
use Rattle.gno_typing.specs.declared.value.ValueOf.TheVariants as v
use Rattle.gno_shifts.proofs.shifts.waiting_counted.Goals as goal

pub returns-in-Boolean : goal.returns-in-Boolean
returns-in-Boolean c y basics h = subst (λ waits. Answers (counted (unnumbered c.args.types.now) c.args.place (v.Pending c.args.at waits c.args.calls y)) (Stands c.args.types.now) c.args.faults.now c.note.new.self None) (sym c.in-Boolean.is) (refuses (Stands c.args.types.now) 46 c.args.place _ _ c.note.ensures)

pub returns-in-Integer : goal.returns-in-Integer
returns-in-Integer c y basics h = subst (λ waits. IfOk c.integer_counted.result (λ r. Answers (counted (unnumbered c.args.types.now) c.args.place (v.Pending c.args.at waits c.args.calls y)) (Stands c.args.types.now) c.args.faults.now c.integer_counted.new.faults r)) (sym c.in-Integer.is) (c.integer_counted.ensures y basics h)
