use Rattle.gno_cmd.proofs.Fronts.{behind_first, in_first}
use Rattle.gno_cmd.proofs.line.write_about.Goals as goal

pub returns-in_err-write_text-clause-front : goal.returns-in_err-write_text-clause-front
returns-in_err-write_text-clause-front g c = in_first _ _ c.args.start.now _ c.write_text.ensures.front

pub returns-in_err-write_text-2-clause-front : goal.returns-in_err-write_text-2-clause-front
returns-in_err-write_text-2-clause-front g c =
    behind_first _ _ _ c.args.start.now _ c.in_ok-write_text.ensures.whole (in_first _ _ c.args.what.now _ c.write_text-2.ensures.front)

pub returns-clause-front : goal.returns-clause-front
returns-clause-front g c =
    behind_first _ _ _ c.args.start.now _ c.in_ok-write_text.ensures.whole
    (behind_first _ _ _ c.args.what.now _ c.in_ok-write_text-2.ensures.whole c.write_text-3.ensures.front)
