use Rattle.std.proofs.Common.{sym, ◌∙◌}
use Rattle.gno_judging.proofs.Joining.{behind_none, behind_some}
use Rattle.gno_judging.proofs.faults.Faults.note_all.Goals as goal

pub returns-in-Some : goal.returns-in-Some
returns-in-Some c fs e = c.note.ensures ∙ behind_some c.args.self.now fs c.in-Some.fault (sym e ∙ sym c.others.view_is ∙ c.in-Some.is)

pub returns-in_default : goal.returns-in_default
returns-in_default c fs e = behind_none c.args.self.now fs (sym e ∙ sym c.others.view_is ∙ c.in_default.is)
