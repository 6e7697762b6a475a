use Rattle.std.proofs.Common.{sym, ◌∙◌, None}
use Rattle.std.specs.Prelude.{IfOk}
use Rattle.gno_judging.specs.Answers.{Answers}
use Rattle.gno_judging.specs.Found.{OperandStands}
use Rattle.gno_judging.proofs.Answers.{refuses}
use Rattle.gno_names.proofs.Judged.{exported_found, exported_hidden}
use Rattle.gno_typing.specs.Names.{meaning_of}
use Rattle.gno_names.proofs.names.exported.Goals as goal

pub returns-then-is_exported : goal.returns-then-is_exported
returns-then-is_exported c ms h = exported_found (λ J. IfOk c.found.result (λ r. Answers J (OperandStands c.args.types.now) c.args.faults.now c.found.new.faults r)) ms c.args.at c.args.name.now (sym c.is_exported.ensures ∙ c.if-is_exported.true)
    (c.found.ensures (meaning_of ms c.args.name.now) (c.meaning_of.ensures c.args.types.now ms h))

pub returns-else-is_exported : goal.returns-else-is_exported
returns-else-is_exported c ms h = exported_hidden (λ J. Answers J (OperandStands c.args.types.now) c.args.faults.now c.note.new.self None) ms c.args.at c.args.name.now (sym c.is_exported.ensures ∙ c.if-is_exported.false)
    (refuses (OperandStands c.args.types.now) 40 c.args.at _ _ c.note.ensures)
