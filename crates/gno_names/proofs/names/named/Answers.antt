use Rattle.std.proofs.Common.{sym, ap, ◌∙◌, subst, None}
use Rattle.std.specs.Option.{option_copied}
use Rattle.std.specs.Prelude.{IfOk}
use Rattle.gno_judging.specs.Answers.{Answers}
use Rattle.gno_judging.specs.Found.{OperandStands}
use Rattle.gno_judging.specs.Stands.{BothStand}
use Rattle.gno_judging.proofs.Answers.{refuses}
use Rattle.gno_names.specs.Scopes.{NamedStands}
use Rattle.gno_names.proofs.Judged.{named_blank, named_found}
use Rattle.gno_typing.specs.Names.{is_blank, meaning_of}
use Rattle.gno_names.proofs.names.named.Goals as goal

pub returns-then-is_blank : goal.returns-then-is_blank
returns-then-is_blank c ms h = named_blank (λ J. Answers J (OperandStands c.args.types.now) c.args.faults.now c.note.new.self None) ms c.args.name.now.pos c.args.name.now.text (ap is_blank (sym c.as_slice.ensures) ∙ sym c.is_blank.ensures ∙ c.if-is_blank.true)
    (refuses (OperandStands c.args.types.now) 41 c.args.name.now.pos _ _ c.note.ensures)

pub returns-else-is_blank : goal.returns-else-is_blank
returns-else-is_blank c ms h = named_found (λ J. IfOk c.found.result (λ r. Answers J (OperandStands c.args.types.now) c.args.faults.now c.found.new.faults r)) ms c.args.name.now.pos c.args.name.now.text (ap is_blank (sym c.as_slice.ensures) ∙ sym c.is_blank.ensures ∙ c.if-is_blank.false)
    (c.found.ensures (meaning_of ms c.args.name.now.text) (subst (λ n. BothStand (NamedStands c.args.types.now) (option_copied c.meaning_of.result) (meaning_of ms n)) c.as_slice-else-is_blank.ensures (c.meaning_of.ensures c.args.types.now ms h)))
