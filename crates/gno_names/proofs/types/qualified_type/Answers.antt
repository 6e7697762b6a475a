use Rattle.std.proofs.Common.{sym, ap, ◌∙◌, subst, None}
use Rattle.std.specs.Option.{option_copied}
use Rattle.std.specs.Prelude.{IfOk}
use Rattle.gno_judging.specs.Answers.{Answers}
use Rattle.gno_judging.specs.Stands.{BothStand}
use Rattle.gno_judging.proofs.Answers.{refuses}
use Rattle.gno_judging.specs.Found.{TypeStands}
use Rattle.gno_names.specs.Scopes.{NamedStands}
use Rattle.gno_names.proofs.TypeNames.{qualified_blank, qualified_in}
use Rattle.gno_tree_typing.specs.WrittenTypes.{type_in}
use Rattle.gno_typing.specs.Names.{is_blank, meaning_of}
use Rattle.gno_names.proofs.types.qualified_type.Goals as goal

pub returns-then-is_blank : goal.returns-then-is_blank
returns-then-is_blank c packages ms h given = qualified_blank (λ J. Answers J (TypeStands c.args.types.now) c.args.faults.now c.note.new.self None) ms packages c.args.qualifier.now c.args.name.now (ap is_blank (sym c.as_slice.ensures) ∙ sym c.is_blank.ensures ∙ c.if-is_blank.true)
    (refuses (TypeStands c.args.types.now) 41 c.args.qualifier.now.pos _ _ c.note.ensures)

pub returns-else-is_blank : goal.returns-else-is_blank
returns-else-is_blank c packages ms h given = qualified_in (λ J. IfOk c.type_in.result (λ r. Answers J (TypeStands c.args.types.now) c.args.faults.now c.type_in.new.faults r)) ms packages c.args.qualifier.now c.args.name.now (ap is_blank (sym c.as_slice.ensures) ∙ sym c.is_blank.ensures ∙ c.if-is_blank.false)
    (subst (λ n. IfOk c.type_in.result (λ r. Answers (type_in packages c.args.qualifier.now.pos (meaning_of ms c.args.qualifier.now.text) n) (TypeStands c.args.types.now) c.args.faults.now c.type_in.new.faults r)) c.as_slice-else-is_blank-2.ensures
    (c.type_in.ensures packages (meaning_of ms c.args.qualifier.now.text) (subst (λ n. BothStand (NamedStands c.args.types.now) (option_copied c.meaning_of-is.result) (meaning_of ms n)) c.as_slice-else-is_blank.ensures (c.meaning_of-is.ensures c.args.types.now ms h)) given))
