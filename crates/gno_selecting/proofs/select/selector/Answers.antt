use Rattle.std.proofs.Common.{◌≡◌, refl, ℕ, List, None}
use Rattle.std.specs.Prelude.{IfOk}
use Rattle.gno_judging.specs.Answers.{Answers}
use Rattle.gno_judging.specs.Found.{OperandStands}
use Rattle.gno_judging.proofs.Answers.{refuses}
use Rattle.gno_judging.proofs.Inversions.{by_package, by_type}
use Rattle.gno_names.specs.Scopes.{NamesStand}
use Rattle.gno_scan.specs.declared.token.Pos.{Pos}
use Rattle.gno_selecting.proofs.Rules.{of_package, of_type, other_operand}
use Rattle.gno_type_classes.specs.Unnumbered.{unnumbered}
use Rattle.gno_typing.specs.Selectors.{selector}
use Rattle.gno_typing.specs.declared.operand.OperandOf.TheVariants as o
use Rattle.gno_selecting.proofs.select.selector.Goals as goal

pub returns-in-Package : goal.returns-in-Package
returns-in-Package c packages y basics h names = by_package (λ y. ((at : Pos) (of : List ℕ) → y ≡ o.Package at of → NamesStand c.args.types.now c.args.exports.now (packages of)) → IfOk c.exported.result (λ r. Answers (selector packages c.args.path.now (unnumbered c.args.types.now) c.args.place c.args.name.now y) (OperandStands c.args.types.now) c.args.faults.now c.exported.new.faults r)) c.args.types.now _ _ c.args.x y c.in-Package.is h
    (λ names. of_package (λ J. IfOk c.exported.result (λ r. Answers J (OperandStands c.args.types.now) c.args.faults.now c.exported.new.faults r)) (unnumbered c.args.types.now) c.args.place c.args.path.now c.args.name.now packages _ _ (c.exported.ensures (packages _) (names _ _ refl))) names

pub returns-in-Type : goal.returns-in-Type
returns-in-Type c packages y basics h names = by_type (λ y. Answers (selector packages c.args.path.now (unnumbered c.args.types.now) c.args.place c.args.name.now y) (OperandStands c.args.types.now) c.args.faults.now c.note.new.self None) c.args.types.now _ _ c.args.x y c.in-Type.is h
    (λ s is. of_type (λ J. Answers J (OperandStands c.args.types.now) c.args.faults.now c.note.new.self None) (unnumbered c.args.types.now) c.args.place c.args.path.now c.args.name.now packages _ s (refuses (OperandStands c.args.types.now) 52 c.args.place _ _ c.note.ensures))

pub returns-in_default : goal.returns-in_default
returns-in_default c packages y basics h names = other_operand (λ J. IfOk c.of_value.result (λ r. Answers J (OperandStands c.args.types.now) c.args.faults.now c.of_value.new.faults r)) (unnumbered c.args.types.now) c.args.place c.args.path.now c.args.name.now packages c.args.types.now c.args.x y h c.in_default.not-Package c.in_default.not-Type (c.of_value.ensures y basics h)
