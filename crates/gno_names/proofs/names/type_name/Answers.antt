use Rattle.std.proofs.Common.{sym, ◌∙◌}
use Rattle.gno_judging.specs.Found.{OperandStands}
use Rattle.gno_judging.proofs.Answers.{refuses}
use Rattle.gno_typing.specs.Names.{type_name}
use Rattle.gno_names.proofs.Judged.{by_its_test, of_type}
use Rattle.gno_names.proofs.names.type_name.Goals as goal

pub returns-then-is_realm : goal.returns-then-is_realm
returns-then-is_realm c s is = by_its_test (λ b. type_name b c.args.at s) (OperandStands c.args.types.now) _ _ _ _ _ (sym c.if-is_realm.true ∙ c.is_realm.ensures s is.is) (refuses (OperandStands c.args.types.now) 82 c.args.at _ _ c.note.ensures)

pub returns-else-is_realm : goal.returns-else-is_realm
returns-else-is_realm c s is = by_its_test (λ b. type_name b c.args.at s) (OperandStands c.args.types.now) _ _ _ _ _ (sym c.if-is_realm.false ∙ c.is_realm.ensures s is.is) (of_type c.args.types.now c.args.at c.args.of s _ is)
