use Rattle.std.proofs.Common.{sym, ◌∙◌}
use Rattle.gno_judging.specs.Found.{OperandStands}
use Rattle.gno_typing.specs.Names.{variable}
use Rattle.gno_names.proofs.Judged.{by_its_test, of_realm, of_variable}
use Rattle.gno_names.proofs.names.variable.Goals as goal

pub returns-then-is_realm : goal.returns-then-is_realm
returns-then-is_realm c s f is = by_its_test (λ b. variable b c.args.at c.args.id.now s) (OperandStands c.args.types.now) f f _ _ _ (sym c.if-is_realm.true ∙ c.is_realm.ensures s is.is) (of_realm c.args.types.now c.args.at c.args.of s f is c.args.id.now)

pub returns-in_ok-variable : goal.returns-in_ok-variable
returns-in_ok-variable c s f is = by_its_test (λ b. variable b c.args.at c.args.id.now s) (OperandStands c.args.types.now) f f _ _ _ (sym c.if-is_realm.false ∙ c.is_realm.ensures s is.is)
    (of_variable c.args.types.now c.args.at c.args.of s f is c.args.id.now c.in_ok-variable.variable c.in_ok-variable.ensures)
