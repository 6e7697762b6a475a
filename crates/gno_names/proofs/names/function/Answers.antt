use Rattle.std.proofs.Common.{sym}
use Rattle.gno_judging.specs.Found.{OperandStands}
use Rattle.gno_typing.specs.Names.{function}
use Rattle.gno_names.proofs.Judged.{by_its_test, of_crossing, of_function}
use Rattle.gno_names.proofs.names.function.Goals as goal

pub returns-then-crossing : goal.returns-then-crossing
returns-then-crossing c table s f is = by_its_test (λ b. function b c.args.at c.args.code.now s) (OperandStands table) f f _ _ _ (sym c.if-crossing.true) (of_crossing table c.args.at c.args.of s f is c.args.code.now c.in_ok-code.code c.in_ok-code.ensures)

pub returns-else-crossing : goal.returns-else-crossing
returns-else-crossing c table s f is = by_its_test (λ b. function b c.args.at c.args.code.now s) (OperandStands table) f f _ _ _ (sym c.if-crossing.false) (of_function table c.args.at c.args.of s f is c.args.code.now c.in_ok-code.code c.in_ok-code.ensures)
