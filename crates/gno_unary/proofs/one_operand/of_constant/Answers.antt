use Rattle.std.proofs.Common.{sym, ◌∙◌, rules}
use Rattle.std.proofs.lemmas.Int.{to_z-of_z}
use mir.Syntax.{w128}
use Rattle.gno_judging.specs.Found.{ValueStands}
use Rattle.gno_judging.proofs.Answers.{fails, holds}
use Rattle.gno_unary.proofs.OneOperand.{of_underlying}
use Rattle.gno_type_classes.specs.Unnumbered.{unnumbered}
use Rattle.gno_unary.proofs.one_operand.of_constant.Goals as goal

pub returns-in_ok-x : goal.returns-in_ok-x
returns-in_ok-x c s is =
    let p = (c.takes.ensures s is.is).0 c.if-takes.true in
    let u = c.ones-full.ensures s is.is (p.underlying, p.by) in
    holds (ValueStands c.args.types.now) _ 46 c.args.place _ _ _ _ p
    (of_underlying (ValueStands c.args.types.now) (unnumbered c.args.types.now) c.args.place c.args.operator _ _ s c.args.value _ u.0 u.1 (c.worked_out.ensures s _ is (c.in_ok-x.ensures u.0 (to_z-of_z w128 c.ones-full.result (record { sfits = c.ones-full.type_inv }) ∙ u.2))))

pub returns-else-takes : goal.returns-else-takes
returns-else-takes c s is = fails (ValueStands c.args.types.now) _ 46 c.args.place _ _ _ (λ p. search (rules, sym c.if-takes.false ∙ (c.takes.ensures s is.is).1 p)) c.note.ensures
