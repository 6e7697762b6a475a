use Rattle.std.proofs.Common.{None}
use Rattle.gno_giving.specs.InTypes.{InTypeStands}
use Rattle.gno_judging.specs.Answers.{Answers}
use Rattle.gno_pending.proofs.Parts.{by_none, by_some}
use Rattle.gno_type_classes.specs.Unnumbered.{unnumbered}
use Rattle.gno_typing.specs.Giving.{IsBeside}
use Rattle.gno_typing.specs.declared.pending.PendingOf.TheVariants as p
use Rattle.gno_pending.proofs.DefaultedChains.{beside_none}
use Rattle.gno_pending.proofs.in_types.beside.Goals as goal

pub returns-in-Some : goal.returns-in-Some
returns-in-Some c rune y h = by_some (InTypeStands c.args.types.now) (λ z. Answers (IsBeside (unnumbered c.args.types.now) (p.Constant c.args.pos c.args.value rune) z) (InTypeStands c.args.types.now) c.args.faults.now c.constant_in_type.new.faults c.constant_in_type.result) _ c.args.other.now y c.in-Some.is h
    (λ b k. c.constant_in_type.ensures rune b k.of)

pub returns-in-None : goal.returns-in-None
returns-in-None c rune y h = by_none (InTypeStands c.args.types.now) (λ z. Answers (IsBeside (unnumbered c.args.types.now) (p.Constant c.args.pos c.args.value rune) z) (InTypeStands c.args.types.now) c.args.faults.now c.args.faults.now None) c.args.other.now y c.in-None.is h
    (beside_none c.args.types.now c.args.pos c.args.value rune c.args.faults.now)
