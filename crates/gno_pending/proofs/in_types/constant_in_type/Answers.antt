use Rattle.std.proofs.Common.{Some, None}
use Rattle.gno_pending.proofs.DefaultedChains.{constant_beside, no_constant_beside}
use Rattle.gno_pending.proofs.in_types.constant_in_type.Goals as goal

pub returns-in-Some : goal.returns-in-Some
returns-in-Some c rune y is = constant_beside c.args.types.now c.args.pos c.args.value rune c.args.of y _ _ c.in-Some.form is (c.in-Some.ensures y.of rune is.is)

pub returns-in-None : goal.returns-in-None
returns-in-None c rune y is = no_constant_beside c.args.types.now c.args.pos c.args.value rune y _ _ (c.in-None.ensures y.of rune is.is)
