use Rattle.std.proofs.Common.{◌≡◌, refl}
use Rattle.gno_judging.proofs.Inversions.{by_waiting}
use Rattle.gno_operations.proofs.Seen.{no_needs}
use Rattle.gno_typing.specs.Binary.{needs_of}
use Rattle.gno_operations.proofs.values.needs_of.Goals as goal

pub returns-in-Pending : goal.returns-in-Pending
returns-in-Pending c table y h = by_waiting (λ y. c.in-Pending.waits ≡ needs_of y c.args.other) table _ _ _ _ c.args.x.now y c.in-Pending.is h (λ form stands w. refl)

pub returns-in_default : goal.returns-in_default
returns-in_default c table y h = no_needs table c.args.other c.args.x.now y h c.in_default.not-Pending
