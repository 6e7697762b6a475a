use Rattle.std.proofs.Common.{refl}
use Rattle.gno_types.proofs.tests.trial.Bench.define.Goals as goal

pub define-requires-clause-new : goal.define-requires-clause-new
define-requires-clause-new c d h e = c.if-not-is_open.ensures.new refl d h e
