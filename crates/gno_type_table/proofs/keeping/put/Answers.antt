use Rattle.std.proofs.Common.{refl}
use Rattle.gno_type_table.proofs.keeping.put.Goals as goal

pub returns : goal.returns
returns c = record { put = refl; size = c.flag.auto.awaited; rise = c.flag.ensures.rise; flagged = c.flag.ensures.flagged }
