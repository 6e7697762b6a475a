use Rattle.std.proofs.Common.{Some}
use Rattle.gno_indexing.proofs.indexes.index.Goals as goal

pub returns-in-Ok : goal.returns-in-Ok
returns-in-Ok c y j basics h k = c.index_behind.ensures c.args.faults.now y j basics (c.in-Ok.ensures c.args.types.now y h) k
