use Rattle.std.proofs.Common.{Some}
use Rattle.gno_indexing.proofs.indexes.index_behind.Goals as goal

pub returns-in-Ok : goal.returns-in-Ok
returns-in-Ok c before y j basics h k = c.index_of_both.ensures before c.args.faults.now y j basics h (c.in-Ok.ensures c.args.types.now j k)
