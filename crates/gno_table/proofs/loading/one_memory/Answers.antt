use Rattle.gno_table.proofs.OneMemory.{one_memory}
use Rattle.gno_table.proofs.loading.one_memory.Goals as goal

pub returns : goal.returns
returns c = one_memory
