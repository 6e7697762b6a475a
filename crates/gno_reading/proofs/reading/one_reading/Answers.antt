use Rattle.gno_reading.proofs.OneReading.{one_reading}
use Rattle.gno_reading.proofs.reading.one_reading.Goals as goal

pub returns : goal.returns
returns c = λ reading other. one_reading c.args.text.now reading other
