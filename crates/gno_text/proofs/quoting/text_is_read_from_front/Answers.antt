use Rattle.gno_text.proofs.Reading.{read_from_front}
use Rattle.gno_text.proofs.quoting.text_is_read_from_front.Goals as goal

pub returns : goal.returns
returns c = read_from_front c.args.text.now
