use Rattle.gno_items.proofs.OneSession.{one_session}
use Rattle.gno_items.proofs.laws.one_session.Goals as goal

pub returns : goal.returns
returns c = λ memory items session other. one_session memory items session other
