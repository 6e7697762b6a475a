use Rattle.gno_type_texts.proofs.Words.{path_is}
use Rattle.gno_type_texts.proofs.tests.words.path.Goals as goal

pub returns-in-Ok : goal.returns-in-Ok
returns-in-Ok c = path_is c.args.text.now c.in-Ok.path c.in-Ok.ensures.path
