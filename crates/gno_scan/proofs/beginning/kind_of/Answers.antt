use Rattle.gno_scan.proofs.Beginnings.{keyword_spelled, name_spelled}
use Rattle.gno_scan.proofs.beginning.kind_of.Goals as goal

pub returns-in-Some : goal.returns-in-Some
returns-in-Some c = keyword_spelled c.in-Some.kind c.args.word.now ((c.keyword_of.ensures c.in-Some.kind).0 c.in-Some.is)

pub returns-in-None : goal.returns-in-None
returns-in-None c = name_spelled c.args.word.now c.keyword_of.result c.requires c.keyword_of.ensures c.in-None.is
