use Rattle.std.proofs.Common.{refl}
use Rattle.gno_scan.proofs.Judging.{right_string, wrong_string}
use Rattle.gno_scan.proofs.judge.wrong_between.Goals as goal

pub returns-in-Some-clause-wrong : goal.returns-in-Some-clause-wrong
returns-in-Some-clause-wrong c = wrong_string c.args.word.now c.inside_of.result.now c.in-Some.at (c.inside_of.ensures 34 c.requires) c.in-Some.ensures.bad

pub returns-in-None-clause-right : goal.returns-in-None-clause-right
returns-in-None-clause-right c = λ none. right_string c.args.word.now c.inside_of.result.now (c.inside_of.ensures 34 c.requires) (c.in-None.ensures.none refl)
