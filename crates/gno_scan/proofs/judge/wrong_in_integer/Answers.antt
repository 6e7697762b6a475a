use Rattle.std.proofs.Common.{refl}
use Rattle.gno_scan.specs.Tokens.{integer}
use Rattle.gno_scan.proofs.judge.wrong_in_integer.Goals as goal

pub returns-in-None-clause-wrong : goal.returns-in-None-clause-wrong
returns-in-None-clause-wrong c = integer c.args.word.now (c.in-None.ensures.none refl)
