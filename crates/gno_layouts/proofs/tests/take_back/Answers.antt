use Rattle.gno_layouts.specs.declared.row.Row.TheVariants.{Defined}
use Rattle.std.proofs.Common.{Some}
use Rattle.gno_layouts.proofs.tests.take_back.Goals as goal

pub returns-clause-undefined : goal.returns-clause-undefined
returns-clause-undefined c = c.keep.ensures.each 1 (Defined (Some c.args.of)) c.requires.defined
