use Rattle.std.proofs.Common.{refl}
use Rattle.gno_scan.specs.declared.piece.Piece.TheVariants.{Token}
use Rattle.gno_scan.specs.Fixed.{IsOperator}
use Rattle.gno_scan.proofs.Beginnings.{begun, operator_spelled, stray}
use Rattle.gno_scan.proofs.beginning.operator.Goals as goal

pub returns-in-Some : goal.returns-in-Some
returns-in-Some c =
    let found = c.in-Some.ensures in
    begun IsOperator c.args.text.now (Token c.in-Some.operator.kind) c.in-Some.operator.length c.requires.only found.longest (operator_spelled c.in-Some.operator.kind _ found.spelled) found.within c.requires.closed

pub returns-in-None : goal.returns-in-None
returns-in-None c = stray IsOperator c.args.text.now c.requires.only (c.in-None.ensures.none refl) c.requires.closed
