use Rattle.gno_scan.specs.declared.class.Class.TheVariants.{BackQuote}
use Rattle.gno_scan.specs.declared.piece.Piece.TheVariants.{Token}
use Rattle.gno_scan.specs.declared.kind.TokenKind.TheVariants.{String}
use Rattle.gno_scan.specs.Quoted.{IsRaw}
use Rattle.gno_scan.proofs.Beginnings.{begun, raw_closed, raw_open}
use Rattle.gno_scan.proofs.Sorts.{only_sort}
use Rattle.std.proofs.Common.{refl, inr}
use Rattle.gno_scan.proofs.beginning.raw_string.Goals as goal

pub returns-in-Some : goal.returns-in-Some
returns-in-Some c =
    begun IsRaw c.args.text.now (Token String) c.in-Some.length (only_sort c.args.text.now BackQuote c.requires) c.in-Some.ensures.longest (inr c.in-Some.ensures.longest.spelled) c.in-Some.ensures.within
    (raw_closed c.args.text.now _ c.requires c.in-Some.ensures.longest)

pub returns-in-None : goal.returns-in-None
returns-in-None c = raw_open c.args.text.now c.requires (c.in-None.ensures.none refl)
