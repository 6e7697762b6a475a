use Rattle.std.proofs.Common.{refl}
use Rattle.gno_scan.specs.declared.class.Class.TheVariants.{Quote}
use Rattle.gno_scan.specs.declared.piece.Piece.TheVariants.{Token}
use Rattle.gno_scan.specs.declared.kind.TokenKind.TheVariants.{Rune}
use Rattle.gno_scan.specs.Quoted.{IsQuoted}
use Rattle.gno_scan.proofs.Beginnings.{begun, quoted_closed, quoted_open}
use Rattle.gno_scan.proofs.Sorts.{only_sort}
use Rattle.gno_scan.proofs.beginning.rune.Goals as goal

pub returns-in-Some : goal.returns-in-Some
returns-in-Some c =
    begun (IsQuoted 39) c.args.text.now (Token Rune) c.in-Some.length (only_sort c.args.text.now Quote c.requires) c.in-Some.ensures.longest c.in-Some.ensures.longest.spelled c.in-Some.ensures.within
    (quoted_closed c.args.text.now _ c.requires c.in-Some.ensures.longest)

pub returns-in-None : goal.returns-in-None
returns-in-None c = quoted_open c.args.text.now c.requires (c.in-None.ensures.none refl)
