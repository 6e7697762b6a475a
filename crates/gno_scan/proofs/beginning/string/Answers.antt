use Rattle.gno_scan.specs.declared.class.Class.TheVariants.{DoubleQuote}
use Rattle.gno_scan.specs.declared.piece.Piece.TheVariants.{Token}
use Rattle.gno_scan.specs.declared.kind.TokenKind.TheVariants.{String}
use Rattle.gno_scan.specs.Quoted.{IsQuoted}
use Rattle.gno_scan.proofs.Beginnings.{begun, double_quoted_closed, double_quoted_open}
use Rattle.gno_scan.proofs.Sorts.{only_sort}
use Rattle.std.proofs.Common.{refl, inl}
use Rattle.gno_scan.proofs.beginning.string.Goals as goal

pub returns-in-Some : goal.returns-in-Some
returns-in-Some c =
    begun (IsQuoted 34) c.args.text.now (Token String) c.in-Some.length (only_sort c.args.text.now DoubleQuote c.requires) c.in-Some.ensures.longest (inl c.in-Some.ensures.longest.spelled) c.in-Some.ensures.within
    (double_quoted_closed c.args.text.now _ c.requires c.in-Some.ensures.longest)

pub returns-in-None : goal.returns-in-None
returns-in-None c = double_quoted_open c.args.text.now c.requires (c.in-None.ensures.none refl)
