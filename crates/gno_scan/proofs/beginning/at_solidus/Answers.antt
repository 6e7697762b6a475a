use Rattle.std.proofs.Common.{arith, ◌<◌, length}
use Rattle.gno_scan.specs.declared.class.Class.TheVariants.{Solidus}
use Rattle.gno_scan.specs.declared.piece.Piece.TheVariants.{GeneralComment, LineComment}
use Rattle.gno_scan.proofs.Beginnings.{begun, general_closed, general_open, general_sort, line_closed, line_sort, other_closed, short_closed, solidus_operator}
use Rattle.gno_scan.proofs.Sorts.{Sort, only_sort}
use Rattle.gno_scan.proofs.beginning.at_solidus.Goals as goal
use Rattle.gno_scan.proofs.beginning.at_solidus.Goals.{else-text-ge2-via-then-text-ge2+else-text-eq42, else-text-ge2-via-else-text-ge2}

pub operator-requires-clause-closed : goal.operator-requires-clause-closed
operator-requires-clause-closed c = elim c.else-text-ge2.branch [
  | else-text-ge2-via-then-text-ge2+else-text-eq42 w ↦ other_closed c.args.text.now c.requires w.if-text-eq42.false
  | else-text-ge2-via-else-text-ge2 w ↦ let short : length c.args.text.now < 2 = omega arith in short_closed c.args.text.now c.requires short
]

pub operator-requires-clause-only : goal.operator-requires-clause-only
operator-requires-clause-only c =
    solidus_operator c.args.text.now c.requires (c.line_comment_length.ensures.none c.in_default.is) (c.general_comment_length.ensures.none c.in_default-general_comment_length.is)

pub returns-in-Some : goal.returns-in-Some
returns-in-Some c =
    let longest = c.in-Some.ensures.longest in
    begun (Sort Solidus) c.args.text.now LineComment c.in-Some.length (only_sort c.args.text.now Solidus c.requires) (line_sort c.args.text.now _ longest) longest.spelled c.in-Some.ensures.within
    (line_closed c.args.text.now _ c.requires longest)

pub returns-in-Some-general_comment_length : goal.returns-in-Some-general_comment_length
returns-in-Some-general_comment_length c =
    let longest = c.in-Some-general_comment_length.ensures.longest in
    begun (Sort Solidus) c.args.text.now GeneralComment c.in-Some-general_comment_length.length (only_sort c.args.text.now Solidus c.requires) (general_sort c.args.text.now _ longest) longest.spelled
    c.in-Some-general_comment_length.ensures.within (general_closed c.args.text.now _ c.requires longest)

pub returns-then-text-eq42 : goal.returns-then-text-eq42
returns-then-text-eq42 c = general_open c.args.text.now c.requires c.if-text-ge2.true c.if-text-eq42.true (c.general_comment_length.ensures.none c.in_default-general_comment_length.is)
