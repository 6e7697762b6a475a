use Rattle.std.proofs.Common.{refl}
use Rattle.gno_scan.specs.declared.class.Class.TheVariants.{Point}
use Rattle.gno_scan.proofs.Beginnings.{begun, not_open, point_longest, point_operator}
use Rattle.gno_scan.proofs.Sorts.{Sort, only_sort}
use Rattle.gno_scan.proofs.beginning.at_point.Goals as goal

pub operator-requires-clause-closed : goal.operator-requires-clause-closed
operator-requires-clause-closed c = not_open c.args.text.now Point tt c.requires

pub operator-requires-clause-only : goal.operator-requires-clause-only
operator-requires-clause-only c = point_operator c.args.text.now c.requires (c.in-None.ensures.none refl)

pub returns-in-Some : goal.returns-in-Some
returns-in-Some c =
    let longest = c.in-Some.ensures.longest in
    begun (Sort Point) c.args.text.now c.number_piece.result c.in-Some.number.length (only_sort c.args.text.now Point c.requires) (point_longest c.args.text.now _ c.requires longest)
    (c.number_piece.ensures _ longest.spelled c.in-Some.ensures.integer) c.in-Some.ensures.within (not_open c.args.text.now Point tt c.requires)
