use Rattle.std.proofs.Common.{refl}
use Rattle.gno_scan.specs.declared.class.Class.TheVariants.{Digit}
use Rattle.gno_scan.specs.Numbers.{IsNumber}
use Rattle.gno_scan.proofs.Beginnings.{begun, not_open, stray}
use Rattle.gno_scan.proofs.Sorts.{only_sort}
use Rattle.gno_scan.proofs.beginning.number.Goals as goal

pub returns-in-Some : goal.returns-in-Some
returns-in-Some c =
    let longest = c.in-Some.ensures.longest in
    begun IsNumber c.args.text.now c.number_piece.result c.in-Some.number.length (only_sort c.args.text.now Digit c.requires) longest (c.number_piece.ensures _ longest.spelled c.in-Some.ensures.integer)
    c.in-Some.ensures.within (not_open c.args.text.now Digit tt c.requires)

pub returns-in-None : goal.returns-in-None
returns-in-None c = stray IsNumber c.args.text.now (only_sort c.args.text.now Digit c.requires) (c.in-None.ensures.none refl) (not_open c.args.text.now Digit tt c.requires)
