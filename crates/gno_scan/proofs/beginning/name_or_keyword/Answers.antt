use Rattle.std.proofs.Common.{arith, ◌≢◌}
use Rattle.gno_scan.specs.declared.class.Class.TheVariants.{Other}
use Rattle.gno_scan.specs.declared.piece.Piece.TheVariants.{Token}
use Rattle.gno_scan.specs.Names.{IsIdentifier}
use Rattle.gno_scan.proofs.Beginnings.{begun, not_open, stray}
use Rattle.gno_scan.proofs.Sorts.{only_sort}
use Rattle.gno_scan.proofs.beginning.name_or_keyword.Goals as goal

pub returns-then-length-eq0 : goal.returns-then-length-eq0
returns-then-length-eq0 c = stray IsIdentifier c.args.text.now (only_sort c.args.text.now Other c.requires) (c.identifier_length-length.ensures.none c.if-length-eq0.true) (not_open c.args.text.now Other tt c.requires)

pub returns : goal.returns
returns c =
    let n = c.identifier_length-length.result in
    let some : n ≢ 0 = omega arith in
    begun IsIdentifier c.args.text.now (Token c.kind_of.result) n (only_sort c.args.text.now Other c.requires) (c.identifier_length-length.ensures.longest some) c.kind_of.ensures
    c.identifier_length-length.ensures.within (not_open c.args.text.now Other tt c.requires)
