use Rattle.gno_scan.specs.declared.class.Class.TheVariants.{Mark}
use Rattle.gno_scan.proofs.Beginnings.{not_open}
use Rattle.gno_scan.proofs.Sorts.{only_sort}
use Rattle.gno_scan.proofs.beginning.at_mark.Goals as goal

pub operator-requires-clause-closed : goal.operator-requires-clause-closed
operator-requires-clause-closed c = not_open c.args.text.now Mark tt c.requires

pub operator-requires-clause-only : goal.operator-requires-clause-only
operator-requires-clause-only c = only_sort c.args.text.now Mark c.requires
