use Rattle.gno_layouts.specs.declared.row.Row.TheVariants.{Defined}
use Rattle.std.proofs.Common.{None}
use Rattle.gno_layouts.proofs.tests.undefined.Goals as goal

pub returns-clause-undefined : goal.returns-clause-undefined
returns-clause-undefined c =
    c.in_ok-add-4.ensures.kept 1 (Defined None) (c.in_ok-add_pair.ensures.kept 1 (Defined None) (c.in_ok-add-3.ensures.kept 1 (Defined None) c.in_ok-add-2.ensures.added))
