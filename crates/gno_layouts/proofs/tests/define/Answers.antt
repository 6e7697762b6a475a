use Rattle.std.proofs.Common.{ap, ◌∙◌, List, Some, None, length}
use Rattle.std.specs.Prelude.{slice_get}
use Rattle.std.proofs.lemmas.Option.{slice_get_within}
use Rattle.gno_layouts.specs.declared.row.Row.{Row}
use Rattle.gno_layouts.specs.declared.row.Row.TheVariants.{Defined}
use Rattle.gno_layouts.proofs.SetAt.{set_size, set_here}
use Rattle.gno_layouts.proofs.tests.define.Goals as goal

pub returns-clause-defined : goal.returns-clause-defined
returns-clause-defined c =
    ap (λ (l : List Row). slice_get l 1) c.in_ok-define.ensures.ok ∙ set_here c.args.layouts.now 1 (Defined (Some c.args.of)) (slice_get_within c.args.layouts.now 1 (Defined None) c.requires.undefined)

pub returns-clause-counted : goal.returns-clause-counted
returns-clause-counted c = ap length c.in_ok-define.ensures.ok ∙ set_size c.args.layouts.now 1 (Defined (Some c.args.of)) ∙ c.requires.counted
