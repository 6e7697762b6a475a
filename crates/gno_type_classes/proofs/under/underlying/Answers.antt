use Rattle.gno_method_sets.proofs.Rows.{below_it, there}
use Rattle.gno_terms.specs.Tables.{type_at}
use Rattle.gno_type_classes.proofs.Known.{there_it}
use Rattle.gno_type_classes.proofs.under.underlying.Goals as goal

pub returns-then-is_known-clause-below : goal.returns-then-is_known-clause-below
returns-then-is_known-clause-below c =
    let e = c.underlying.ensures (type_at c.args.types.now.types c.args.t) (there c.args.types.now c.args.t (there_it c.args.types.now c.args.t c.contains.result c.contains.ensures c.if-not-contains.false)) in
    below_it c.args.types.now c.underlying.result e.0 e.2
