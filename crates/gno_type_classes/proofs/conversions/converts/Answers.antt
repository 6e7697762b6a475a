use Rattle.std.proofs.Common.{subst}
use Rattle.gno_embedding.proofs.Paths.{same_underlying}
use Rattle.gno_terms.specs.Tables.{Is}
use Rattle.gno_type_classes.specs.Unnumbered.{unnumbered}
use Rattle.gno_type_classes.proofs.conversions.converts.Goals as goal

pub returns-in-Some-underlying-clause-none : goal.returns-in-Some-underlying-clause-none
returns-in-Some-underlying-clause-none c e s u how is own h =
    let table = c.args.types.now in
    let one = c.have_one_definition.ensures in
    let a = c.in-Some.ensures.some s is in
    let b = c.in-Some-underlying.ensures.some u own in
    c.by_underlying.ensures.none e s u h.from h.to how is own (subst (Is table c.in-Some.a) (same_underlying (unnumbered table) one s a.0 h.from a.1 h.from_by) a.2) (subst (Is table c.in-Some-underlying.b) (same_underlying (unnumbered table) one u b.0 h.to b.1 h.to_by) b.2) h.to_by h.converts
