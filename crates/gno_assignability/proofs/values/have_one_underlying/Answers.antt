use Rattle.std.proofs.Common.{sym, ap, ◌∙◌}
use Rattle.gno_assignability.proofs.FormsOfRows.{known}
use Rattle.gno_embedding.proofs.Paths.{same_underlying}
use Rattle.gno_terms.specs.Normal.{normal}
use Rattle.gno_assignability.proofs.values.have_one_underlying.Goals as goal

pub underlying-requires-clause-known : goal.underlying-requires-clause-known
underlying-requires-clause-known c s is = known c.args.types.now s (c.requires.complete s is)

pub returns : goal.returns
returns c s u is own =
    let a = c.underlying.ensures s is in
    let b = c.underlying-2.ensures u own in
    let same = c.identical.ensures a.0 b.0 a.2 b.2 in (
      λ y. record {
        not_both = sym (c.are_named.ensures s u is own) ∙ c.if-are_named.false;
        underlying = a.0;
        by = a.1;
        other = b.0;
        other_by = b.1;
        identical = same.0 y;
      },
      λ h. same.1 (ap normal (same_underlying c.args.types.now c.have_one_definition.ensures s a.0 h.underlying a.1 h.by) ∙ h.identical ∙ ap normal (same_underlying c.args.types.now c.have_one_definition.ensures u h.other b.0 h.other_by b.1)),
    )
