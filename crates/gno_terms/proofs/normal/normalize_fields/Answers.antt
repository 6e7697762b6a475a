use Rattle.std.proofs.Common.{sym, ap, ◌∙◌, arith, ◌++◌, take, drop, map, set, ◌+◌}
use Rattle.gno_terms.specs.Normal.{normal_field}
use Rattle.gno_terms.proofs.Loops.{mapped_more, mapped_all}
use Rattle.gno_terms.proofs.normal.normalize_fields.Goals as goal

pub loop-field-preserved : goal.loop-field-preserved
loop-field-preserved c =
    let xs = c.loop-field.fields in
    let i = c.loop-field.field-index in
    ap (λ y. take (i + 1) (set xs i y) ++ map normal_field (drop (i + 1) (set xs i y))) c.normalize_field.ensures
    ∙ sym (mapped_more normal_field xs i c.field-item.result (omega arith)) ∙ c.loop-field.invariant

pub returns : goal.returns
returns c = sym (mapped_all normal_field c.loop-field.fields c.loop-field.field-index (omega arith)) ∙ c.loop-field.invariant
