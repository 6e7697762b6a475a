use Rattle.std.proofs.Common.{sym, ap, ◌∙◌, arith, ◌++◌, take, drop, map, set, ◌+◌}
use Rattle.gno_terms.specs.Normal.{normal_method}
use Rattle.gno_terms.proofs.Loops.{mapped_more, mapped_all}
use Rattle.gno_terms.proofs.normal.normalize_methods.Goals as goal

pub loop-method-preserved : goal.loop-method-preserved
loop-method-preserved c =
    let xs = c.loop-method.methods in
    let i = c.loop-method.method-index in
    ap (λ y. take (i + 1) (set xs i y) ++ map normal_method (drop (i + 1) (set xs i y))) c.normalize_method.ensures
    ∙ sym (mapped_more normal_method xs i c.method-item.result (omega arith)) ∙ c.loop-method.invariant

pub returns : goal.returns
returns c = sym (mapped_all normal_method c.loop-method.methods c.loop-method.method-index (omega arith)) ∙ c.loop-method.invariant
