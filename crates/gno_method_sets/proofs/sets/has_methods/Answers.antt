use Rattle.std.proofs.Common.{◌≡◌, sym, subst, length, rules}
use Rattle.gno_method_sets.proofs.Answered.{each_index}
use Rattle.gno_method_sets.specs.Implementing.{HasMethod}
use Rattle.gno_terms.specs.Tables.{Below, type_at}
use Rattle.gno_terms.specs.Terms.{method_of, method_with}
use Rattle.gno_terms.specs.declared.term.MethodOf.{MethodOf}
use Rattle.gno_terms.specs.declared.term.TypeRef.{TypeRef}
use Rattle.gno_method_sets.proofs.sets.has_methods.Goals as goal

pub has_method-requires-clause-wanted : goal.has_method-requires-clause-wanted
has_method-requires-clause-wanted c = subst (λ (m : MethodOf TypeRef). Below (length c.args.types.now.types) m.of) (sym c.wanted-item.is)
    (each_index (Below (length c.args.types.now.types)) method_of c.args.methods.now c.loop-wanted.wanted-index c.wanted-item.result c.loop-wanted-test.true c.requires.methods)

pub returns-then-not-has_method : goal.returns-then-not-has_method
returns-then-not-has_method c s is = (
  λ e. absurd (search (rules, e)),
  λ h. search (
    rules,
    sym ((c.has_method.ensures s is).1 (subst (λ (m : MethodOf TypeRef). HasMethod c.args.types.now s (method_with (type_at c.args.types.now.types) m)) (sym c.wanted-item.is)
        (each_index (HasMethod c.args.types.now s) (method_with (type_at c.args.types.now.types)) c.args.methods.now c.loop-wanted.wanted-index c.wanted-item.result c.loop-wanted-test.true h))),
    c.if-not-has_method.true,
  ),
)
