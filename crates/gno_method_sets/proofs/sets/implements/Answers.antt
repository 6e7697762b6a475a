use Rattle.std.proofs.Common.{◌≡◌, sym, ap, ◌∙◌, subst, List, map}
use Rattle.std.specs.Prelude.{IsTrue, ◌↔◌}
use Rattle.gno_method_sets.proofs.Interfaces.{by_methods, no_methods_of}
use Rattle.gno_method_sets.proofs.Rows.{below_it, there}
use Rattle.gno_method_sets.specs.Implementing.{HasMethod}
use Rattle.gno_terms.specs.Lawful.{Each}
use Rattle.gno_terms.specs.Tables.{type_at}
use Rattle.gno_terms.specs.Terms.{method_with}
use Rattle.gno_terms.specs.declared.term.MethodOf.{MethodOf}
use Rattle.gno_terms.specs.declared.term.TypeRef.{TypeRef}
use Rattle.gno_method_sets.proofs.sets.implements.Goals as goal

pub term-requires : goal.term-requires
term-requires c =
    let e = c.underlying.ensures (type_at c.args.types.now.types c.args.interface) (there c.args.types.now c.args.interface c.requires.interface) in
    below_it c.args.types.now c.underlying.result e.0 e.2

pub returns-in-Interface : goal.returns-in-Interface
returns-in-Interface c s i is own =
    let u = c.underlying.ensures i own in
    by_methods c.args.types.now c.have_one_definition.ensures s i u.0 u.1 c.underlying.result u.2 c.term.result.now c.term.ensures.is c.in-Interface.methods c.in-Interface.is c.has_methods.result
    (subst (λ (ms : List (MethodOf TypeRef)). IsTrue c.has_methods.result ↔ Each (HasMethod c.args.types.now s) (map (method_with (type_at c.args.types.now.types)) ms)) c.as_slice.ensures (c.has_methods.ensures s is))

pub returns-in_default : goal.returns-in_default
returns-in_default c s i is own =
    let u = c.underlying.ensures i own in
    no_methods_of c.args.types.now c.have_one_definition.ensures s i u.0 u.1 c.underlying.result u.2 c.term.result.now c.term.ensures.is c.in_default.not-Interface
