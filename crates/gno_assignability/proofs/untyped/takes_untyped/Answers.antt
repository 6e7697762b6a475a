use Rattle.std.proofs.Common.{◌≡◌, sym, ap, ◌∙◌, subst, List, [], false}
use Rattle.std.specs.Prelude.{IsTrue, ◌↔◌, option_map}
use Rattle.gno_assignability.proofs.Assigning.{in_basic, in_interface, in_neither}
use Rattle.gno_assignability.proofs.FormsOfRows.{not_basic_itself}
use Rattle.gno_assignability.specs.Assignability.{Becomes}
use Rattle.gno_method_sets.proofs.Rows.{below_it, no_interface, term_is, there}
use Rattle.gno_promotion.specs.MethodSets.{is_interface}
use Rattle.gno_terms.specs.Tables.{type_at}
use Rattle.gno_terms.specs.Terms.{term_with}
use Rattle.gno_terms.specs.declared.term.MethodOf.{MethodOf}
use Rattle.gno_terms.specs.declared.term.TypeRef.{TypeRef}
use Rattle.std.proofs.Common.{rules}
use Rattle.gno_assignability.proofs.untyped.takes_untyped.Goals as goal

pub term-requires : goal.term-requires
term-requires c =
    let e = c.underlying.ensures (type_at c.args.types.now.types c.args.to) (there c.args.types.now c.args.to c.requires.below) in
    below_it c.args.types.now c.underlying.result e.0 e.2

pub returns-in-Basic : goal.returns-in-Basic
returns-in-Basic c s is =
    let u = c.underlying.ensures s is in
    in_basic c.args.types.now c.have_one_definition.ensures c.args.default (option_map (λ it. it.now) c.args.constant) s u.0 u.1 c.becomes.result c.in-Basic.kind
    (term_is c.args.types.now c.underlying.result u.0 c.term.result.now u.2 c.term.ensures.is ∙ ap (term_with (type_at c.args.types.now.types)) c.in-Basic.is) c.becomes.ensures

pub returns-in-Interface : goal.returns-in-Interface
returns-in-Interface c s is =
    let u = c.underlying.ensures s is in
    in_interface c.args.types.now c.have_one_definition.ensures c.args.default (option_map (λ it. it.now) c.args.constant) s u.0 u.1 c.is_held.result (type_at c.args.types.now.types) c.in-Interface.methods
    (term_is c.args.types.now c.underlying.result u.0 c.term.result.now u.2 c.term.ensures.is ∙ ap (term_with (type_at c.args.types.now.types)) c.in-Interface.is)
    (subst (λ (ms : List (MethodOf TypeRef)). IsTrue c.is_held.result ↔ ((ms ≡ []) × Becomes (option_map (λ it. it.now) c.args.constant) c.args.default c.args.default)) c.as_slice.ensures c.is_held.ensures)

pub returns-in_default : goal.returns-in_default
returns-in_default c s is =
    let u = c.underlying.ensures s is in
    let row = term_is c.args.types.now c.underlying.result u.0 c.term.result.now u.2 c.term.ensures.is in
    in_neither c.args.types.now c.have_one_definition.ensures c.args.default (option_map (λ it. it.now) c.args.constant) s u.0 u.1 false
    (λ k e. not_basic_itself (type_at c.args.types.now.types) c.term.result.now c.in_default.not-Basic k (sym row ∙ e))
    (λ ms e. search (rules, sym (ap is_interface row ∙ no_interface (type_at c.args.types.now.types) c.term.result.now c.in_default.not-Interface) ∙ ap is_interface e))
