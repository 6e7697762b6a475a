use Rattle.std.proofs.Common.{◌≡◌, refl, sym, ap, ◌∙◌, subst, length, map, Some, arith}
use Rattle.std.specs.Prelude.{slice_get}
use Rattle.std.proofs.lemmas.Option.{slice_get_read}
use Rattle.gno_terms.specs.Tables.{Table, Below, Defines, Is, type_at}
use Rattle.gno_terms.specs.Lawful.{Each}
use Rattle.gno_terms.specs.Terms.{method_of}
use Rattle.gno_type_rows.specs.RowTypes.{definition_with}
use Rattle.gno_type_rows.proofs.Defining.{if_there, if_none, some_told, own, none_told, underlying_below, methods_below}
use Rattle.gno_type_rows.proofs.rows.Rows.definition.Goals as goal

-- what stands beside the row
there : (c : goal.After-as_ref) → slice_get c.self.inside.definitions.items c.args.t.0 ≡ Some c.index.result.now
there c =
    let at : Below (length c.args.self.now.types) c.args.t = c.requires in
    let below = subst (λ (v : Table). Below (length v.types) c.args.t) (sym c.self.view_is) at in
    let rows = c.self.invariant.table.rows.size in
    let size = c.self.invariant.table.definitions.size in
    slice_get_read c.self.inside.definitions.items (length c.self.inside.definitions.items) c.args.t.0 c.index.result.now refl (omega (arith, below, rows, size)) c.index.ensures

pub returns-clause-some : goal.returns-clause-some
returns-clause-some c = if_there c.as_ref.result c.index.result.now c.as_ref.ensures.value (λ e. Defines c.args.self.now (definition_with (type_at c.args.self.now.types) e))
    (λ e h. subst (λ (v : Table). Defines v (definition_with (type_at v.types) e)) c.self.view_is
    (some_told c.self.inside.terms.items c.self.inside.numbers c.self.inside.definitions.items c.self.invariant.table c.args.t.0 e (there c ∙ ap Some h)))

pub returns-clause-own : goal.returns-clause-own
returns-clause-own c = if_there c.as_ref.result c.index.result.now c.as_ref.ensures.value (λ e. e.of ≡ c.args.t)
    (λ e h. own c.self.inside.terms.items c.self.inside.numbers c.self.inside.definitions.items c.self.invariant.table c.args.t e (there c ∙ ap Some h))

pub returns-clause-none : goal.returns-clause-none
returns-clause-none c h d defines is =
    none_told c.self.inside.terms.items c.self.inside.numbers c.self.inside.definitions.items c.self.invariant.table c.args.t
    (there c ∙ ap Some (sym c.as_ref.ensures.value ∙ if_none c.as_ref.result h)) d
    (subst (λ (v : Table). Defines v d) (sym c.self.view_is) defines)
    (subst (λ (v : Table). Is v c.args.t d.of) (sym c.self.view_is) is)

pub returns-clause-below : goal.returns-clause-below
returns-clause-below c = if_there c.as_ref.result c.index.result.now c.as_ref.ensures.value (λ e. Below (length c.args.self.now.types) e.underlying)
    (λ e h. subst (λ (v : Table). Below (length v.types) e.underlying) c.self.view_is
    (underlying_below c.self.inside.terms.items c.self.inside.numbers c.self.inside.definitions.items c.self.invariant.table c.args.t.0 e (there c ∙ ap Some h)))

pub returns-clause-methods : goal.returns-clause-methods
returns-clause-methods c = if_there c.as_ref.result c.index.result.now c.as_ref.ensures.value (λ e. Each (Below (length c.args.self.now.types)) (map method_of e.methods))
    (λ e h. subst (λ (v : Table). Each (Below (length v.types)) (map method_of e.methods)) c.self.view_is
    (methods_below c.self.inside.terms.items c.self.inside.numbers c.self.inside.definitions.items c.self.invariant.table c.args.t.0 e (there c ∙ ap Some h)))
