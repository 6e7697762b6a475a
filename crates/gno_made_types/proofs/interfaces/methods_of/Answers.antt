use Rattle.std.proofs.Common.{ap, map, refl, subst, sym, ◌∙◌}
use Rattle.gno_made_types.proofs.InterfaceRules.{lawful_of, methods_stand, no_interface, row_is}
use Rattle.gno_terms.specs.Lawful.{IsLawful}
use Rattle.gno_terms.specs.Tables.{PartsBelow, type_at}
use Rattle.gno_terms.specs.Terms.{method_with, term_with}
use Rattle.gno_terms.specs.declared.term.TermOf.{TermOf}
use Rattle.gno_terms.specs.declared.term.GoType.{GoType}
use Rattle.gno_terms.specs.declared.term.TypeRef.{TypeRef}
use Rattle.std.proofs.Common.{length}
use Rattle.gno_made_types.proofs.interfaces.methods_of.Goals as goal

pub returns-in-Interface-clause-some : goal.returns-in-Interface-clause-some
returns-in-Interface-clause-some c s is =
    let table = c.args.types.now in
    let under = c.in-Some.ensures.some s is in
    let row = row_is table c.have_one_definition.ensures s under.0 under.1 c.in-Some.under c.term.result.now under.2 c.term.ensures.is under.0 under.1 ∙ ap (term_with (type_at table.types)) c.in-Interface.is in
    let below = subst (λ (x : TermOf TypeRef). PartsBelow (length table.types) x) c.in-Interface.is c.term.ensures.parts in
    let lawful = subst IsLawful row (lawful_of under.0 (c.types_are_lawful.ensures.lawful c.in-Some.under under.0 under.2)) in
    (map (method_with (type_at table.types)) c.in-Interface.methods, record { underlying = under.0; by = under.1; is = row }, methods_stand table c.in-Interface.methods below lawful)

pub returns-in_default : goal.returns-in_default
returns-in_default c = record {
  some = tt;
  none = λ e s ms is i.
      let table = c.args.types.now in
      let under = c.in-Some.ensures.some s is in
      let row = row_is table c.have_one_definition.ensures s under.0 under.1 c.in-Some.under c.term.result.now under.2 c.term.ensures.is i.underlying i.by in
      no_interface (type_at table.types) c.term.result.now c.in_default.not-Interface ms (sym row ∙ i.is);
}
