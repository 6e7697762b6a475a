use Rattle.std.proofs.Common.{refl, sym, subst, List, map}
use Rattle.gno_promotion.specs.MethodSets.{DeclaresBy}
use Rattle.gno_terms.specs.declared.term.MethodOf.{MethodOf}
use Rattle.gno_terms.specs.declared.term.TypeRef.{TypeRef}
use Rattle.gno_terms.specs.Tables.{type_at}
use Rattle.gno_terms.specs.Terms.{method_with, term_of}
use Rattle.gno_selectors.proofs.Rows.{declares_defined, declares_nothing, undefined}
use Rattle.gno_selectors.proofs.members.declared.Goals as goal

pub returns-in-Some-clause-declares : goal.returns-in-Some-clause-declares
returns-in-Some-clause-declares c s is known =
    let table = c.args.rows.now in
    subst (λ (ms : List (MethodOf TypeRef)). DeclaresBy table s (map (method_with (type_at table.types)) ms) (term_of s)) (sym c.as_slice.ensures)
    (declares_defined table c.args.t c.term.result.now c.term.ensures.is s is c.in-Defined.path c.in-Defined.name c.in-Defined.local c.in-Defined.is c.in-Some.definition.now c.in-Some.ensures.own c.in-Some.ensures.some)

pub returns-in-None-clause-declares : goal.returns-in-None-clause-declares
returns-in-None-clause-declares c s is known =
    absurd (undefined c.args.rows.now c.args.t c.term.result.now c.term.ensures.is s is c.in-Defined.path c.in-Defined.name c.in-Defined.local c.in-Defined.is known (c.in-None.ensures.none refl))

pub returns-in_default-clause-declares : goal.returns-in_default-clause-declares
returns-in_default-clause-declares c s is known = declares_nothing c.args.rows.now c.args.t c.term.result.now c.term.ensures.is s is c.in_default.not-Defined
