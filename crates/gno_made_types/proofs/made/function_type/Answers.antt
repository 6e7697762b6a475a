use Rattle.std.proofs.Common.{◌≡◌, ap, refl, rules, subst, sym, ◌∙◌, List}
use Rattle.gno_judging.specs.Stands.{BothStand as both}
use Rattle.gno_made_types.proofs.MadeTypes.{stands}
use Rattle.gno_made_types.proofs.PartRules.{all_below, all_typed, both_hold, hold_of, parts_of, types_are}
use Rattle.gno_made_types.specs.Parts.{IsPart}
use Rattle.gno_terms.specs.Lawful.{Each, Last, is_slice}
use Rattle.gno_terms.specs.Normal.{normal}
use Rattle.gno_terms.specs.Tables.{Below, type_at}
use Rattle.gno_terms.specs.Terms.{term_of, term_with}
use Rattle.gno_terms.specs.declared.term.GoType.{GoType}
use Rattle.gno_terms.specs.declared.term.TermOf.TheVariants as t
use Rattle.gno_terms.specs.declared.term.TypeRef.{TypeRef}
use Rattle.std.proofs.Common.{length, map, true}
use Rattle.gno_made_types.proofs.made.function_type.Goals as goal
use Rattle.gno_made_types.proofs.made.function_type.Goals.{then-not-are_parts-via-then-not-are_parts, then-not-are_parts-via-else-not-are_parts+then-not-are_parts-2, else-variadic-via-then-variadic+else-not-ends_in_slice, else-variadic-via-else-variadic}

pub returns-then-not-are_parts-clause-stands : goal.returns-then-not-are_parts-clause-stands
returns-then-not-are_parts-clause-stands c ps rs hp hr last =
    let table = c.args.types.now in
    elim c.then-not-are_parts.branch [
      | then-not-are_parts-via-then-not-are_parts w ↦ absurd (search (rules, sym w.if-not-are_parts.true ∙ c.are_parts.ensures.1 (subst (Each (IsPart table)) (sym c.as_slice.ensures) (parts_of table c.args.params ps hp))))
      | then-not-are_parts-via-else-not-are_parts+then-not-are_parts-2 w ↦ absurd (search (rules, sym w.if-not-are_parts-2.true ∙ w.are_parts-else-not-are_parts.ensures.1 (subst (Each (IsPart table)) (sym w.as_slice-else-not-are_parts.ensures) (parts_of table c.args.results rs hr))))
    ]

pub intern-requires-clause-below : goal.intern-requires-clause-below
intern-requires-clause-below c =
    let table = c.args.types.now in
    let params : Each (IsPart table) c.args.params = subst (Each (IsPart table)) c.as_slice.ensures (c.are_parts.ensures.0 c.if-not-are_parts.false) in
    let results : Each (IsPart table) c.args.results = subst (Each (IsPart table)) c.as_slice-else-not-are_parts.ensures (c.are_parts-else-not-are_parts.ensures.0 c.if-not-are_parts-2.false) in
    both_hold (Below (length table.types)) c.args.params c.args.results (all_below table c.args.params params) (all_below table c.args.results results)

pub intern-requires-clause-lawful : goal.intern-requires-clause-lawful
intern-requires-clause-lawful c =
    let table = c.args.types.now in
    let params : Each (IsPart table) c.args.params = subst (Each (IsPart table)) c.as_slice.ensures (c.are_parts.ensures.0 c.if-not-are_parts.false) in
    let results : Each (IsPart table) c.args.results = subst (Each (IsPart table)) c.as_slice-else-not-are_parts.ensures (c.are_parts-else-not-are_parts.ensures.0 c.if-not-are_parts-2.false) in
    let last : c.args.variadic ≡ true → Last (λ s. is_slice (term_of s) ≡ true) (map (type_at table.types) c.args.params) = λ e. elim c.else-variadic.branch [
      | else-variadic-via-then-variadic+else-not-ends_in_slice w ↦ subst (λ (ts : List TypeRef). Last (λ s. is_slice (term_of s) ≡ true) (map (type_at table.types) ts)) w.as_slice-then-variadic.ensures (w.ends_in_slice.ensures.0 w.if-not-ends_in_slice.false)
      | else-variadic-via-else-variadic w ↦ absurd (search (rules, sym w.if-variadic.false ∙ e))
    ] in
    record { params = all_typed table c.args.params params; results = all_typed table c.args.results results; last = last }

pub returns-clause-stands : goal.returns-clause-stands
returns-clause-stands c ps rs hp hr last =
    let table = c.args.types.now in
    let own = both_hold (λ (s : GoType). normal s ≡ s) ps rs (hold_of table (λ (s : GoType). normal s ≡ s) c.types_are_lawful.ensures.normal c.args.params ps hp) (hold_of table (λ (s : GoType). normal s ≡ s) c.types_are_lawful.ensures.normal c.args.results rs hr) in
    let same : term_with (type_at table.types) (t.Function c.args.params c.args.variadic c.args.results) ≡ t.Function ps c.args.variadic rs =
    ap (λ (ts : List GoType). t.Function ts c.args.variadic (map (type_at table.types) c.args.results)) (types_are table c.args.params ps hp) ∙ ap (λ (ts : List GoType). t.Function ps c.args.variadic ts) (types_are table c.args.results rs hr) in
    both.some (stands table c.intern.new.self (t.Function c.args.params c.args.variadic c.args.results) (t.Function ps c.args.variadic rs) same own refl refl c.in_ok-made.made c.in_ok-made.ensures.is)

pub returns-then-not-ends_in_slice-clause-stands : goal.returns-then-not-ends_in_slice-clause-stands
returns-then-not-ends_in_slice-clause-stands c ps rs hp hr last =
    let table = c.args.types.now in
    let of_params : Last (λ s. is_slice (term_of s) ≡ true) (map (type_at table.types) c.args.params) = subst (λ (ss : List GoType). Last (λ s. is_slice (term_of s) ≡ true) ss) (sym (types_are table c.args.params ps hp)) (last c.if-variadic.true) in
    let of_slice : Last (λ s. is_slice (term_of s) ≡ true) (map (type_at table.types) c.as_slice-then-variadic.result.now) = subst (λ (ts : List TypeRef). Last (λ s. is_slice (term_of s) ≡ true) (map (type_at table.types) ts)) (sym c.as_slice-then-variadic.ensures) of_params in
    absurd (search (rules, sym c.if-not-ends_in_slice.true ∙ c.ends_in_slice.ensures.1 of_slice))
