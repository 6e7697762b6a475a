use Rattle.std.proofs.Common.{refl, sym, ap, ◌∙◌, subst, length}
use Rattle.gno_method_sets.proofs.Rows.{some_map, term_is, there}
use Rattle.gno_terms.specs.Tables.{PartsBelow, Underlying, type_at}
use Rattle.gno_terms.specs.Terms.{term_with}
use Rattle.gno_terms.specs.declared.term.GoType.{GoType}
use Rattle.gno_type_classes.specs.Unnumbered.{unnumbered}
use Rattle.gno_type_classes.proofs.Known.{not_there}
use Rattle.gno_type_classes.proofs.OtherParts.{no_pointer, one_pointer}
use Rattle.gno_type_classes.proofs.pointers.under_pointer.Goals as goal

pub returns-then-not-contains-clause-none : goal.returns-then-not-contains-clause-none
returns-then-not-contains-clause-none c _ s a b is _ _ = not_there c.args.types.now c.args.t s c.contains.result c.contains.ensures c.if-not-contains.true is

pub returns-in-Some-clause-some : goal.returns-in-Some-clause-some
returns-in-Some-clause-some c = some_map _ _ c.underlying.result
    (λ it h s is.
    let below = (subst (PartsBelow (length c.args.types.now.types)) c.in-Some.ensures.some c.term.ensures.parts).0 in
    let of = type_at c.args.types.now.types c.in-Some.of in
    let u = h of (there c.args.types.now c.in-Some.of below) in
    (of, u.0, term_is c.args.types.now c.args.t s c.term.result.now is c.term.ensures.is ∙ ap (term_with (type_at c.args.types.now.types)) c.in-Some.ensures.some, u.1, u.2)) c.underlying.ensures.some

pub returns-in-Some-clause-none : goal.returns-in-Some-clause-none
returns-in-Some-clause-none c e s a b is pointer by =
    let below = (subst (PartsBelow (length c.args.types.now.types)) c.in-Some.ensures.some c.term.ensures.parts).0 in
    let of = type_at c.args.types.now.types c.in-Some.of in
    let row = term_is c.args.types.now c.args.t s c.term.result.now is c.term.ensures.is ∙ ap (term_with (type_at c.args.types.now.types)) c.in-Some.ensures.some in
    c.underlying.ensures.none e of (there c.args.types.now c.in-Some.of below) (b, subst (λ (x : GoType). Underlying (unnumbered c.args.types.now) x b) (sym (one_pointer of a (sym row ∙ pointer))) by)

pub returns-in-None-clause-none : goal.returns-in-None-clause-none
returns-in-None-clause-none c _ s a b is pointer by = no_pointer (type_at c.args.types.now.types) c.term.result.now (c.in-None.ensures.none refl) a (sym (term_is c.args.types.now c.args.t s c.term.result.now is c.term.ensures.is) ∙ pointer)
