use Rattle.std.proofs.Common.{◌≡◌, subst, true}
use Rattle.std.proofs.lemmas.Result.{on_ok_weaker}
use Rattle.gno_terms.specs.Terms.{term_of}
use Rattle.gno_type_rows.specs.RowTypes.{is_defined}
use Rattle.gno_promotion.proofs.Gathering.{one_type, pushed_defined}
use Rattle.gno_promotion.proofs.gather.push_defined.Goals as goal

pub returns-in-Some : goal.returns-in-Some
returns-in-Some c =
    let table = c.args.rows.now in
    let d = c.in-Some.definition.now in
    on_ok_weaker c.push_by_underlying.result
    (λ e s is. pushed_defined table c.args.number s is
    (subst (λ u. is_defined (term_of u) ≡ true) (one_type table c.args.number c.requires.defined.type s c.requires.defined.is is) c.requires.defined.defined)
    d c.in-Some.ensures.some c.in-Some.ensures.own c.in-Some.ensures.methods
    c.term.result.now c.term.ensures.is c.term.ensures.parts c.as_slice.result.now c.as_slice.ensures c.args.way c.args.candidates.now.items c.push_by_underlying.new.candidates.items e)
    c.push_by_underlying.ensures
