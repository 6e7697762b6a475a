use Rattle.std.proofs.Common.{ap, sym, ◌∙◌, subst}
use Rattle.std.proofs.lemmas.Int.{to_z-of_z}
use mir.Syntax.{w128}
use Rattle.gno_method_sets.proofs.Rows.{term_is}
use Rattle.gno_terms.specs.Tables.{type_at}
use Rattle.gno_typing.specs.Unary.{ones}
use Rattle.gno_unary.proofs.one_operand.ones.Goals as goal

pub returns-in-Some : goal.returns-in-Some
returns-in-Some c s is known =
    let u = c.in-Some.ensures.some s is in
    (u.0, u.1, to_z-of_z w128 c.ones_of.result (record { sfits = c.ones_of.type_inv }) ∙ c.ones_of.ensures (type_at c.args.types.now.types) ∙ sym (ap ones (term_is c.args.types.now c.in-Some.under u.0 c.term.result.now u.2 c.term.ensures.is)))
