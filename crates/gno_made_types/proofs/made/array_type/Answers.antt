use Rattle.std.proofs.Common.{ap, refl, rules, sym, subst, ◌∙◌}
use Rattle.gno_judging.specs.Answers.{Answers}
use Rattle.gno_judging.specs.Found.{TypeStands}
use Rattle.gno_made_types.proofs.MadeTypes.{array_by, stands}
use Rattle.gno_made_types.proofs.PartRules.{part_of}
use Rattle.gno_terms.specs.Tables.{type_or}
use Rattle.gno_terms.specs.Terms.{type_of}
use Rattle.gno_terms.specs.declared.term.TermOf.TheVariants as t
use Rattle.gno_made_types.proofs.made.array_type.Goals as goal

pub returns-in_ok-made-clause-answers : goal.returns-in_ok-made-clause-answers
returns-in_ok-made-clause-answers c s h =
    let table = c.args.types.now in
    let later = c.intern.new.self in
    let n = c.args.length in
    let own = c.types_are_lawful.ensures.normal c.args.element s h.is in
    let it = stands table later (t.Array n c.args.element) (t.Array n s) (ap (λ o. t.Array n (type_or o)) h.is) (own, tt) refl refl c.in_ok-made.made c.in_ok-made.ensures.is in
    array_by table later c.intern.ensures.definitions c.args.place n s (λ J. Answers J (TypeStands later) c.args.faults.now c.small.new.faults c.small.result) (c.small.ensures (type_of (t.Array n s)) it)

pub returns-else-is_part-clause-answers : goal.returns-else-is_part-clause-answers
returns-else-is_part-clause-answers c s h = absurd (search (rules, sym c.if-is_part.false ∙ c.is_part.ensures.1 (part_of c.args.types.now c.args.element s h)))
