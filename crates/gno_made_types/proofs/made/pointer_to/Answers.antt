use Rattle.std.proofs.Common.{ap, refl, rules, sym, ◌∙◌}
use Rattle.std.proofs.lemmas.Result.{IfOk-weaker}
use Rattle.gno_judging.specs.Found.{TypeStands}
use Rattle.gno_made_types.proofs.MadeTypes.{stands}
use Rattle.gno_made_types.proofs.PartRules.{part_of}
use Rattle.gno_terms.specs.Tables.{type_or}
use Rattle.gno_terms.specs.declared.term.TermOf.TheVariants as t
use Rattle.gno_made_types.proofs.made.pointer_to.Goals as goal

pub returns-then-is_part-clause-stands : goal.returns-then-is_part-clause-stands
returns-then-is_part-clause-stands c s h =
    let own = c.types_are_lawful.ensures.normal c.args.of s h.is in
    IfOk-weaker c.intern.result _ (λ r. TypeStands c.intern.new.self r _) (λ r is. stands c.args.types.now c.intern.new.self (t.Pointer c.args.of) (t.Pointer s) (ap (λ o. t.Pointer (type_or o)) h.is) (own, tt) refl refl r is) c.intern.ensures.is

pub returns-else-is_part-clause-stands : goal.returns-else-is_part-clause-stands
returns-else-is_part-clause-stands c s h = absurd (search (rules, sym c.if-is_part.false ∙ c.is_part.ensures.1 (part_of c.args.types.now c.args.of s h)))
