use Rattle.std.proofs.Common.{◌≡◌, ap, refl, rules, sym, ◌∙◌, None, Some, [], ◌∷◌}
use Rattle.gno_judging.proofs.Answers.{fails, gives, holds}
use Rattle.gno_judging.specs.Answers.{Answers}
use Rattle.gno_judging.specs.Found.{TypeStands}
use Rattle.gno_made_types.proofs.MadeTypes.{map_by, stands}
use Rattle.gno_made_types.proofs.PartRules.{part_of}
use Rattle.gno_terms.specs.Lawful.{Each}
use Rattle.gno_terms.specs.Normal.{normal}
use Rattle.gno_terms.specs.Tables.{type_at, type_or}
use Rattle.gno_terms.specs.Terms.{term_with}
use Rattle.gno_terms.specs.declared.term.GoType.{GoType}
use Rattle.gno_terms.specs.declared.term.TermOf.TheVariants as t
use Rattle.gno_made_types.proofs.made.map_type.Goals as goal

pub returns-then-not-is_basic-clause-answers : goal.returns-then-not-is_basic-clause-answers
returns-then-not-is_basic-clause-answers c s u h k =
    map_by c.args.types.now c.args.place s u (λ J. Answers J (TypeStands c.args.types.now) c.args.faults.now c.note.new.self None)
    (fails (TypeStands c.args.types.now) _ 62 c.args.place _ _ _ (λ p. search (rules, sym c.if-not-is_basic.true ∙ (c.is_basic.ensures s h.is).1 p)) c.note.ensures)

pub returns-in_ok-made-clause-answers : goal.returns-in_ok-made-clause-answers
returns-in_ok-made-clause-answers c s u h k =
    let table = c.args.types.now in
    let later = c.intern.new.self in
    let own : Each (λ (a : GoType). normal a ≡ a) (s ∷ u ∷ []) = (c.types_are_lawful.ensures.normal c.args.key s h.is, (c.types_are_lawful.ensures.normal c.args.value u k.is, tt)) in
    let same : term_with (type_at table.types) (t.Map c.args.key c.args.value) ≡ t.Map s u = ap (λ o. t.Map (type_or o) (type_at table.types c.args.value)) h.is ∙ ap (λ o. t.Map s (type_or o)) k.is in
    let it = stands table later (t.Map c.args.key c.args.value) (t.Map s u) same own refl refl c.in_ok-made.made c.in_ok-made.ensures.is in
    map_by table c.args.place s u (λ J. Answers J (TypeStands later) c.args.faults.now c.args.faults.now (Some c.in_ok-made.made))
    (holds (TypeStands later) _ 62 c.args.place _ _ _ _ ((c.is_basic.ensures s h.is).0 c.if-not-is_basic.false) (gives (TypeStands later) _ _ _ it))

pub returns-else-is_part-clause-answers : goal.returns-else-is_part-clause-answers
returns-else-is_part-clause-answers c s u h k = search (rules, part_of c.args.types.now c.args.key s h, part_of c.args.types.now c.args.value u k)
