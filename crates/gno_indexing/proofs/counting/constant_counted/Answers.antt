use Rattle.std.proofs.Common.{ℤ, ◌≡◌, sym, ap, subst, ◌∙◌, Some, rules, to_z, of_z}
use Rattle.std.proofs.lemmas.Int.{to_z-of_z}
use mir.Syntax.{w128}
use mir.Val.{SFits}
use Rattle.gno_judging.proofs.Answers.{fails, gives, holds}
use Rattle.gno_judging.specs.Stands.{Stands as stands}
use Rattle.gno_indexing.specs.Counting.{CountedStands, IsUnder}
use Rattle.gno_typing.specs.Indexes.{whole_in}
use Rattle.gno_indexing.proofs.counting.constant_counted.Goals as goal

pub returns-then-not-is_integer : goal.returns-then-not-is_integer
returns-then-not-is_integer c s is = fails (CountedStands c.args.types.now) _ c.args.no_integer c.args.place _ _ _ (λ p. search (rules, sym c.if-not-is_integer.true ∙ (c.is_integer.ensures s is).1 p)) c.note.ensures

pub returns-then-is_under : goal.returns-then-is_under
returns-then-is_under c s is =
    let fits : SFits w128 c.whole_in-n.result = search rules in
    let value : to_z w128 (of_z w128 c.whole_in-n.result) ≡ whole_in c.args.value = to_z-of_z w128 c.whole_in-n.result fits ∙ c.whole_in-n.ensures in
    let below = subst (λ (end : ℤ). IsUnder end (to_z w128 (of_z w128 c.whole_in-n.result))) (to_z-of_z w128 c.args.end c.ranges.end) (c.is_under.ensures.0 c.if-is_under.true) in
    holds (CountedStands c.args.types.now) _ c.args.no_integer c.args.place _ _ _ _ ((c.is_integer.ensures s is).0 c.if-not-is_integer.false)
    (holds (CountedStands c.args.types.now) _ c.args.out_of_bounds c.args.place _ _ _ _ (subst (λ (n : ℤ). IsUnder c.args.end n) value below)
    (gives (CountedStands c.args.types.now) _ _ _ (record { form = stands.constant c.args.pos c.args.value is; value = ap Some value })))

pub returns-else-is_under : goal.returns-else-is_under
returns-else-is_under c s is =
    let fits : SFits w128 c.whole_in-n.result = search rules in
    let value : to_z w128 (of_z w128 c.whole_in-n.result) ≡ whole_in c.args.value = to_z-of_z w128 c.whole_in-n.result fits ∙ c.whole_in-n.ensures in
    holds (CountedStands c.args.types.now) _ c.args.no_integer c.args.place _ _ _ _ ((c.is_integer.ensures s is).0 c.if-not-is_integer.false)
    (fails (CountedStands c.args.types.now) _ c.args.out_of_bounds c.args.place _ _ _
    (λ p. search (rules, sym c.if-is_under.false ∙ c.is_under.ensures.1 (subst (λ (end : ℤ). IsUnder end (to_z w128 (of_z w128 c.whole_in-n.result))) (sym (to_z-of_z w128 c.args.end c.ranges.end)) (subst (λ (n : ℤ). IsUnder c.args.end n) (sym value) p)))) c.note-else-is_under.ensures)
