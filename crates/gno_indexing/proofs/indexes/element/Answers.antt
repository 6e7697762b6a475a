use Rattle.std.proofs.Common.{Bool, subst}
use Rattle.gno_judging.proofs.Answers.{after, after_none, gives}
use Rattle.gno_judging.specs.Answers.{Answers}
use Rattle.gno_judging.specs.Found.{FormStands, ValueStands}
use Rattle.gno_indexing.proofs.Made.{typed_as}
use Rattle.gno_indexing.specs.Counting.{CountedStands}
use Rattle.gno_indexing.specs.Indexing.{element, index_counted}
use Rattle.gno_typed.specs.declared.step.TypedStepOf.TheVariants as step
use Rattle.gno_typing.specs.Forms.{with_step}
use Rattle.gno_typing.specs.Indexes as indexes
use Rattle.std.proofs.Common.{refl}
use Rattle.gno_indexing.proofs.indexes.element.Goals as goal

pub returns-in_ok-form-in-Some : goal.returns-in_ok-form-in-Some
returns-in_ok-form-in-Some c table rules before later s y j of h found =
    let part = index_counted rules c.args.place c.args.elements.count j in
    let e : indexes.Elements = record { kind = c.args.elements.kind; of = s; count = c.args.elements.count } in
    after (CountedStands table) (ValueStands table) part (element c.args.place c.args.standing c.args.calls y e) before later later _ c.in-Some.n
    (subst (λ r. Answers part (CountedStands table) before later r) c.in-Some.is found)
    (λ m is.
    let form = subst (λ (b : Bool). FormStands table c.in_ok-form-in-Some.form (with_step y (step.Index c.args.place s c.args.elements.kind b m.form))) c.takes_place-at_place.ensures (c.in_ok-form-in-Some.ensures table s y m.form of.is h is.form) in
    gives (ValueStands table) _ _ _ (typed_as table c.args.place c.args.elements.of s _ _ _ _ c.in_ok-form-in-Some.form _ c.element_stands.ensures refl of form))

pub returns-in-None : goal.returns-in-None
returns-in-None c table rules before later s y j of h found =
    let part = index_counted rules c.args.place c.args.elements.count j in
    let e : indexes.Elements = record { kind = c.args.elements.kind; of = s; count = c.args.elements.count } in
    after_none (CountedStands table) (ValueStands table) part (element c.args.place c.args.standing c.args.calls y e) before later
    (subst (λ r. Answers part (CountedStands table) before later r) c.in-None.is found)
