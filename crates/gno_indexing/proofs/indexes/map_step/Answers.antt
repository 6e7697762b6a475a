use Rattle.std.proofs.Common.{subst}
use Rattle.gno_judging.proofs.Answers.{after, after_none, gives}
use Rattle.gno_judging.specs.Answers.{Answers}
use Rattle.gno_judging.specs.Found.{FormStands, ValueStands}
use Rattle.gno_judging.specs.Found.{ValueStands as value}
use Rattle.gno_indexing.specs.Indexing.{map_element}
use Rattle.gno_type_classes.specs.Unnumbered.{unnumbered}
use Rattle.gno_typing.specs.Giving.{given}
use Rattle.gno_typing.specs.declared.value.Standing.TheVariants as st
use Rattle.gno_indexing.proofs.indexes.map_step.Goals as goal

pub returns-in_ok-form-in-Some : goal.returns-in_ok-form-in-Some
returns-in_ok-form-in-Some c before later at k s y j of h found =
    let table = c.args.types.now in
    let seen = unnumbered table in
    after (FormStands table) (ValueStands table) (given seen 49 at k j) (map_element c.args.place c.args.calls y s) before later later _ c.in-Some.x
    (subst (λ r. Answers (given seen 49 at k j) (FormStands table) before later r) c.in-Some.is found)
    (λ b is. gives (ValueStands table) _ _ _ (value.typed c.args.place st.Element c.args.calls of (c.in_ok-form-in-Some.ensures table s y b of.is h is)))

pub returns-in-None : goal.returns-in-None
returns-in-None c before later at k s y j of h found =
    let table = c.args.types.now in
    let seen = unnumbered table in
    after_none (FormStands table) (ValueStands table) (given seen 49 at k j) (map_element c.args.place c.args.calls y s) before later
    (subst (λ r. Answers (given seen 49 at k j) (FormStands table) before later r) c.in-None.is found)
