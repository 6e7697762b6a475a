use Rattle.std.proofs.Common.{ℤ, subst, rules}
use Rattle.std.specs.Prelude.{IfOk}
use Rattle.std.proofs.lemmas.Int.{to_z-of_z}
use mir.Syntax.{w128}
use mir.Val.{SFits}
use Rattle.std.proofs.lemmas.Result.{IfOk-weaker}
use Rattle.gno_judging.proofs.Answers.{after_none, after_ok}
use Rattle.gno_judging.specs.Answers.{Answers}
use Rattle.gno_judging.specs.Found.{ValueStands}
use Rattle.gno_indexing.proofs.CountingRules.{counted_by}
use Rattle.gno_indexing.specs.Counting.{CountedStands, IsUnder}
use Rattle.gno_type_classes.specs.Unnumbered.{unnumbered}
use Rattle.gno_typing.specs.Indexes.{IsBelow, counted, taken}
use Rattle.gno_indexing.proofs.indexes.index_counted.Goals as goal

pub returns-in-Some : goal.returns-in-Some
returns-in-Some c j basics h =
    let table = c.args.types.now in
    let seen = unnumbered table in
    let fits : SFits w128 c.end_below.result = search rules in
    after_ok (ValueStands table) (CountedStands table) (taken seen j) (counted seen 54 55 (IsBelow c.args.count) c.args.place) _ _ _ c.counted.result c.in-Some.at
    (subst (λ r. Answers (taken seen j) (ValueStands table) c.args.faults.now c.taken.new.faults r) c.in-Some.is (c.in_ok-at.ensures j basics h))
    (λ b is. IfOk-weaker c.counted.result (λ r. Answers (counted seen 54 55 (IsUnder c.end_below.result) c.args.place b) (CountedStands table) c.taken.new.faults c.counted.new.faults r)
    (λ r. Answers (counted seen 54 55 (IsBelow c.args.count) c.args.place b) (CountedStands table) c.taken.new.faults c.counted.new.faults r)
    (λ r a. counted_by seen 54 55 (IsUnder c.end_below.result) (IsBelow c.args.count) c.end_below.ensures c.args.place (CountedStands table) b _ _ r a)
    (subst (λ (end : ℤ). IfOk c.counted.result (λ r. Answers (counted seen 54 55 (IsUnder end) c.args.place b) (CountedStands table) c.taken.new.faults c.counted.new.faults r)) (to_z-of_z w128 c.end_below.result fits) (c.counted.ensures b is)))

pub returns-in-None : goal.returns-in-None
returns-in-None c j basics h =
    let table = c.args.types.now in
    let seen = unnumbered table in
    after_none (ValueStands table) (CountedStands table) (taken seen j) (counted seen 54 55 (IsBelow c.args.count) c.args.place) _ _
    (subst (λ r. Answers (taken seen j) (ValueStands table) c.args.faults.now c.taken.new.faults r) c.in-None.is (c.in_ok-at.ensures j basics h))
