use Rattle.std.proofs.Common.{List, ℕ, length, subst, take, ◌≤◌}
use Rattle.gno_scan.proofs.Fronts.{behind_at}
use Rattle.gno_literals.specs.Parts.{IsPart}
use Rattle.gno_literals.proofs.Lines.{all_read, one_more}
use Rattle.gno_literals.proofs.OneValue.{double}
use Rattle.gno_literals.proofs.text.interpreted_value.Goals as goal

pub loop-at-preserved : goal.loop-at-preserved
loop-at-preserved c =
    let rest = behind_at c.loop-at.at c.args.inside.now in
    let part = c.in-Some.part in
    one_more 34 c.args.inside.now c.loop-at.bytes c.push_to.new.bytes c.loop-at.at part.length part.value double c.loop-at.invariant
    (subst (λ (t : List ℕ). part.length ≤ length t) rest c.in-Some.ensures.within.1)
    (subst (λ (t : List ℕ). IsPart 34 (take part.length t) part.value) rest c.in-Some.ensures.found)
    c.in_ok-push_to.ensures

pub returns-clause-line : goal.returns-clause-line
returns-clause-line c = (all_read 34 c.args.inside.now c.loop-at.bytes c.loop-at.at c.loop-at.invariant c.loop-at-test.false).line

pub returns-clause-value : goal.returns-clause-value
returns-clause-value c = (all_read 34 c.args.inside.now c.loop-at.bytes c.loop-at.at c.loop-at.invariant c.loop-at-test.false).parts
