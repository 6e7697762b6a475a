use Rattle.std.proofs.Common.{arith, ◌≡◌, ◌≢◌, ◌+◌, ◌++◌, sym, ◌∙◌, ap, subst, take, drop, append_assoc, append-nil, length-drop}
use Rattle.std.proofs.Math.Seq.{take-add}
use Rattle.gno_scan.specs.Characters.{HasFront, HasNoFront, IsRun}
use Rattle.gno_scan.specs.Longest.{IsLongest}
use Rattle.gno_scan.specs.Names.{is_letter_or_digit}
use Rattle.gno_scan.proofs.Runs.{further, nothing_longest, rest_is}
use Rattle.gno_scan.proofs.name.run_length.Goals as goal

pub loop-step-preserved : goal.loop-step-preserved
loop-step-preserved c =
    let text = c.args.text.now in
    let end = c.loop-step.end in
    let step = c.loop-step.step in
    let moved : step ≢ 0 = omega arith in
    let front = c.loop-step.invariant.some moved in
    let rest = rest_is text (end + step) in
    let next = c.letter_or_digit_length-step-in-loop-step in
    record {
      within = omega (arith, front.within, length-drop end text);
      some = λ h. subst (λ bs. HasFront is_letter_or_digit bs next.result) rest (next.ensures.some h);
      none = λ h. subst (λ bs. HasNoFront is_letter_or_digit bs) rest (next.ensures.none h);
      goes_on = λ word best.
          subst (λ bs. IsLongest (IsRun is_letter_or_digit) text bs) (sym (append_assoc (take end text) (take step (drop end text)) word) ∙ ap (λ bs. bs ++ word) (sym (take-add end step text)))
          (c.loop-step.invariant.goes_on _ (further is_letter_or_digit text end step word front best));
    }

pub returns-clause-longest : goal.returns-clause-longest
returns-clause-longest c =
    let text = c.args.text.now in
    let end = c.loop-step.end in
    let stopped : c.loop-step.step ≡ 0 = omega arith in
    let none = c.loop-step.invariant.none stopped in
    subst (λ word. IsLongest (IsRun is_letter_or_digit) text word) (append-nil (take end text)) (c.loop-step.invariant.goes_on _ (nothing_longest is_letter_or_digit (drop end text) none))
