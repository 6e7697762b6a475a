use Rattle.std.proofs.Common.{arith, ◌≢◌, sym, subst, take}
use Rattle.std.proofs.Math.Seq.{take-add}
use Rattle.gno_scan.specs.Characters.{IsRun}
use Rattle.gno_scan.specs.Longest.{IsLongest}
use Rattle.gno_scan.specs.Names.{IsIdentifier, is_letter_or_digit}
use Rattle.gno_scan.proofs.Runs.{identifier, rest_is}
use Rattle.gno_scan.proofs.name.identifier_length.Goals as goal

pub returns-clause-longest : goal.returns-clause-longest
returns-clause-longest c =
    let text = c.args.text.now in
    let first = c.letter_length-first.result in
    let more = c.run_length.result in
    let some : first ≢ 0 = omega arith in
    let run = subst (λ bs. IsLongest (IsRun is_letter_or_digit) bs (take more bs)) (rest_is text first) c.run_length.ensures.longest in
    λ _. subst (λ word. IsLongest IsIdentifier text word) (sym (take-add first more text)) (identifier text first _ (c.letter_length-first.ensures.some some) run)
