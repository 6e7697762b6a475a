use Rattle.std.proofs.Common.{arith, ◌≡◌, ◌∙◌, sym, length, drop, append-nil, length-drop}
use Rattle.gno_text.proofs.Parts.{parts_after-end}
use Rattle.gno_text.proofs.quoting.push_spellings.Goals as goal

pub returns : goal.returns
returns c =
    let text = c.args.text.now in
    let ends : length (drop c.loop-at.at text) ≡ 0 = omega (arith, length-drop c.loop-at.at text, c.loop-at-test.false) in
    sym (append-nil c.loop-at.line) ∙ rw (parts_after-end c.loop-at.more _ ends) at c.loop-at.invariant
