use Rattle.std.proofs.Common.{◌≡◌, ◌++◌, drop}
use Rattle.gno_text.specs.Quoting.{spellings, parts_after, parts_of}
use Rattle.gno_text.proofs.quoting.push_spellings.Given as goal

abbrev pub invariant-loop-at : goal.invariant-loop-at
invariant-loop-at l = l.line ++ spellings (parts_after l.more (drop l.at l.text)) ≡ l.fn.line ++ spellings (parts_of l.text)
