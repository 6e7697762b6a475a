use Rattle.std.proofs.Common.{◌≡◌, ◌+◌, drop}
use Rattle.gno_scan.specs.Tokens.{to_line_feed}
use Rattle.gno_scan.proofs.scanner.to_line_feed.Given as goal

abbrev pub invariant-loop-at : goal.invariant-loop-at
invariant-loop-at l = l.at + to_line_feed (drop l.at l.word) ≡ to_line_feed l.word
