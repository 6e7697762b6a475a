use Rattle.std.proofs.Common.{◌≡◌, ◌≢◌, ◌≤◌, ◌-◌, ◌++◌, ℕ, List, length, take, drop}
use Rattle.gno_scan.specs.Characters.{HasFront, HasNoFront, IsRun}
use Rattle.gno_scan.specs.Longest.{IsLongest}
use Rattle.gno_scan.specs.Names.{is_letter_or_digit}
use Rattle.gno_scan.proofs.name.run_length.Given as goal

abbrev pub invariant-loop-step : goal.invariant-loop-step
invariant-loop-step l = record {
  within : l.end ≤ length l.text;
  some : l.step ≢ 0 → HasFront is_letter_or_digit (drop l.end l.text) l.step;
  none : l.step ≡ 0 → HasNoFront is_letter_or_digit (drop l.end l.text);
  goes_on : (word : List ℕ) → IsLongest (IsRun is_letter_or_digit) (drop l.end l.text) word → IsLongest (IsRun is_letter_or_digit) l.text (take l.end l.text ++ word);
}

abbrev pub decreases-loop-step : goal.decreases-loop-step
decreases-loop-step l = length l.text - l.end
