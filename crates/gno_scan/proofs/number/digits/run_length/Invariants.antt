use Rattle.std.proofs.Common.{◌≡◌, ◌≤◌, ◌+◌, ◌-◌, length, drop}
use Rattle.gno_scan.specs.NumberLengths.{is_digit_of, run_length}
use Rattle.gno_scan.proofs.number.digits.run_length.Given as goal

abbrev pub invariant-loop-end : goal.invariant-loop-end
invariant-loop-end l = record {
  read : l.end + run_length (is_digit_of l.radix) (drop l.end l.text) ≡ run_length (is_digit_of l.radix) l.text;
  within : l.end ≤ length l.text;
}

abbrev pub decreases-loop-end : goal.decreases-loop-end
decreases-loop-end l = length l.text - l.end
