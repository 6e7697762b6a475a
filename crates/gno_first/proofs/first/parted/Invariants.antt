use Rattle.std.proofs.Common.{◌≡◌, ◌≤◌, ◌+◌, ◌-◌, length, drop}
use Rattle.std.specs.List.{prefix_len}
use Rattle.gno_first.specs.Form.{is_declaration}
use Rattle.gno_first.proofs.first.parted.Given as goal

abbrev pub invariant-loop-end : goal.invariant-loop-end
invariant-loop-end l = record {
  read : l.end + prefix_len is_declaration (drop l.end l.declared) ≡ prefix_len is_declaration l.declared;
  within : l.end ≤ length l.declared;
}

abbrev pub decreases-loop-end : goal.decreases-loop-end
decreases-loop-end l = length l.declared - l.end
