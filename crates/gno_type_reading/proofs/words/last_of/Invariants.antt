use Rattle.std.proofs.Common.{◌≡◌, ◌≤◌, ℕ, List, drop, length, true}
use Rattle.std.specs.List.{list_all}
use Rattle.gno_type_reading.proofs.Cuts.{other}
use Rattle.gno_type_reading.proofs.words.last_of.Given as goal

-- the byte does not stand behind
pub record Searched (byte : ℕ) (text : List ℕ) (end : ℕ) : Type 0 where
  pub within : end ≤ length text
  pub none : list_all (other byte) (drop end text) ≡ true

abbrev pub invariant-loop-end : goal.invariant-loop-end
invariant-loop-end l = Searched l.byte l.text l.end

abbrev pub decreases-loop-end : goal.decreases-loop-end
decreases-loop-end l = l.end
