-- New variables are ints.
use Rattle.std.proofs.Common.{ℕ, zero, suc, replicate}
use Rattle.gno_machine.specs.Meaning.{int_of}
use Rattle.gno_machine.specs.Ints.{AreInts}
use Rattle.gno_machine.proofs.Steps.{zero_int}

pub AreInts-replicate : (n : ℕ) → AreInts (replicate n (int_of 0))
AreInts-replicate zero = tt
AreInts-replicate (suc n) = (zero_int, AreInts-replicate n)

pub ruleset zeros = (AreInts-replicate)
