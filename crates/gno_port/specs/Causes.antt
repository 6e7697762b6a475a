-- When a device may answer a fault.
use Rattle.std.specs.Prelude.{ℕ, ◌≡◌, ◌+◌, ◌-◌, ◌^◌, ◌<◌, ◌≤◌, ◌⊎◌, min, List, length, Result, IsOkAnd}

-- a count that is kept in 64 bits, as one of faults, rose, or stands at its end
abbrev pub Rose : ℕ → ℕ → Type 0
Rose before now = min (before + 1) (2 ^ 64 - 1) ≤ now

-- such a count after so many more, as it is kept in 64 bits
abbrev pub counted : ℕ → ℕ → ℕ
counted before more = min (before + more) (2 ^ 64 - 1)

-- such a count rose by so many at least, or stands at its end
abbrev pub RoseBy : ℕ → ℕ → ℕ → Type 0
RoseBy least before now = counted before least ≤ now

-- a read came to the end: it gave nothing to a buffer that had room
abbrev pub CameToEnd : {E : Type 0} → Result ℕ E → List ℕ → Type 0
CameToEnd result buffer = IsOkAnd result (λ count. (count ≡ 0) × (0 < length buffer))

-- a write took none of a piece that had some
abbrev pub TookNone : {E : Type 0} → Result ℕ E → List ℕ → Type 0
TookNone result piece = IsOkAnd result (λ count. (count ≡ 0) × (0 < length piece))

-- what cuts a text short: its sink failed, or took none of a piece that had some
abbrev pub CutsShort : (faults faults' zero_writes zero_writes' : ℕ) → Type 0
CutsShort faults faults' zero_writes zero_writes' = Rose faults faults' ⊎ Rose zero_writes zero_writes'
