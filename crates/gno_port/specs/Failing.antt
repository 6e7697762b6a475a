-- Which calls of a form in memory are to fail.
use Rattle.std.specs.Prelude.{ℕ, ◌≡◌, ◌+◌, ◌-◌, ◌^◌, min, List}
use Rattle.std.specs.List.{Contains}
use Rattle.gno_port.specs.declared.failing.FailAt.{FailAt}
use Rattle.gno_port.specs.declared.failing.Called.{Called}

-- the number of the call after so many, as it is kept in 64 bits
abbrev pub next_number : ℕ → ℕ
next_number before = min (before + 1) (2 ^ 64 - 1)

-- the call of that number is to fail
abbrev pub IsToFail : List FailAt → Called → ℕ → Type 0
IsToFail fails call number = Contains fails (record { call = call; number = number })
