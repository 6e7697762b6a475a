-- What a function that reads a part of a tree answers.
use Rattle.std.specs.Prelude.{◌≡◌, Option, Some, None, Result, Ok, Err}
use Rattle.gno_first.specs.declared.fault.FirstFault.{FirstFault}
use Rattle.gno_first.specs.declared.fault.FirstFault.TheVariants.{NotFirst, NoMemory}

abbrev pub Fails : {A : Type 0} → Option A → FirstFault → Type 0
Fails found NotFirst = found ≡ None
Fails found NoMemory = Unit {0}

-- it gives what is found, or fails where nothing is; want of memory says nothing
abbrev pub Gives : {A : Type 0} → Option A → Result A FirstFault → Type 0
Gives found (Ok value) = found ≡ Some value
Gives found (Err fault) = Fails found fault
