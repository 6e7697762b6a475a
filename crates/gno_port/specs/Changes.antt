-- Changes that are gathered by their keys, as the list of them in the order of their keys.
use Rattle.std.specs.Prelude.{ℕ, List, map, Option}
use Rattle.std.specs.declared.vec.Vec.{Vec}
use Rattle.std.specs.declared.alloc.Global.{Global}
use Rattle.gno_port.specs.declared.keeper.Change.{Change}

-- each key's value, as a change
abbrev pub changes_of : List (Vec ℕ Global × Option (List ℕ)) → List Change
changes_of entries = map (λ entry. record { key = entry.0.items; value = entry.1 }) entries
