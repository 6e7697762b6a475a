-- A table that has the place of each name of a list.
use Rattle.std.specs.Prelude.{◌≡◌, ℕ, List, Vec}
use Rattle.std.specs.BTreeMap.{BTreeMap, get_by}
use Rattle.std.specs.Cmp.Lexicographic.{slice_cmp}
use Rattle.std.specs.Ordering.{nat_cmp}
use Rattle.std.specs.declared.alloc.Global.{Global}
use Rattle.gno_first.specs.Places.{place}

abbrev pub HasPlaces : BTreeMap (Vec ℕ Global) ℕ → List (List ℕ) → Type 0
HasPlaces table names = (name : List ℕ) → get_by (λ key. slice_cmp nat_cmp name key.items) table ≡ place name names
