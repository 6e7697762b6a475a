-- The place of a name in a list of names.
use Rattle.std.specs.Prelude.{ℕ, suc, List, [], ◌∷◌, if◌then◌else◌, Option, Some, None, option_map, bytes_eq}

abbrev pub place : List ℕ → List (List ℕ) → Option ℕ
place name [] = None
place name (other ∷ names) = if bytes_eq name other then Some 0 else option_map suc (place name names)
