-- The variables of the first form are of type `int`, each with a value of that type.
use Rattle.std.specs.Prelude.{◌≡◌, List, [], ◌∷◌}
use Rattle.gno_base.specs.declared.kind.Kind.TheVariants.{Int}
use Rattle.gno_base.specs.Number.{Number}
use Rattle.gno_base.specs.Range.{InRange}

abbrev pub IsInt : Number → Type 0
IsInt number = (number.kind ≡ Int) × InRange Int number.value

abbrev pub AreInts : List Number → Type 0
AreInts [] = Unit {0}
AreInts (value ∷ values) = IsInt value × AreInts values
