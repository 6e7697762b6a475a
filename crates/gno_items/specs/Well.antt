-- What holds of all packages that are held.
use Rattle.std.specs.Prelude.{◌≡◌, ℕ, List, [], ◌∷◌, length, Some, None, Bool, true, nat_lt, IfSome, IsSome}
use Rattle.std.specs.List.{list_all}
use Rattle.gno_base.specs.Number.{Number}
use Rattle.gno_base.specs.Paths.{kind_of}
use Rattle.gno_base.specs.declared.path.PathKind.TheVariants.{Realm}
use Rattle.gno_first.specs.Lawful.{IsLawful}
use Rattle.gno_reading.specs.Readings.{IsReading}
use Rattle.gno_reading.specs.declared.reading.Reading.TheVariants.{First}
use Rattle.gno_machine.specs.Ints.{AreInts}
use Rattle.gno_items.specs.declared.memory.Package.{Package}
use Rattle.gno_items.specs.declared.adding.Added.{Added}
use Rattle.gno_items.specs.declared.calling.Called.{Called}
use Rattle.gno_items.specs.Memory.{package_of}

-- a row's parts end at a byte 0, so names hold none
abbrev pub has_no_zero : List ℕ → Bool
has_no_zero bytes = list_all (λ b. nat_lt 0 b) bytes

-- a realm, whose tree is that of its text, with one int for each variable
pub record IsWellPackage (p : Package) : Type 0 where
  pub realm : kind_of p.path ≡ Some Realm
  pub named : has_no_zero p.source.name ≡ true
  pub reads : IsReading p.source.text (First p.file)
  pub lawful : IsLawful p.file
  pub count : length p.values ≡ length p.file.variables
  pub ints : AreInts p.values

-- each package is well, and no two have one path
abbrev pub IsWell : List Package → Type 0
IsWell [] = Unit {0}
IsWell (p ∷ ps) = IsWellPackage p × (package_of ps p.path ≡ None) × IsWell ps

-- a package that an addition gives can be held beside the others
abbrev pub CanKeep : List Package → Added → Type 0
CanKeep memory added = IfSome added.held (λ p. IsWellPackage p × (package_of memory p.path ≡ None))

-- the values can be those of the package
abbrev pub CanHave : Package → List Number → Type 0
CanHave p values = (length values ≡ length p.file.variables) × AreInts values

-- values that a call gives can be those of the package of the path
abbrev pub CanStore : List Package → List ℕ → Called → Type 0
CanStore memory path called = IfSome called.values (λ values. IfSome (package_of memory path) (λ p. CanHave p values) × IsSome (package_of memory path))
