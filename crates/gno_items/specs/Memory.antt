-- The packages that are held, as a list in order of addition.
use Rattle.std.specs.Prelude.{ℕ, List, [], ◌∷◌, ◌++◌, Option, Some, None, if◌then◌else◌, map}
use Rattle.std.specs.Str.{bytes_eq}
use Rattle.gno_base.specs.Number.{Number}
use Rattle.gno_items.specs.declared.memory.Package.{Package}

-- the paths of the packages
abbrev pub paths : List Package → List (List ℕ)
paths packages = map (λ (p : Package). p.path) packages

-- the package of a path
abbrev pub package_of : List Package → List ℕ → Option Package
package_of [] path = None
package_of (p ∷ ps) path = if bytes_eq p.path path then Some p else package_of ps path

-- the packages, where that of a path has other values
abbrev pub with_values : List Package → List ℕ → List Number → List Package
with_values [] path values = []
with_values (p ∷ ps) path values = if bytes_eq p.path path then record p { values = values } ∷ ps else p ∷ with_values ps path values

-- the packages, and one more where there is one
abbrev pub with_package : List Package → Option Package → List Package
with_package ps None = ps
with_package ps (Some p) = ps ++ p ∷ []

-- the packages, with other values in that of a path where there are any
abbrev pub with_new_values : List Package → List ℕ → Option (List Number) → List Package
with_new_values ps path None = ps
with_new_values ps path (Some values) = with_values ps path values
