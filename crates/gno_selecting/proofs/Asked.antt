-- The package that asks for a name.
use Rattle.std.proofs.Common.{◌≡◌, sym, ap, ◌∙◌, ℕ, List, [], Bool, true, false, if◌then◌else◌}
use Rattle.gno_terms.specs.Exported.{is_exported}
use Rattle.gno_typing.specs.Selectors.{asked}

pub asked_by_each : (path name : List ℕ) → is_exported name ≡ true → [] ≡ asked path name
asked_by_each path name e = ap (λ (b : Bool). if b then [] else path) (sym e)

pub asked_by_own : (path name : List ℕ) → is_exported name ≡ false → path ≡ asked path name
asked_by_own path name e = ap (λ (b : Bool). if b then [] else path) (sym e)
