-- Exported names are UTF-8.
use Rattle.std.proofs.Common.{◌≡◌, refl, ℕ, List, Bool, true, false, ◌&&◌}
use Rattle.std.specs.Str.{IsUtf8, is_utf8}
use Rattle.std.proofs.lemmas.Str.{IsUtf8-from_is_utf8, is_utf8-from_IsUtf8}
use Rattle.gno_terms.specs.Exported.{begins_with_capital, is_exported}

pub exported_is : (name : List ℕ) → IsUtf8 name → begins_with_capital name ≡ is_exported name
unfolding is_exported
exported_is name u = rw (is_utf8-from_IsUtf8 name u) refl

by_test : (name : List ℕ) (b : Bool) → is_utf8 name ≡ b → (IsUtf8 name → ⊥) → false ≡ (b && begins_with_capital name)
by_test name false e f = refl
by_test name true e f = absurd (f (IsUtf8-from_is_utf8 name e))

pub no_name : (name : List ℕ) → (IsUtf8 name → ⊥) → false ≡ is_exported name
unfolding is_exported
no_name name f = by_test name (is_utf8 name) refl f
