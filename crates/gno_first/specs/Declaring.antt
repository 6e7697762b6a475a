-- Names that are declared beside others.
use Rattle.std.specs.Prelude.{ℕ, List, [], ◌∷◌, ◌++◌, Bool, not, ◌&&◌, if◌then◌else◌, Option, Some, None}
use Rattle.gno_tree.specs.declared.file.TopLevel.{TopLevel}
use Rattle.gno_tree.specs.declared.file.TopLevel.TheVariants.{Declaration, Function}
use Rattle.gno_first.specs.Form.{are_names}
use Rattle.gno_first.specs.Names.{is_among, is_name}

-- whether a name may be declared beside those that are
abbrev pub is_new : List (List ℕ) → List ℕ → Bool
is_new names name = is_name name && not (is_among names name)

-- the names with those behind them, where they may stand together
unfoldable pub with_names : List (List ℕ) → Option (List (List ℕ)) → Option (List (List ℕ))
with_names names None = None
with_names names (Some more) = if are_names (names ++ more) then Some (names ++ more) else None

abbrev pub alone : List ℕ → List (List ℕ)
alone name = name ∷ []

-- the name of a function
abbrev pub name_in : TopLevel → Option (List ℕ)
name_in (Function f) = Some f.name.text
name_in (Declaration d) = None
