-- What the rows of a table stand for. Each row's parts stand before it, so each type is a finite term.
use Rattle.std.specs.Prelude.{ℕ, ◌≡◌, List, [], ◌∷◌, ◌++◌, map, length, Option, Some, None, slice_get, Bool, true, false, if◌then◌else◌}
use Rattle.std.specs.Str.{bytes_eq}
use Rattle.std.specs.BTreeMap.{BTreeMap, get}
use Rattle.gno_terms.specs.declared.term.GoType.{GoType}
use Rattle.gno_terms.specs.declared.term.TypeRef.{TypeRef}
use Rattle.gno_terms.specs.declared.term.TermOf.{TermOf}
use Rattle.gno_terms.specs.declared.term.TermOf.TheVariants as t
use Rattle.gno_terms.specs.declared.term.DefinitionOf.{DefinitionOf}
use Rattle.gno_terms.specs.Lawful.{Each, LawfulType}
use Rattle.gno_terms.specs.Normal.{normal}
use Rattle.gno_terms.specs.Tables.{Table, Below, PartsBelow, type_at, deep}
use Rattle.gno_terms.specs.Terms.{method_of, method_with}
use Rattle.gno_type_rows.specs.Keys.{by_key, key_of}
use Rattle.gno_type_rows.specs.declared.key.Key.{Key}

-- the types of some rows, behind those of the rows before them
unfoldable pub deeps : List (TermOf TypeRef) → List GoType → List GoType
deeps [] types = types
deeps (x ∷ xs) types = deeps xs (types ++ deep types x ∷ [])

-- a type that the table may hold
pub record IsGood (s : GoType) : Type 0 where
  pub lawful : LawfulType s
  pub normal : normal s ≡ s

-- each row stands for its type, whose parts stand before it, and each type stands once
pub record AreRows (terms : List (TermOf TypeRef)) (types : List GoType) : Type 0 where
  pub size : length types ≡ length terms
  pub rows : (n : ℕ) (x : TermOf TypeRef) → slice_get terms n ≡ Some x → slice_get types n ≡ Some (deep types x)
  pub below : (n : ℕ) (x : TermOf TypeRef) → slice_get terms n ≡ Some x → PartsBelow (length types) x
  pub once : (m n : ℕ) (s : GoType) → slice_get types m ≡ Some s → slice_get types n ≡ Some s → m ≡ n
  pub good : (n : ℕ) (s : GoType) → slice_get types n ≡ Some s → IsGood s

-- the number of each row is found by its key
pub record HasNumbers (numbers : BTreeMap Key ℕ) (terms : List (TermOf TypeRef)) : Type 0 where
  pub found : (x : TermOf TypeRef) (n : ℕ) → get by_key numbers (key_of x) ≡ Some n → slice_get terms n ≡ Some x
  pub each : (x : TermOf TypeRef) (n : ℕ) → slice_get terms n ≡ Some x → get by_key numbers (key_of x) ≡ Some n

abbrev pub definition_with : {A B : Type 0} → (A → B) → DefinitionOf A → DefinitionOf B
definition_with f d = record { of = f d.of; underlying = f d.underlying; methods = map (method_with f) d.methods }

-- the definitions that stand beside rows
abbrev pub definitions_in : List GoType → List (Option (DefinitionOf TypeRef)) → List (DefinitionOf GoType)
definitions_in types [] = []
definitions_in types (None ∷ ds) = definitions_in types ds
definitions_in types (Some d ∷ ds) = definition_with (type_at types) d ∷ definitions_in types ds

abbrev pub is_defined : {A : Type 0} → TermOf A → Bool
is_defined (t.Defined path name local) = true
is_defined _ = false

-- the definition of row n, which is that of a defined type
pub record IsDefinition (terms : List (TermOf TypeRef)) (n : ℕ) (d : DefinitionOf TypeRef) : Type 0 where
  pub own : d.of.0 ≡ n
  pub underlying : Below (length terms) d.underlying
  pub methods : Each (Below (length terms)) (map method_of d.methods)
  pub defined : (x : TermOf TypeRef) → slice_get terms n ≡ Some x → is_defined x ≡ true

pub record AreDefinitions (terms : List (TermOf TypeRef)) (ds : List (Option (DefinitionOf TypeRef))) : Type 0 where
  pub size : length ds ≡ length terms
  pub each : (n : ℕ) (d : DefinitionOf TypeRef) → slice_get ds n ≡ Some (Some d) → IsDefinition terms n d

-- rows, with the numbers that they are found by and the definitions beside them
pub record IsTable (terms : List (TermOf TypeRef)) (numbers : BTreeMap Key ℕ) (ds : List (Option (DefinitionOf TypeRef))) : Type 0 where
  pub rows : AreRows terms (deeps terms [])
  pub numbered : HasNumbers numbers terms
  pub definitions : AreDefinitions terms ds

abbrev pub table_of : List (TermOf TypeRef) → List (Option (DefinitionOf TypeRef)) → Table
table_of terms ds = record { types = deeps terms []; definitions = definitions_in (deeps terms []) ds }

abbrev pub is_of_path : {A : Type 0} → List ℕ → TermOf A → Bool
is_of_path path (t.Defined own name local) = bytes_eq own path
is_of_path path _ = false

-- the definition beside a row, unless it is of the package
abbrev pub unless_of_path : {A B : Type 0} → List ℕ → TermOf A → Option (Option B) → Option (Option B)
unless_of_path path x d = if is_of_path path x then Some None else d
