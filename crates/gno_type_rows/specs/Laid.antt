-- The rows of a table of types, as rows of layouts.
use Rattle.std.specs.Prelude.{ℕ, ◌≡◌, List, map, length, Option, Some, None, slice_get}
use Rattle.std.specs.BTreeMap.{BTreeMap}
use Rattle.gno_layouts.specs.declared.row.Row.{Row}
use Rattle.gno_layouts.specs.declared.row.Row.TheVariants as r
use Rattle.gno_terms.specs.declared.term.DefinitionOf.{DefinitionOf}
use Rattle.gno_terms.specs.declared.term.TermOf.{TermOf}
use Rattle.gno_terms.specs.declared.term.TermOf.TheVariants as t
use Rattle.gno_terms.specs.declared.term.TypeRef.{TypeRef}
use Rattle.gno_terms.specs.Terms.{field_of}
use Rattle.gno_type_rows.specs.declared.key.Key.{Key}
use Rattle.gno_type_rows.specs.Holding.{compares}
use Rattle.gno_type_rows.specs.Keys.{refs}
use Rattle.gno_type_rows.specs.RowTypes.{IsTable}

-- a term with the definition beside it
abbrev pub row_of : TermOf TypeRef → Option (DefinitionOf TypeRef) → Row
row_of (t.Array n a) d = r.Array n a.0
row_of (t.Struct fs) d = r.Struct (refs (map field_of fs))
row_of (t.Defined path name local) None = r.Defined None
row_of (t.Defined path name local) (Some d) = r.Defined (Some d.underlying.0)
row_of x d = r.Single (compares x)

pub record AreLaid (terms : List (TermOf TypeRef)) (ds : List (Option (DefinitionOf TypeRef))) (rows : List Row) : Type 0 where
  pub size : length rows ≡ length terms
  pub each : (n : ℕ) (x : TermOf TypeRef) (d : Option (DefinitionOf TypeRef)) → slice_get terms n ≡ Some x → slice_get ds n ≡ Some d → slice_get rows n ≡ Some (row_of x d)

-- a table, and the rows of its layouts
pub record IsLaidOut (terms : List (TermOf TypeRef)) (numbers : BTreeMap Key ℕ) (ds : List (Option (DefinitionOf TypeRef))) (rows : List Row) : Type 0 where
  pub table : IsTable terms numbers ds
  pub laid : AreLaid terms ds rows
