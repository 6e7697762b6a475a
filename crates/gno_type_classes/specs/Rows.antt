-- Rows of a table of types.
use Rattle.std.specs.Prelude.{◌≡◌}
use Rattle.gno_embedding.specs.Embedding.{IsKnown}
use Rattle.gno_terms.specs.declared.term.GoType.{GoType}
use Rattle.gno_terms.specs.declared.term.TermOf.{TermOf}
use Rattle.gno_terms.specs.declared.term.TypeRef.{TypeRef}
use Rattle.gno_terms.specs.Tables.{Table, Underlying, type_at}
use Rattle.gno_terms.specs.Terms.{term_of, term_with}
use Rattle.gno_type_classes.specs.Unnumbered.{unnumbered}

-- the row of the underlying type
pub record IsUnder (table : Table) (s : GoType) (row : TermOf TypeRef) : Type 0 where
  pub known : IsKnown (unnumbered table) s
  pub is : (u : GoType) → Underlying (unnumbered table) s u → term_of u ≡ term_with (type_at table.types) row
