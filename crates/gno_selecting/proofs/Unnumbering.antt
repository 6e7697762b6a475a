-- What a table says by its definitions, the rules say of the definitions alone.
use Rattle.std.proofs.Common.{◌≡◌, refl, List, ℕ}
use Rattle.gno_embedding.specs.Embedding.{IsComplete, IsKnown}
use Rattle.gno_promotion.specs.MethodSets.{field, method}
use Rattle.gno_selectors.specs.Selectors.{IsAmbiguous, path_of}
use Rattle.gno_terms.specs.declared.term.GoType.{GoType}
use Rattle.gno_terms.specs.Tables.{Table, Underlying}
use Rattle.gno_type_classes.proofs.SameDefinitions.{ambiguous_same, complete_same, known_same, passes_same, selects_same, underlying_same}
use Rattle.gno_type_classes.specs.Unnumbered.{unnumbered}
use Rattle.gno_typing.specs.Selectors.{FieldFound, IsFieldFound, IsMethodFound, MethodFound}

module _ (a b : Table) (same : a.definitions ≡ b.definitions) (s : GoType) (name «package» : List ℕ) where
  field_same : (x : FieldFound) → IsFieldFound a s name «package» x → IsFieldFound b s name «package» x
  field_same x h = record {
    of = h.of;
    passes = passes_same a b same s x.way h.of h.passes;
    place = h.place;
    selects = selects_same a b same s name «package» (path_of x.way) h.place (field x.field) h.selects;
    underlying = h.underlying;
    by = underlying_same a b same h.of h.underlying h.by;
    at = h.at;
  }

  method_same : (x : MethodFound) → IsMethodFound a s name «package» x → IsMethodFound b s name «package» x
  method_same x h = record {
    passes = passes_same a b same s x.way x.of h.passes;
    place = h.place;
    selects = selects_same a b same s name «package» (path_of x.way) h.place (method x.method) h.selects;
  }

module _ (table : Table) (s : GoType) where
  pub underlying_numbered : (u : GoType) → Underlying (unnumbered table) s u → Underlying table s u
  underlying_numbered u h = underlying_same (unnumbered table) table refl s u h

  pub known_unnumbered : IsKnown table s → IsKnown (unnumbered table) s
  known_unnumbered h = known_same table (unnumbered table) refl s h

  pub complete_unnumbered : IsComplete table s → IsComplete (unnumbered table) s
  complete_unnumbered h = complete_same table (unnumbered table) refl s h

  pub complete_numbered : IsComplete (unnumbered table) s → IsComplete table s
  complete_numbered h = complete_same (unnumbered table) table refl s h

  module _ (name «package» : List ℕ) where
    pub ambiguous_unnumbered : IsAmbiguous table s name «package» → IsAmbiguous (unnumbered table) s name «package»
    ambiguous_unnumbered h = ambiguous_same table (unnumbered table) refl s name «package» h

    pub ambiguous_numbered : IsAmbiguous (unnumbered table) s name «package» → IsAmbiguous table s name «package»
    ambiguous_numbered h = ambiguous_same (unnumbered table) table refl s name «package» h

    pub field_unnumbered : (x : FieldFound) → IsFieldFound table s name «package» x → IsFieldFound (unnumbered table) s name «package» x
    field_unnumbered x h = field_same table (unnumbered table) refl s name «package» x h

    pub field_numbered : (x : FieldFound) → IsFieldFound (unnumbered table) s name «package» x → IsFieldFound table s name «package» x
    field_numbered x h = field_same (unnumbered table) table refl s name «package» x h

    pub method_unnumbered : (x : MethodFound) → IsMethodFound table s name «package» x → IsMethodFound (unnumbered table) s name «package» x
    method_unnumbered x h = method_same table (unnumbered table) refl s name «package» x h

    pub method_numbered : (x : MethodFound) → IsMethodFound (unnumbered table) s name «package» x → IsMethodFound table s name «package» x
    method_numbered x h = method_same (unnumbered table) table refl s name «package» x h
