-- A definition that is taken back, and that no type has two.
use Rattle.std.proofs.Common.{◌≡◌, refl, sym, ap, ◌∙◌, subst, ℕ, ◌<◌, List, [], length, Option, Some, None, rules, arith}
use Rattle.std.specs.Prelude.{slice_get, slice_set}
use Rattle.std.specs.BTreeMap.{BTreeMap}
use Rattle.gno_terms.specs.declared.term.GoType.{GoType}
use Rattle.gno_terms.specs.declared.term.TypeRef.{TypeRef}
use Rattle.gno_terms.specs.declared.term.TermOf.{TermOf}
use Rattle.gno_terms.specs.declared.term.DefinitionOf.{DefinitionOf}
use Rattle.gno_terms.specs.Tables.{Below, Defines, type_at, type_or}
use Rattle.gno_type_rows.specs.RowTypes.{deeps, IsTable, IsDefinition, table_of, definition_with}
use Rattle.gno_type_rows.specs.declared.key.Key.{Key}
use Rattle.gno_type_rows.proofs.Defining.{row_of}
use Rattle.gno_type_rows.proofs.Pushed.{at_it}
use Rattle.gno_layouts.proofs.SetAt.{set_size, set_here, set_elsewhere, Same, here, elsewhere, where_is}
use Rattle.gno_type_rows.proofs.Told.{Beside, beside, told}

abbrev Definitions : Type 0
Definitions = List (Option (DefinitionOf TypeRef))

ref_eq : (a b : TypeRef) → a.0 ≡ b.0 → a ≡ b
ref_eq a b e = λ i. record { 0 = e i }

not_none : (d : DefinitionOf TypeRef) → Some None ≡ Some (Some d) → ⊥
not_none d e = search (rules, e)

inner : {d e : DefinitionOf TypeRef} → Some (Some d) ≡ Some (Some e) → d ≡ e
inner e = search (rules, e)

module _ (terms : List (TermOf TypeRef)) (m : BTreeMap Key ℕ) (ds : Definitions) (is : IsTable terms m ds) where
  abbrev types : List GoType
  types = deeps terms []

  abbrev made : DefinitionOf TypeRef → DefinitionOf GoType
  made = definition_with (type_at types)

  pub one_number : (a b : TypeRef) (s : GoType) → slice_get types a.0 ≡ Some s → slice_get types b.0 ≡ Some s → a ≡ b
  one_number a b s h k = ref_eq a b (is.rows.once a.0 b.0 s h k)

  -- the definitions of one type stand beside one row
  pub one_definition : (d e : DefinitionOf GoType) → Defines (table_of terms ds) d → Defines (table_of terms ds) e → d.of ≡ e.of → d ≡ e
  one_definition d e h k same =
      let b : Beside types ds d = beside types ds d h.0 h.1 in
      let c : Beside types ds e = beside types ds e k.0 k.1 in
      let place : b.number ≡ c.number = is.rows.once b.number c.number e.of (row_of terms m ds is d b ∙ ap Some same) (row_of terms m ds is e c) in
      let by : b.by ≡ c.by = inner (sym b.there ∙ ap (slice_get ds) place ∙ c.there) in
      sym b.is ∙ ap made by ∙ c.is

  pub defined_met : (d : DefinitionOf GoType) → Defines (table_of terms ds) d → (t : TypeRef) × (slice_get types t.0 ≡ Some d.of)
  defined_met d h =
      let b : Beside types ds d = beside types ds d h.0 h.1 in
      (record { 0 = b.number }, row_of terms m ds is d b)

  module _ (t : TypeRef) (at : Below (length types) t) where
    abbrev less : Definitions
    less = slice_set ds t.0 None

    within : t.0 < length ds
    within = let z = is.rows.size in let y = is.definitions.size in omega (arith, at)

    each_by : (n : ℕ) (e : DefinitionOf TypeRef) → slice_get less n ≡ Some (Some e) → Same n t.0 → IsDefinition terms n e
    each_by n e h (here k) = absurd (not_none e (sym (set_here ds t.0 None within) ∙ ap (slice_get less) (sym k) ∙ h))
    each_by n e h (elsewhere f) = is.definitions.each n e (sym (set_elsewhere ds t.0 None n f) ∙ h)

    pub retracted_table : IsTable terms m less
    retracted_table = record {
      rows = is.rows;
      numbered = is.numbered;
      definitions = record { size = set_size ds t.0 None ∙ is.definitions.size; each = λ n e h. each_by n e h (where_is n t.0) };
    }

    own_row : (d : DefinitionOf GoType) (b : Beside types ds d) → d.of ≡ type_at types t → b.number ≡ t.0
    own_row d b e = is.rows.once b.number t.0 d.of (row_of terms m ds is d b) (at_it types t at ∙ ap Some (sym e))

    forth_by : (d : DefinitionOf GoType) (b : Beside types less d) → Same b.number t.0 → Defines (table_of terms ds) d × (d.of ≡ type_at types t → ⊥)
    forth_by d b (here k) = absurd (not_none b.by (sym (set_here ds t.0 None within) ∙ ap (slice_get less) (sym k) ∙ b.there))
    forth_by d b (elsewhere f) =
        let there : slice_get ds b.number ≡ Some (Some b.by) = sym (set_elsewhere ds t.0 None b.number f) ∙ b.there in
        (subst (Defines (table_of terms ds)) b.is (told types ds b.number b.by there), λ e. f (own_row d (record { number = b.number; by = b.by; there = there; is = b.is }) e))

    pub retracted_forth : (d : DefinitionOf GoType) → Defines (table_of terms less) d → Defines (table_of terms ds) d × (d.of ≡ type_at types t → ⊥)
    retracted_forth d h = let b : Beside types less d = beside types less d h.0 h.1 in forth_by d b (where_is b.number t.0)

    back_by : (d : DefinitionOf GoType) (b : Beside types ds d) → (d.of ≡ type_at types t → ⊥) → Same b.number t.0 → Defines (table_of terms less) d
    back_by d b f (here k) = absurd (f (ap type_or (sym (row_of terms m ds is d b) ∙ ap (slice_get types) k ∙ at_it types t at)))
    back_by d b f (elsewhere g) = subst (Defines (table_of terms less)) b.is (told types less b.number b.by (set_elsewhere ds t.0 None b.number g ∙ b.there))

    pub retracted_back : (d : DefinitionOf GoType) → Defines (table_of terms ds) d × (d.of ≡ type_at types t → ⊥) → Defines (table_of terms less) d
    retracted_back d h = let b : Beside types ds d = beside types ds d h.0.0 h.0.1 in back_by d b h.1 (where_is b.number t.0)
