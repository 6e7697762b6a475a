use Rattle.std.proofs.Common.{◌≡◌, refl, ap, sym, subst, ◌∙◌, true≢false, Option, Some, None, Bor}
use Rattle.std.specs.Prelude.{IfSome, IsNone, IsTrue, ◌↔◌}
use Rattle.std.specs.Option.{is_some}
use Rattle.gno_terms.specs.declared.term.GoType.{GoType}
use Rattle.gno_terms.specs.declared.term.TypeRef.{TypeRef}
use Rattle.gno_terms.specs.declared.term.DefinitionOf.{DefinitionOf}
use Rattle.gno_terms.specs.Tables.{Table, Is, Defines, type_at, type_or}
use Rattle.gno_type_rows.specs.RowTypes.{definition_with}
use Rattle.gno_type_table.proofs.table.TypeTable.is_defined.Goals as goal

module _ (table : Table) (r : TypeRef) (s : GoType) (is : Is table r s) where
  abbrev Defined : Type 0
  Defined = (d : DefinitionOf GoType) × Defines table d × (d.of ≡ s)

  told : (o : Option (Bor (DefinitionOf TypeRef))) → IfSome o (λ d. Defines table (definition_with (type_at table.types) d.now)) → IfSome o (λ d. d.now.of ≡ r)
      → (IsNone o → (d : DefinitionOf GoType) → Defines table d → Is table r d.of → ⊥) → IsTrue (is_some o) ↔ Defined
  told (Some d) some own none = (λ h. (definition_with (type_at table.types) d.now, some, ap (type_at table.types) own ∙ ap type_or is), λ h. refl)
  told None some own none = (λ h. absurd (true≢false (sym h)), λ h. absurd (none refl h.0 h.1 (subst (Is table r) (sym h.2) is)))

pub returns : goal.returns
returns c s is =
    let e = c.self.view_is in
    let o = c.definition.result in
    let same = told c.args.self.now c.args.t s is o
    (subst (λ (v : Table). IfSome o (λ d. Defines v (definition_with (type_at v.types) d.now))) e c.definition.ensures.some)
    c.definition.ensures.own
    (subst (λ (v : Table). IsNone o → (d : DefinitionOf GoType) → Defines v d → Is v c.args.t d.of → ⊥) e c.definition.ensures.none) in
    (λ h. same.0 (sym c.is_some.ensures ∙ h), λ h. c.is_some.ensures ∙ same.1 h)
