use Rattle.std.proofs.Common.{◌≡◌, refl, sym, ap, ◌∙◌, subst, List, Option, Some, None, length, arith}
use Rattle.std.specs.Prelude.{slice_get, slice_set}
use Rattle.gno_layouts.specs.Layouts.{kept, stands}
use Rattle.gno_layouts.proofs.SetAt.{set_size}
use Rattle.gno_terms.specs.declared.term.DefinitionOf.{DefinitionOf}
use Rattle.gno_terms.specs.declared.term.TypeRef.{TypeRef}
use Rattle.gno_terms.specs.Tables.{Table, Below, Defines, type_at}
use Rattle.gno_type_rows.proofs.Laying.{laid_retract}
use Rattle.gno_type_rows.proofs.Retracting.{retracted_table, retracted_forth, retracted_back}
use Rattle.gno_type_rows.proofs.rows.Rows.retract.Goals as goal

pub keep-requires : goal.keep-requires
keep-requires c =
    let counted = c.self.invariant.table.definitions.size in
    let laid = c.self.invariant.laid.size in
    let value = ap length c.deref.ensures.value in
    let set = set_size c.self.inside.definitions.items c.args.t.0 None in
    omega (arith, counted, laid, value, set)

pub invariant_of-self : goal.invariant_of-self
invariant_of-self c = record {
  table = retracted_table c.self.inside.terms.items c.self.inside.numbers c.self.inside.definitions.items c.self.invariant.table c.args.t
      (subst (λ (v : Table). Below (length v.types) c.args.t) (sym c.self.view_is) c.requires);
  laid = laid_retract c.self.inside.terms.items c.self.inside.definitions.items (slice_set c.self.inside.definitions.items c.args.t.0 None) c.args.t.0 c.self.inside.layouts c.keep.new.self c.self.invariant.laid c.self.invariant.table.definitions.size c.keep.ensures.size refl
      (λ n row h. c.keep.ensures.each n row h ∙ ap (λ (l : List (Option (DefinitionOf TypeRef))). Some (kept row (stands (slice_get l n)))) c.deref.ensures.value);
}

pub returns-clause-definitions : goal.returns-clause-definitions
returns-clause-definitions c d =
    let below = subst (λ (v : Table). Below (length v.types) c.args.t) (sym c.self.view_is) c.requires in (
      λ h. subst (λ (v : Table). Defines v d × (d.of ≡ type_at v.types c.args.t → ⊥)) c.self.view_is
          (retracted_forth c.self.inside.terms.items c.self.inside.numbers c.self.inside.definitions.items c.self.invariant.table c.args.t below d h),
      λ h. retracted_back c.self.inside.terms.items c.self.inside.numbers c.self.inside.definitions.items c.self.invariant.table c.args.t below d
          (subst (λ (v : Table). Defines v d × (d.of ≡ type_at v.types c.args.t → ⊥)) (sym c.self.view_is) h),
    )
