use Rattle.std.proofs.Common.{◌≡◌, sym, ap, ◌∙◌, subst, ℕ, List, Option, Some, length, arith}
use Rattle.std.specs.Prelude.{slice_get}
use Rattle.gno_layouts.specs.Layouts.{kept, stands}
use Rattle.gno_terms.specs.declared.term.DefinitionOf.{DefinitionOf}
use Rattle.gno_terms.specs.declared.term.TypeRef.{TypeRef}
use Rattle.gno_terms.specs.declared.term.TermOf.{TermOf}
use Rattle.gno_terms.specs.Tables.{Table, Defines, IsOfPath}
use Rattle.gno_type_rows.specs.RowTypes.{unless_of_path}
use Rattle.gno_type_rows.proofs.Defining.{forgotten_table, forgotten_forth, forgotten_back}
use Rattle.gno_type_rows.proofs.Laying.{laid_forget}
use Rattle.gno_type_rows.proofs.rows.Rows.undefine.Goals as goal

each : (c : goal.After-keep) (n : ℕ) (x : TermOf TypeRef) → slice_get c.self.inside.terms.items n ≡ Some x → slice_get c.forget.new.definitions.items n ≡ unless_of_path c.args.path.now x (slice_get c.self.inside.definitions.items n)
each c n x h = c.forget.ensures.each n x (ap (λ (l : List (TermOf TypeRef)). slice_get l n) c.deref.ensures.value ∙ h)

pub keep-requires : goal.keep-requires
keep-requires c =
    let size = c.forget.ensures.size in
    let counted = c.self.invariant.table.definitions.size in
    let laid = c.self.invariant.laid.size in
    let value = ap length c.deref-2.ensures.value in
    omega (arith, size, counted, laid, value)

pub invariant_of-self : goal.invariant_of-self
invariant_of-self c = record {
  table = forgotten_table c.self.inside.terms.items c.self.inside.numbers c.self.inside.definitions.items c.self.invariant.table c.args.path.now c.forget.new.definitions.items c.forget.ensures.size (each c);
  laid = laid_forget c.args.path.now c.self.inside.terms.items c.self.inside.definitions.items c.forget.new.definitions.items c.self.inside.layouts c.keep.new.self c.self.invariant.laid c.self.invariant.table.definitions.size c.keep.ensures.size (each c)
      (λ n row h. c.keep.ensures.each n row h ∙ ap (λ (l : List (Option (DefinitionOf TypeRef))). Some (kept row (stands (slice_get l n)))) c.deref-2.ensures.value);
}

pub returns-clause-definitions : goal.returns-clause-definitions
returns-clause-definitions c d = (
  λ h. subst (λ (v : Table). Defines v d × (IsOfPath c.args.path.now d.of → ⊥)) c.self.view_is
      (forgotten_forth c.self.inside.terms.items c.self.inside.numbers c.self.inside.definitions.items c.self.invariant.table c.args.path.now c.forget.new.definitions.items c.forget.ensures.size (each c) d h),
  λ h. forgotten_back c.self.inside.terms.items c.self.inside.numbers c.self.inside.definitions.items c.self.invariant.table c.args.path.now c.forget.new.definitions.items c.forget.ensures.size (each c) d
      (subst (λ (v : Table). Defines v d × (IsOfPath c.args.path.now d.of → ⊥)) (sym c.self.view_is) h),
)
