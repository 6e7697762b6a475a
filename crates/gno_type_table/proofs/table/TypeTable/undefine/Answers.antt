use Rattle.std.proofs.Common.{◌≡◌, sym, ap, subst, Some, length, arith}
use Rattle.std.specs.Prelude.{◌↔◌, List, slice_get}
use Rattle.gno_terms.specs.declared.term.GoType.{GoType}
use Rattle.gno_terms.specs.Tables.{Table, Defines, IsOfPath, error_interface}
use Rattle.gno_type_table.specs.Kept.{Was}
use Rattle.gno_type_table.proofs.Putting.{kept_at}
use Rattle.gno_type_table.proofs.Steps.{back_was, whole_written}
use Rattle.gno_type_table.proofs.table.TypeTable.undefine.Goals as goal

pub forget-requires : goal.forget-requires
forget-requires c =
    kept_at (Was c.undefine.new.self) (length c.undefine.new.self.types) c.deref_mut.ensures.value c.deref_mut-2.ensures.value
    (back_was c.undefine.new.self c.self.inside.rows c.self.inside.searches.items c.self.inside.awaited.items (sym c.undefine.ensures.types) (λ d h. ((c.undefine.ensures.definitions d).0 h).0) c.have_one_definition.ensures c.self.invariant.kept)

pub invariant_of-self : goal.invariant_of-self
invariant_of-self c =
    let a = c.self.inside.searches.ok.0 in
    let b = c.self.inside.awaited.ok.0 in
    let d = c.forget.auto.searches in
    let e = c.forget.auto.awaited in
    let f = ap length c.deref_mut.ensures.value in
    let g = ap length c.deref_mut-2.ensures.value in
    whole_written c.undefine.new.self c.self.inside.error c.self.inside.searches.len c.self.inside.awaited.len c.forget.new.searches _ c.forget.new.awaited _
    (subst (λ (l : List GoType). slice_get l c.self.inside.error.0 ≡ Some error_interface) (sym c.undefine.ensures.types) c.self.invariant.error_is) c.forget.ensures (omega (arith, a, d, f)) (omega (arith, b, e, g))

pub returns-clause-definitions : goal.returns-clause-definitions
returns-clause-definitions c d = subst (λ (v : Table). Defines c.undefine.new.self d ↔ (Defines v d × (IsOfPath c.args.path.now d.of → ⊥))) c.self.view_is (c.undefine.ensures.definitions d)
