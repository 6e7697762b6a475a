use Rattle.std.proofs.Common.{◌≡◌, refl, sym, ap, ◌∙◌, subst, inl, length, List, map, Some, arith}
use Rattle.std.specs.Prelude.{◌⊎◌, ◌↔◌, slice_get}
use Rattle.gno_layouts.proofs.Written.{written}
use Rattle.gno_terms.specs.declared.term.GoType.{GoType}
use Rattle.gno_terms.specs.declared.term.DefinitionOf.{DefinitionOf}
use Rattle.gno_terms.specs.declared.term.MethodOf.{MethodOf}
use Rattle.gno_terms.specs.declared.term.TypeRef.{TypeRef}
use Rattle.gno_terms.specs.Lawful.{Each}
use Rattle.gno_terms.specs.Normal.{normal_method}
use Rattle.gno_terms.specs.Tables.{Table, Below, Defines, error_interface, type_at}
use Rattle.gno_terms.specs.Terms.{method_of}
use Rattle.gno_type_rows.specs.RowTypes.{definition_with}
use Rattle.gno_type_table.specs.Kept.{IsWhole, MayWait, Was}
use Rattle.gno_type_table.proofs.Putting.{kept_at}
use Rattle.gno_type_table.proofs.Steps.{normal_parts_of, defined_waits, back_was, on_err, retract_back, retract_extends, retract_forth, whole_written}
use Rattle.gno_type_table.proofs.table.TypeTable.define.Goals as goal

pub define-requires-clause-methods : goal.define-requires-clause-methods
define-requires-clause-methods c =
    subst (λ (ms : List (MethodOf TypeRef)). Each (Below (length c.self.inside.rows.types)) (map method_of ms)) (sym c.normal_packages-methods.ensures)
    (subst (λ (l : List TypeRef). Each (Below (length c.self.inside.rows.types)) l) (sym (normal_parts_of c.args.methods))
    (subst (λ (v : Table). Each (Below (length v.types)) (map method_of c.args.methods)) (sym c.self.view_is) c.requires.methods))

pub define-requires-clause-new : goal.define-requires-clause-new
define-requires-clause-new c = subst (λ (v : Table). (d : DefinitionOf GoType) → Defines v d → d.of ≡ type_at v.types c.args.defined → ⊥) (sym c.self.view_is) c.requires.new

pub wake-requires-clause-kept : goal.wake-requires-clause-kept
wake-requires-clause-kept c =
    kept_at (MayWait c.define.new.self c.args.defined) (length c.define.new.self.types) c.deref_mut.ensures.value c.deref_mut-2.ensures.value
    (defined_waits c.self.inside.rows c.define.new.self c.args.defined
    (definition_with (type_at c.self.inside.rows.types) (record { of = c.args.defined; underlying = c.args.underlying; methods = c.normal_packages-methods.result }))
    c.in_ok-define.ensures.types refl (λ d h. (c.in_ok-define.ensures.definitions d).0 h) (λ d h. (c.in_ok-define.ensures.definitions d).1 (inl h)) c.have_one_definition-2.ensures c.have_one_number.ensures
    (subst (λ (v : Table). Below (length v.types) c.args.defined) (sym c.self.view_is) c.requires.of)
    c.self.inside.searches.items c.self.inside.awaited.items c.self.invariant.kept)

pub forget-requires : goal.forget-requires
forget-requires c =
    let noted = definition_with (type_at c.self.inside.rows.types) (record { of = c.args.defined; underlying = c.args.underlying; methods = c.normal_packages-methods.result }) in
    let new = subst (λ (v : Table). (d : DefinitionOf GoType) → Defines v d → d.of ≡ type_at v.types c.args.defined → ⊥) (sym c.self.view_is) c.requires.new in
    let a = c.self.inside.searches.ok.0 in
    let b = c.self.inside.awaited.ok.0 in
    let d = c.wake.auto.searches in
    let e = c.wake.auto.awaited in
    let f = ap length c.deref_mut.ensures.value in
    let g = ap length c.deref_mut-2.ensures.value in
    kept_at (Was c.retract.new.self) (length c.retract.new.self.types)
    (c.deref_mut-in-Err.ensures.value ∙ written c.self.inside.searches.len c.wake.new.searches _ (omega (arith, a, d, f)))
    (c.deref_mut-in-Err-2.ensures.value ∙ written c.self.inside.awaited.len c.wake.new.awaited _ (omega (arith, b, e, g)))
    (c.wake.ensures.past c.retract.new.self (sym c.retract.ensures.types)
    (retract_extends c.self.inside.rows c.define.new.self c.retract.new.self c.args.defined noted c.in_ok-define.ensures.types c.retract.ensures.types refl c.in_ok-define.ensures.definitions c.retract.ensures.definitions new c.have_one_definition-2.ensures)
    (kept_at (Was c.retract.new.self) (length c.retract.new.self.types) c.deref_mut.ensures.value c.deref_mut-2.ensures.value
    (back_was c.retract.new.self c.self.inside.rows c.self.inside.searches.items c.self.inside.awaited.items (sym (c.retract.ensures.types ∙ c.in_ok-define.ensures.types))
    (retract_forth c.self.inside.rows c.define.new.self c.retract.new.self c.args.defined noted c.in_ok-define.ensures.types c.retract.ensures.types refl c.in_ok-define.ensures.definitions c.retract.ensures.definitions new)
    c.have_one_definition.ensures c.self.invariant.kept)))

pub returns-in-Ok-clause-definitions : goal.returns-in-Ok-clause-definitions
returns-in-Ok-clause-definitions c d =
    subst (λ (v : Table). Defines c.define.new.self d ↔ (Defines v d ⊎ (d ≡ definition_with (type_at v.types) (record { of = c.args.defined; underlying = c.args.underlying; methods = map normal_method c.args.methods })))) c.self.view_is
    (subst (λ (ms : List (MethodOf TypeRef)). Defines c.define.new.self d ↔ (Defines c.self.inside.rows d ⊎ (d ≡ definition_with (type_at c.self.inside.rows.types) (record { of = c.args.defined; underlying = c.args.underlying; methods = ms }))))
    c.normal_packages-methods.ensures (c.in_ok-define.ensures.definitions d))

pub returns-in-Err-clause-err : goal.returns-in-Err-clause-err
returns-in-Err-clause-err c d =
    let noted = definition_with (type_at c.self.inside.rows.types) (record { of = c.args.defined; underlying = c.args.underlying; methods = c.normal_packages-methods.result }) in
    let new = subst (λ (v : Table). (d : DefinitionOf GoType) → Defines v d → d.of ≡ type_at v.types c.args.defined → ⊥) (sym c.self.view_is) c.requires.new in
    subst (λ (v : Table). Defines c.retract.new.self d ↔ Defines v d) c.self.view_is (
      retract_forth c.self.inside.rows c.define.new.self c.retract.new.self c.args.defined noted c.in_ok-define.ensures.types c.retract.ensures.types refl c.in_ok-define.ensures.definitions c.retract.ensures.definitions new d,
      retract_back c.self.inside.rows c.define.new.self c.retract.new.self c.args.defined noted c.in_ok-define.ensures.types c.retract.ensures.types refl c.in_ok-define.ensures.definitions c.retract.ensures.definitions new d,
    )

pub returns-in_err-define-clause-err : goal.returns-in_err-define-clause-err
returns-in_err-define-clause-err c =
    on_err c.from_residual.result (λ d. subst (λ (v : Table). Defines c.define.new.self d ↔ Defines v d) (c.in_err-define.ensures.err ∙ c.self.view_is) (λ h. h, λ h. h))

pub returns-in-Ok-clause-types : goal.returns-in-Ok-clause-types
returns-in-Ok-clause-types c = c.in_ok-define.ensures.types ∙ ap (λ (v : Table). v.types) c.self.view_is

pub returns-in-Err-clause-types : goal.returns-in-Err-clause-types
returns-in-Err-clause-types c = c.retract.ensures.types ∙ c.in_ok-define.ensures.types ∙ ap (λ (v : Table). v.types) c.self.view_is

pub invariant_of-self : goal.invariant_of-self
invariant_of-self c = subst (λ (v : Table). IsWhole v c.self.inside.error c.self.inside.searches.items c.self.inside.awaited.items) (sym c.in_err-define.ensures.err) c.self.invariant

pub invariant_of-self-in-Ok : goal.invariant_of-self-in-Ok
invariant_of-self-in-Ok c =
    let a = c.self.inside.searches.ok.0 in
    let b = c.self.inside.awaited.ok.0 in
    let d = c.wake.auto.searches in
    let e = c.wake.auto.awaited in
    let f = ap length c.deref_mut.ensures.value in
    let g = ap length c.deref_mut-2.ensures.value in
    whole_written c.define.new.self c.self.inside.error c.self.inside.searches.len c.self.inside.awaited.len c.wake.new.searches _ c.wake.new.awaited _
    (subst (λ (l : List GoType). slice_get l c.self.inside.error.0 ≡ Some error_interface) (sym c.in_ok-define.ensures.types) c.self.invariant.error_is) c.in-Ok.ensures.ok (omega (arith, a, d, f)) (omega (arith, b, e, g))

pub invariant_of-self-in-Err : goal.invariant_of-self-in-Err
invariant_of-self-in-Err c =
    let a = c.self.inside.searches.ok.0 in
    let b = c.self.inside.awaited.ok.0 in
    let d = c.forget.ensures.size in
    let e = c.forget.ensures.flags in
    let f = c.self.invariant.kept.size in
    let g = c.self.invariant.kept.flags in
    let types : c.retract.new.self.types ≡ c.self.inside.rows.types = c.retract.ensures.types ∙ c.in_ok-define.ensures.types in
    let z = ap length types in
    whole_written c.retract.new.self c.self.inside.error c.self.inside.searches.len c.self.inside.awaited.len c.forget.new.searches _ c.forget.new.awaited _
    (subst (λ (l : List GoType). slice_get l c.self.inside.error.0 ≡ Some error_interface) (sym types) c.self.invariant.error_is) c.forget.ensures (omega (arith, a, d, f, z)) (omega (arith, b, e, g, z))
