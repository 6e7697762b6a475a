use Rattle.std.proofs.Common.{◌≡◌, refl, sym, subst, length, map, true, arith}
use Rattle.std.specs.Prelude.{◌⊎◌}
use Rattle.gno_terms.specs.declared.term.GoType.{GoType}
use Rattle.gno_terms.specs.declared.term.DefinitionOf.{DefinitionOf}
use Rattle.gno_terms.specs.Lawful.{Each}
use Rattle.gno_terms.specs.Tables.{Table, Below, Defines, type_at}
use Rattle.gno_terms.specs.Terms.{method_of, term_of}
use Rattle.gno_type_rows.specs.RowTypes.{definition_with, is_defined, table_of}
use Rattle.gno_type_rows.proofs.Defining.{defined_table, forth, back}
use Rattle.gno_type_rows.proofs.Held.{undefined_row, defined_term}
use Rattle.gno_type_rows.proofs.Laying.{laid_at, laid_define}
use Rattle.gno_type_rows.proofs.rows.Rows.define.Goals as goal

-- what is asked, of the table inside
asked : (c : goal.Joined-index_mut) → (P : Table → Type 0) → P c.args.self.now → P (table_of c.self.inside.terms.items c.self.inside.definitions.items)
asked c P h = subst P (sym c.self.view_is) h

pub define-requires-clause-undefined : goal.define-requires-clause-undefined
define-requires-clause-undefined c =
    undefined_row c.self.inside.terms.items c.self.inside.numbers c.self.inside.definitions.items c.self.inside.layouts c.self.invariant c.args.definition.of
    (subst (λ (v : Table). Below (length v.types) c.args.definition.of) (sym c.self.view_is) c.requires.of)
    (subst (λ (v : Table). is_defined (term_of (type_at v.types c.args.definition.of)) ≡ true) (sym c.self.view_is) c.requires.defined)
    (subst (λ (v : Table). (e : DefinitionOf GoType) → Defines v e → e.of ≡ type_at v.types c.args.definition.of → ⊥) (sym c.self.view_is) c.requires.new)

pub define-requires-clause-of : goal.define-requires-clause-of
define-requires-clause-of c =
    let under = subst (λ (v : Table). Below (length v.types) c.args.definition.underlying) (sym c.self.view_is) c.requires.underlying in
    let size = c.self.invariant.table.rows.size in
    let laid = c.self.invariant.laid.size in
    omega (arith, under, size, laid)

pub invariant_of-self : goal.invariant_of-self
invariant_of-self c = record { table = c.self.invariant.table; laid = laid_at refl refl c.in_err-define.ensures.err c.self.invariant.laid }

pub invariant_of-self-2 : goal.invariant_of-self-2
invariant_of-self-2 c =
    let at = asked c (λ v. Below (length v.types) c.args.definition.of) c.requires.of in
    let defined = asked c (λ v. is_defined (term_of (type_at v.types c.args.definition.of)) ≡ true) c.requires.defined in
    let x = defined_term c.self.inside.terms.items c.self.inside.numbers c.self.inside.definitions.items c.self.inside.layouts c.self.invariant c.args.definition.of at defined in
    let size = c.self.invariant.table.rows.size in
    let counted = c.self.invariant.table.definitions.size in
    record {
      table = defined_table c.self.inside.terms.items c.self.inside.numbers c.self.inside.definitions.items c.self.invariant.table c.args.definition
          at
          (asked c (λ v. Below (length v.types) c.args.definition.underlying) c.requires.underlying)
          (asked c (λ v. Each (Below (length v.types)) (map method_of c.args.definition.methods)) c.requires.methods)
          defined;
      laid = laid_at refl refl c.in_ok-define.ensures.ok (laid_define c.self.inside.terms.items c.self.inside.definitions.items c.self.inside.layouts c.self.invariant.laid c.args.definition.of.0 x.0 x.1 x.2 (omega (arith, at, size, counted)) c.args.definition);
    }

pub returns-clause-definitions : goal.returns-clause-definitions
returns-clause-definitions c d =
    let at = asked c (λ v. Below (length v.types) c.args.definition.of) c.requires.of in
    let under = asked c (λ v. Below (length v.types) c.args.definition.underlying) c.requires.underlying in
    let methods = asked c (λ v. Each (Below (length v.types)) (map method_of c.args.definition.methods)) c.requires.methods in
    let defined = asked c (λ v. is_defined (term_of (type_at v.types c.args.definition.of)) ≡ true) c.requires.defined in
    let new = asked c (λ v. (e : DefinitionOf GoType) → Defines v e → e.of ≡ type_at v.types c.args.definition.of → ⊥) c.requires.new in (
      λ h. subst (λ (v : Table). Defines v d ⊎ (d ≡ definition_with (type_at v.types) c.args.definition)) c.self.view_is
          (forth c.self.inside.terms.items c.self.inside.numbers c.self.inside.definitions.items c.self.invariant.table c.args.definition at under methods defined new d h),
      λ h. back c.self.inside.terms.items c.self.inside.numbers c.self.inside.definitions.items c.self.invariant.table c.args.definition at under methods defined new d
          (asked c (λ v. Defines v d ⊎ (d ≡ definition_with (type_at v.types) c.args.definition)) h),
    )
