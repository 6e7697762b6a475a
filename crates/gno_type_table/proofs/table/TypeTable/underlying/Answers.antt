use Rattle.std.proofs.Common.{refl, subst, length}
use Rattle.gno_terms.specs.declared.term.GoType.{GoType}
use Rattle.gno_terms.specs.declared.term.DefinitionOf.{DefinitionOf}
use Rattle.gno_terms.specs.Tables.{Table, Is, Below, Defines, deep, type_at, error_interface}
use Rattle.gno_type_rows.specs.RowTypes.{definition_with}
use Rattle.gno_type_rows.proofs.Pushed.{at_it}
use Rattle.gno_type_table.proofs.Under.{of_error, of_defined, undefined, of_other}
use Rattle.gno_type_table.proofs.table.TypeTable.underlying.Goals as goal

pub returns-in-Some : goal.returns-in-Some
returns-in-Some c s is =
    let row = subst (λ (v : Table). Is v c.args.t (deep v.types c.term.result.now)) c.self.view_is c.term.ensures.is in
    let defines = subst (λ (v : Table). Defines v (definition_with (type_at v.types) c.in-Some.definition.now)) c.self.view_is c.in-Some.ensures.some in
    let below = subst (λ (v : Table). Below (length v.types) c.in-Some.definition.now.underlying) c.self.view_is c.in-Some.ensures.below in (
      type_at c.args.self.now.types c.in-Some.definition.now.underlying,
      of_defined c.args.self.now c.args.t c.term.result.now row s is c.in-Defined.path c.in-Defined.name c.in-Defined.local c.in-Defined.is c.in-Some.definition.now c.in-Some.ensures.own defines,
      at_it c.args.self.now.types c.in-Some.definition.now.underlying below,
    )

pub returns-in-None : goal.returns-in-None
returns-in-None c s is =
    let row = subst (λ (v : Table). Is v c.args.t (deep v.types c.term.result.now)) c.self.view_is c.term.ensures.is in
    let none = subst (λ (v : Table). (d : DefinitionOf GoType) → Defines v d → Is v c.args.t d.of → ⊥) c.self.view_is (c.in-None.ensures.none refl) in
    let known = c.requires.known s is in
    absurd (undefined c.args.self.now c.args.t c.term.result.now row s is c.in-Defined.path c.in-Defined.name c.in-Defined.local c.in-Defined.is known.0 known.1 none)

pub returns-in-Error : goal.returns-in-Error
returns-in-Error c s is =
    let row = subst (λ (v : Table). Is v c.args.t (deep v.types c.term.result.now)) c.self.view_is c.term.ensures.is in (
      error_interface,
      of_error c.args.self.now c.args.t c.term.result.now row s is c.in-Error.is error_interface refl,
      subst (λ (v : Table). Is v c.self.inside.error error_interface) c.self.view_is c.self.invariant.error_is,
    )

pub returns-in_default : goal.returns-in_default
returns-in_default c s is =
    let row = subst (λ (v : Table). Is v c.args.t (deep v.types c.term.result.now)) c.self.view_is c.term.ensures.is in
    (s, of_other c.args.self.now c.args.t c.term.result.now row s is c.in_default.not-Defined c.in_default.not-Error, is)
