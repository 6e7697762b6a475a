use Rattle.std.proofs.Common.{◌≡◌, sym, subst, map, Result, Ok, Err}
use Rattle.std.specs.Prelude.{◌⊎◌, ◌↔◌, OnErr}
use Rattle.gno_terms.specs.Normal.{normal_method}
use Rattle.gno_terms.specs.Tables.{Table, Defines, type_at}
use Rattle.gno_terms.specs.declared.term.DefinitionOf.{DefinitionOf}
use Rattle.gno_terms.specs.declared.term.GoType.{GoType}
use Rattle.gno_type_rows.specs.RowTypes.{definition_with}
use Rattle.gno_types.proofs.table.Types.define.Goals as goal

pub define-requires-clause-new : goal.define-requires-clause-new
define-requires-clause-new c = subst (λ (v : Table). (d : DefinitionOf GoType) → Defines v d → d.of ≡ type_at v.types c.args.defined → ⊥) (sym c.self.view_is) c.requires.new

on_err : {A E : Type 0} (P : Type 0) (r : Result A E) → P → OnErr r P
on_err P (Ok x) p = tt
on_err P (Err e) p = p

pub returns-in_err-define-clause-err : goal.returns-in_err-define-clause-err
returns-in_err-define-clause-err c = on_err _ c.from_residual.result (λ (d : DefinitionOf GoType). subst (λ (v : Table). Defines c.define.new.self d ↔ Defines v d) c.self.view_is (c.in_err-define.ensures.err d))

pub returns-clause-definitions : goal.returns-clause-definitions
returns-clause-definitions c d =
    subst (λ (v : Table). Defines c.define.new.self d ↔ (Defines v d ⊎ (d ≡ definition_with (type_at v.types) (record { of = c.args.defined; underlying = c.args.underlying; methods = map normal_method c.args.methods }))))
    c.self.view_is (c.in_ok-define.ensures.definitions d)
