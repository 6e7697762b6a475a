use Rattle.std.proofs.Common.{◌≡◌, sym, subst}
use Rattle.std.specs.Prelude.{IsTrue, ◌↔◌}
use Rattle.gno_terms.specs.Tables.{Table, Defines, Is}
use Rattle.gno_terms.specs.declared.term.DefinitionOf.{DefinitionOf}
use Rattle.gno_terms.specs.declared.term.GoType.{GoType}
use Rattle.gno_types.proofs.table.Types.is_defined.Goals as goal

pub returns : goal.returns
returns c s is = subst (λ (v : Table). IsTrue c.is_defined.result ↔ ((d : DefinitionOf GoType) × Defines v d × (d.of ≡ s))) c.self.view_is
    (c.is_defined.ensures s (subst (λ (v : Table). Is v c.args.t s) (sym c.self.view_is) is))
