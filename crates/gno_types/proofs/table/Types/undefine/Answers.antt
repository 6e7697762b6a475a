use Rattle.std.proofs.Common.{subst}
use Rattle.std.specs.Prelude.{◌↔◌}
use Rattle.gno_terms.specs.Tables.{Table, Defines, IsOfPath}
use Rattle.gno_types.proofs.table.Types.undefine.Goals as goal

pub returns-clause-definitions : goal.returns-clause-definitions
returns-clause-definitions c d = subst (λ (v : Table). Defines c.undefine.new.self d ↔ (Defines v d × (IsOfPath c.args.path.now d.of → ⊥))) c.self.view_is (c.undefine.ensures.definitions d)
