use Rattle.std.proofs.Common.{sym, subst}
use Rattle.gno_terms.specs.Tables.{Table, Is}
use Rattle.gno_type_table.proofs.table.TypeTable.types_are_lawful.Goals as goal

pub returns-clause-normal : goal.returns-clause-normal
returns-clause-normal c r s is = (c.are_good.ensures r s (subst (λ (v : Table). Is v r s) (sym c.self.view_is) is)).normal
