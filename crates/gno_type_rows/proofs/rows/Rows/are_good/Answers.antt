use Rattle.std.proofs.Common.{◌≡◌, sym, subst}
use Rattle.gno_terms.specs.Tables.{Table, Is}
use Rattle.gno_type_rows.proofs.rows.Rows.are_good.Goals as goal

pub returns : goal.returns
returns c r s is = c.self.invariant.table.rows.good r.0 s (subst (λ (v : Table). Is v r s) (sym c.self.view_is) is)
