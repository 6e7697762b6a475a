use Rattle.std.proofs.Common.{◌≡◌, sym, subst}
use Rattle.gno_terms.specs.Tables.{Table, Defines}
use Rattle.gno_type_rows.proofs.Defining.{one_definition}
use Rattle.gno_type_rows.proofs.rows.Rows.have_one_definition.Goals as goal

pub returns : goal.returns
returns c d e defines_d defines_e same =
    one_definition c.self.inside.terms.items c.self.inside.numbers c.self.inside.definitions.items c.self.invariant.table d e
    (subst (λ (v : Table). Defines v d) (sym c.self.view_is) defines_d)
    (subst (λ (v : Table). Defines v e) (sym c.self.view_is) defines_e)
    same
