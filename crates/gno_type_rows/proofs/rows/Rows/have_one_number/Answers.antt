use Rattle.std.proofs.Common.{◌≡◌, sym, subst}
use Rattle.gno_terms.specs.Tables.{Table, Is}
use Rattle.gno_type_rows.proofs.Defining.{ref_eq}
use Rattle.gno_type_rows.proofs.rows.Rows.have_one_number.Goals as goal

pub returns : goal.returns
returns c a b s at_a at_b = ref_eq a b
    (c.self.invariant.table.rows.once a.0 b.0 s
    (subst (λ (v : Table). Is v a s) (sym c.self.view_is) at_a)
    (subst (λ (v : Table). Is v b s) (sym c.self.view_is) at_b))
