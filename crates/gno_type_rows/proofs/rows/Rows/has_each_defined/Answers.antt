use Rattle.std.proofs.Common.{◌≡◌, sym, subst}
use Rattle.gno_terms.specs.declared.term.TypeRef.{TypeRef}
use Rattle.gno_terms.specs.Tables.{Table, Defines, Is}
use Rattle.gno_type_rows.proofs.Retracting.{defined_met}
use Rattle.gno_type_rows.proofs.rows.Rows.has_each_defined.Goals as goal

pub returns : goal.returns
returns c d h =
    subst (λ (v : Table). (t : TypeRef) × Is v t d.of) c.self.view_is
    (defined_met c.self.inside.terms.items c.self.inside.numbers c.self.inside.definitions.items c.self.invariant.table d
    (subst (λ (v : Table). Defines v d) (sym c.self.view_is) h))
