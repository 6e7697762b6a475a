use Rattle.std.proofs.Common.{sym, ◌∙◌, subst}
use Rattle.std.proofs.lemmas.Bool.Decides.{Decides-eqb}
use Rattle.gno_terms.specs.Tables.{Table}
use Rattle.gno_type_rows.specs.RowTypes.{AreRows}
use Rattle.gno_type_rows.proofs.Steps.{identical_numbers}
use Rattle.gno_type_rows.proofs.rows.Rows.identical.Goals as goal

pub returns : goal.returns
returns c s u a b =
    let rows : AreRows c.self.inside.terms.items c.args.self.now.types = subst (λ (v : Table). AreRows c.self.inside.terms.items v.types) c.self.view_is c.self.invariant.table.rows in
    let tells = identical_numbers c.self.inside.terms.items c.args.self.now.types rows c.args.a.0 c.args.b.0 s u a b in
    let test = Decides-eqb c.args.a.0 c.args.b.0 in
    (λ t. tells.0 (test.0 (sym c.eq.ensures ∙ t)), λ e. c.eq.ensures ∙ test.1 (tells.1 e))
