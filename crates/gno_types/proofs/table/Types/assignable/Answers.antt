use Rattle.std.proofs.Common.{sym, subst}
use Rattle.std.specs.Prelude.{IsTrue, ◌↔◌, option_map}
use Rattle.gno_assignability.specs.Assignability.{IsAssignable}
use Rattle.gno_terms.specs.Tables.{Table, Is}
use Rattle.gno_types.proofs.table.Types.assignable.Goals as goal

pub returns : goal.returns
returns c s u is own = subst (λ (v : Table). IsTrue c.assignable.result ↔ IsAssignable v s (option_map (λ it. it.now) c.args.constant) u) c.self.view_is
    (c.assignable.ensures s u (subst (λ (v : Table). Is v c.args.from s) (sym c.self.view_is) is) (subst (λ (v : Table). Is v c.args.to u) (sym c.self.view_is) own))
