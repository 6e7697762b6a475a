use Rattle.std.proofs.Common.{◌≡◌, sym, subst, length, true, false}
use Rattle.std.specs.Prelude.{IsTrue, ◌↔◌}
use Rattle.gno_embedding.specs.Embedding.{IsComplete}
use Rattle.gno_terms.specs.Tables.{Table, Below, Is}
use Rattle.gno_type_table.proofs.Complete.{blocked_incomplete, found_complete}
use Rattle.gno_type_table.proofs.table.TypeTable.is_complete.Goals as goal

pub returns-in-Found : goal.returns-in-Found
returns-in-Found c s is =
    subst (λ (v : Table). IsTrue true ↔ IsComplete v s) c.self.view_is
    (found_complete c.self.inside.rows c.self.inside.searches.items c.self.invariant.kept.each c.self.invariant.kept.size c.args.t (subst (λ (v : Table). Below (length v.types) c.args.t) (sym c.self.view_is) c.requires)
    c.index-search.result.now c.index-search.ensures s (subst (λ (v : Table). Is v c.args.t s) (sym c.self.view_is) is) c.in-Found.reached c.in-Found.methods c.in-Found.is)

pub returns-in-Blocked : goal.returns-in-Blocked
returns-in-Blocked c s is =
    subst (λ (v : Table). IsTrue false ↔ IsComplete v s) c.self.view_is
    (blocked_incomplete c.self.inside.rows c.self.inside.searches.items c.self.invariant.kept.each c.self.invariant.kept.size c.args.t (subst (λ (v : Table). Below (length v.types) c.args.t) (sym c.self.view_is) c.requires)
    c.index-search.result.now c.index-search.ensures s (subst (λ (v : Table). Is v c.args.t s) (sym c.self.view_is) is) c.in-Blocked.field-0 c.in-Blocked.is)
