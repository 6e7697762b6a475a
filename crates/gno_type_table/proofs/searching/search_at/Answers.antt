use Rattle.std.proofs.Common.{ℕ, ◌<◌, sym, subst}
use Rattle.gno_promotion.specs.Searches.{IsSearch}
use Rattle.gno_terms.specs.declared.term.GoType.{GoType}
use Rattle.gno_terms.specs.Tables.{deep}
use Rattle.gno_type_table.proofs.Blocked.{awaited_below}
use Rattle.gno_type_table.proofs.Found.{one_type}
use Rattle.gno_type_table.proofs.searching.search_at.Goals as goal

pub find_methods-requires-clause-number : goal.find_methods-requires-clause-number
find_methods-requires-clause-number c t h = c.have_one_number.ensures t (record { 0 = c.args.number }) (deep c.args.rows.now.types c.term.result.now) h c.term.ensures.is

pub put-requires-clause-below : goal.put-requires-clause-below
put-requires-clause-below c t e =
    subst (λ (n : ℕ). t.0 < n) (sym c.requires.flags) (awaited_below c.args.rows.now (deep c.args.rows.now.types c.term.result.now) c.in_ok-search.search c.in_ok-search.ensures t e)

pub returns-clause-ok : goal.returns-clause-ok
returns-clause-ok c = record {
  search = c.in_ok-search.search;
  at = λ s is. subst (λ (y : GoType). IsSearch c.args.rows.now y c.in_ok-search.search) (one_type c.args.rows.now (record { 0 = c.args.number }) (deep c.args.rows.now.types c.term.result.now) s c.term.ensures.is is) c.in_ok-search.ensures;
  put = c.put.ensures;
}
