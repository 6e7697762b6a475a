use Rattle.std.proofs.Common.{sym, subst}
use Rattle.gno_embedding.specs.Reaching.{IsBlocked}
use Rattle.gno_terms.specs.Tables.{deep}
use Rattle.gno_type_table.proofs.Cutting.{new_unknown}
use Rattle.gno_type_table.proofs.Loss.{unknown_blocked}
use Rattle.gno_type_table.proofs.searching.search_new.Goals as goal

pub returns-in-Defined : goal.returns-in-Defined
returns-in-Defined c =
    let table = c.args.rows.now in
    let s = deep table.types c.args.term.now in
    subst (IsBlocked table s) (sym c.new.ensures)
    (unknown_blocked table s (new_unknown table c.args.term.now c.in-Defined.path c.in-Defined.name c.in-Defined.local c.in-Defined.is c.has_each_defined.ensures c.requires.new))
