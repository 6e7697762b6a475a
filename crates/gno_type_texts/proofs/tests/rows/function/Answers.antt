use Rattle.std.proofs.Common.{sym, true≢false, false}
use Rattle.gno_type_texts.proofs.Shelves.{function_lawful}
use Rattle.gno_type_texts.proofs.tests.rows.function.Goals as goal

pub add-requires-clause-lawful : goal.add-requires-clause-lawful
add-requires-clause-lawful c = function_lawful c.args.shelf.now c.in_ok-params.params c.in_ok-results.results false c.in_ok-params.ensures c.in_ok-results.ensures (λ e. absurd (true≢false (sym e)))
