use Rattle.gno_terms.specs.Tables.{deep}
use Rattle.gno_promotion.proofs.Finding.{found, known_at}
use Rattle.gno_promotion.proofs.methods.find_among.Goals as goal

pub gather-requires-clause-each : goal.gather-requires-clause-each
gather-requires-clause-each c = known_at c.args.rows.now (deep c.args.rows.now.types c.args.term.now) c.args.reached.now c.requires.reached

pub returns : goal.returns
returns c =
    found c.args.rows.now c.have_one_number.ensures c.have_one_definition.ensures (deep c.args.rows.now.types c.args.term.now) c.args.reached.now c.requires.reached
    c.in_ok-candidates.candidates.items c.in_ok-candidates.ensures c.in_ok-reached.reached c.in_ok-methods.methods c.in_ok-reached.ensures c.in_ok-methods.ensures
