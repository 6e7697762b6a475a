use Rattle.std.proofs.Common.{subst, List}
use Rattle.gno_terms.specs.declared.term.MethodOf.{MethodOf}
use Rattle.gno_terms.specs.declared.term.TypeRef.{TypeRef}
use Rattle.gno_selectors.specs.Standings.{IsStanding, called, names}
use Rattle.gno_selectors.proofs.MembersOfRows.{row_of, stands}
use Rattle.gno_selectors.proofs.standing.standing_in.Goals as goal

pub returns : goal.returns
returns c =
    let table = c.args.rows.now in
    let declared = c.declared.result.now in
    let x = c.underlying-underlying.result.now in
    let name = called c.args.name.now c.args.«package».now in
    stands table c.args.t declared x (row_of table c.args.t declared x c.requires.below c.requires.known c.declared.ensures.declares c.underlying-underlying.ensures.underlying) name c.standing_among.result
    (subst (λ (ms : List (MethodOf TypeRef)). IsStanding name (names ms x) c.standing_among.result) c.own-methods.ensures c.standing_among.ensures)
