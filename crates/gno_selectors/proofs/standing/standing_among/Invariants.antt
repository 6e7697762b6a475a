use Rattle.gno_selectors.specs.Standings.{StandsBefore, called, names}
use Rattle.gno_selectors.proofs.standing.standing_among.Given as goal

abbrev pub invariant-loop-place : goal.invariant-loop-place
invariant-loop-place l = StandsBefore l.place (called l.name l.«package») (names l.methods l.underlying) l.standing
