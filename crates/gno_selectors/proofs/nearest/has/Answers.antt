use Rattle.std.proofs.Common.{subst, refl, rules}
use Rattle.gno_selectors.specs.Standings.{StandsIn, called}
use Rattle.gno_selectors.proofs.Standings.{has_none, has_some}
use Rattle.gno_selectors.proofs.nearest.has.Goals as goal

pub returns-in-Nowhere : goal.returns-in-Nowhere
returns-in-Nowhere c = (
  λ e. search (rules, e),
  λ has. absurd (has_none c.args.rows.now c.have_one_definition.ensures c.args.of (called c.args.name.now c.args.«package».now) (subst (StandsIn c.args.rows.now c.args.of (called c.args.name.now c.args.«package».now)) c.in-Nowhere.is c.standing_in.ensures) has),
)

pub returns-in_default : goal.returns-in_default
returns-in_default c = (
  λ e. has_some c.args.rows.now c.have_one_definition.ensures c.args.of (called c.args.name.now c.args.«package».now) c.standing_in.result c.standing_in.ensures c.in_default.not-Nowhere,
  λ has. refl,
)
