use Rattle.std.proofs.Common.{sym, ◌∙◌, rules}
use Rattle.gno_steps.proofs.assertions.may_hold.Goals as goal

pub returns : goal.returns
returns c s u is own = (
  λ y i. (c.has.ensures u s own is).0 y,
  λ h. (c.has.ensures u s own is).1 (h (λ i. search (rules, sym c.if-is_interface.false ∙ (c.is_interface.ensures u own).1 i))),
)
