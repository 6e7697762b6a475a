use Rattle.std.proofs.Common.{sym, ◌∙◌, ap, Some}
use Rattle.gno_first.proofs.Declaring.{with_new, with_old}
use Rattle.gno_first.proofs.scope.Scope.declare.Goals as goal

pub returns-then-not-is_new : goal.returns-then-not-is_new
returns-then-not-is_new c = with_old c.args.self c.args.name.now (sym c.is_new.ensures ∙ c.if-not-is_new.true)

pub returns : goal.returns
returns c = with_new c.args.self c.args.name.now c.requires (sym c.is_new.ensures ∙ c.if-not-is_new.false) ∙ ap Some (sym c.in-Ok.ensures)
