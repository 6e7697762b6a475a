use Rattle.std.proofs.Common.{ap, ◌∙◌, Bool}
use Rattle.std.specs.Prelude.{◌||◌}
use Rattle.gno_seen.proofs.values.calls_with.Goals as goal

pub returns : goal.returns
returns c table y is = c.either.ensures ∙ ap (λ (b : Bool). c.args.calls || b) (c.calls_in-more.ensures table y is)
