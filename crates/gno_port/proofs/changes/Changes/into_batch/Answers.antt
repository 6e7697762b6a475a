use Rattle.std.proofs.Common.{◌≡◌, ◌∙◌, ◌++◌, [], sym, ap, append-nil}
use mathlib.Core.Path.{subst}
use Rattle.gno_port.specs.Changes.{changes_of}
use Rattle.gno_port.specs.Tables.{IsRising}
use Rattle.gno_port.proofs.ChangeLemmas.{rising}
use Rattle.gno_port.proofs.changes.Changes.into_batch.Goals as goal

pub returns-clause-rising : goal.returns-clause-rising
returns-clause-rising c =
    let whole : c.loop-key.changes ≡ c.args.self =
    sym (append-nil c.loop-key.changes) ∙ ap (λ es. c.loop-key.changes ++ changes_of es) (sym c.in-None.ensures.steps.0) ∙ c.loop-key.invariant in
    subst IsRising (c.self.view_is ∙ sym whole) (rising c.self.inside.values.entries c.into_iter-key-iterator.ensures.into_iter_gives.5)
