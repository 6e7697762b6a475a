use Rattle.std.proofs.Common.{subst, List, ℕ}
use Rattle.gno_cmd.specs.Headline.{GainedFront}
use Rattle.gno_cmd.proofs.Fronts.{as_far}
use Rattle.gno_cmd.proofs.line.write_text.Goals as goal

pub returns-clause-front : goal.returns-clause-front
returns-clause-front g c =
    subst (λ (text : List ℕ). GainedFront (g.E.Sink.holds c.args.err.now) (g.E.Sink.holds c.write_all.new.out) text) c.as_bytes.ensures.value
    (as_far c.write_all.result _ _ c.as_bytes.result.now c.write_all.ensures.ok c.write_all.ensures.err)
