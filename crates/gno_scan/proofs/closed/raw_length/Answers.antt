use Rattle.std.proofs.Common.{◌≢◌, ◌∙◌, List, ℕ, sym, subst}
use Rattle.std.specs.Prelude.{All}
use Rattle.gno_scan.specs.Closing.{StandsFirst}
use Rattle.gno_scan.proofs.Fronts.{behind_at, starts_with}
use Rattle.gno_scan.proofs.Raws.{longest_raw, no_raw}
use Rattle.gno_scan.proofs.closed.raw_length.Goals as goal

pub returns-in-Some-clause-longest : goal.returns-in-Some-clause-longest
returns-in-Some-clause-longest c =
    longest_raw c.args.text.now c.in-Some.count (starts_with 96 c.args.text.now (sym c.is_empty.ensures ∙ c.if-is_empty.false) c.if-text-ne96.false)
    (subst (λ (t : List ℕ). StandsFirst 96 t c.in-Some.count) (behind_at 1 c.args.text.now) c.in-Some.ensures.found)

pub returns-in-None-clause-none : goal.returns-in-None-clause-none
returns-in-None-clause-none c = λ none.
    no_raw c.args.text.now (subst (λ (t : List ℕ). All (λ b. b ≢ 96) t) (behind_at 1 c.args.text.now) (c.in-None.ensures.none none))
