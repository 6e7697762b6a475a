use Rattle.std.proofs.Common.{List, ℕ, subst}
use Rattle.gno_scan.specs.Closing.{StandsFirst}
use Rattle.gno_scan.proofs.Comments.{longest_line, starts_with_two}
use Rattle.gno_scan.proofs.Fronts.{behind_at}
use Rattle.gno_scan.proofs.closed.line_comment_length.Goals as goal

pub returns-in-Some-clause-longest : goal.returns-in-Some-clause-longest
returns-in-Some-clause-longest c =
    longest_line c.args.text.now c.in-Some.count (starts_with_two 47 47 c.args.text.now c.if-text-lt2.false c.if-text-ne47.false c.if-text-ne47-2.false)
    (subst (λ (t : List ℕ). StandsFirst 10 t c.in-Some.count) (behind_at 2 c.args.text.now) c.in-Some.ensures.found)
