use Rattle.std.proofs.Common.{List, ℕ, subst}
use Rattle.gno_scan.specs.Closing.{EndsFirst}
use Rattle.gno_scan.proofs.Comments.{longest_comment, starts_with_two}
use Rattle.gno_scan.proofs.Fronts.{behind_at}
use Rattle.gno_scan.proofs.closed.general_comment_length.Goals as goal

pub returns-in-Some-clause-longest : goal.returns-in-Some-clause-longest
returns-in-Some-clause-longest c =
    longest_comment c.args.text.now c.in-Some.count (starts_with_two 47 42 c.args.text.now c.if-text-lt2.false c.if-text-ne47.false c.if-text-ne42.false)
    (subst (λ (t : List ℕ). EndsFirst t c.in-Some.count) (behind_at 2 c.args.text.now) c.in-Some.ensures.found)
