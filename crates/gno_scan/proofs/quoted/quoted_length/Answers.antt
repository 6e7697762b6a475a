use Rattle.std.proofs.Common.{◌∙◌, sym, ap}
use Rattle.std.specs.Prelude.{false}
use Rattle.gno_scan.specs.Closing.{closing}
use Rattle.gno_scan.proofs.Closings.{longest_quoted, no_quoted}
use Rattle.gno_scan.proofs.Fronts.{behind_at, starts_with}
use Rattle.gno_scan.proofs.quoted.quoted_length.Goals as goal

pub returns-in-Some-clause-longest : goal.returns-in-Some-clause-longest
returns-in-Some-clause-longest c =
    longest_quoted c.args.quote c.in-Some.count c.args.text.now c.requires.no_backslash c.requires.no_line_feed
    (starts_with c.args.quote c.args.text.now (sym c.is_empty.ensures ∙ c.if-is_empty.false) c.if-text-quote.false)
    (ap (closing c.args.quote 0 false) (sym (behind_at 1 c.args.text.now)) ∙ sym c.bytes_inside.ensures.closing ∙ c.in-Some.is)

pub returns-in-None-clause-none : goal.returns-in-None-clause-none
returns-in-None-clause-none c = λ none.
    no_quoted c.args.quote c.args.text.now c.requires.no_backslash c.requires.no_line_feed
    (ap (closing c.args.quote 0 false) (sym (behind_at 1 c.args.text.now)) ∙ sym c.bytes_inside.ensures.closing ∙ c.in-None.is)
