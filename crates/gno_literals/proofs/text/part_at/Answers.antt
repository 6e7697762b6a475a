use Rattle.std.proofs.Common.{get_or, refl, sym}
use Rattle.gno_literals.proofs.Lines.{if_escape, is_end, is_no_end, no_escape_part, no_line_part, plain_part}
use Rattle.gno_literals.proofs.OneValue.{double}
use Rattle.gno_literals.proofs.text.part_at.Goals as goal

pub returns-then-first-eq92-clause-found : goal.returns-then-first-eq92-clause-found
returns-then-first-eq92-clause-found c = if_escape 34 c.args.text.now c.escape_at.result c.escape_at.ensures.found

pub returns-then-first-eq92-clause-none : goal.returns-then-first-eq92-clause-none
returns-then-first-eq92-clause-none c = λ none line. no_escape_part 34 c.args.text.now double c.requires c.if-first-eq92.true (c.escape_at.ensures.none none)

pub returns-then-is_end-clause-none : goal.returns-then-is_end-clause-none
returns-then-is_end-clause-none c = λ _ line bytes _.
    no_line_part 34 (get_or c.args.text.now 0 0) c.args.text.now c.requires refl c.if-first-eq92.false (is_end _ (sym c.if-is_end.ensures)) line

pub returns-else-is_end-clause-found : goal.returns-else-is_end-clause-found
returns-else-is_end-clause-found c =
    let other = is_no_end (get_or c.args.text.now 0 0) (sym c.if-is_end.ensures) in
    plain_part 34 c.args.text.now c.requires other.0 c.if-first-eq92.false other.1
