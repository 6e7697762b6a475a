use Rattle.std.proofs.Common.{sym, ◌∙◌}
use Rattle.gno_scan.proofs.Characters.{no_front}
use Rattle.gno_scan.specs.Names.{is_letter}
use Rattle.gno_scan.proofs.name.letter_length.Goals as goal

pub returns-else-is_letter-clause-none : goal.returns-else-is_letter-clause-none
returns-else-is_letter-clause-none c = λ _. no_front is_letter c.args.text.now c.in-Some.c c.in-Some.ensures.found (sym c.is_letter.ensures ∙ c.if-is_letter.false)
