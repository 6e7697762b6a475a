use Rattle.std.proofs.Common.{arith}
use Rattle.gno_scan.proofs.Characters.{no_front}
use Rattle.gno_scan.specs.Names.{is_letter_or_digit}
use Rattle.gno_scan.proofs.name.letter_or_digit_length.Goals as goal

pub returns-else-is_digit-clause-none : goal.returns-else-is_digit-clause-none
returns-else-is_digit-clause-none c = λ _. no_front is_letter_or_digit c.args.text.now c.in-Some.c c.in-Some.ensures.found (grind arith)
