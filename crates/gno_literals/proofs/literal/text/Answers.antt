use Rattle.gno_literals.proofs.Spelling.{if_text, no_constant_text}
use Rattle.gno_literals.proofs.literal.text.Goals as goal

pub returns-in-Some-clause-some : goal.returns-in-Some-clause-some
returns-in-Some-clause-some c = if_text c.args.spelling.now c.in_ok-bytes.field-0 c.in-Some.bytes c.in-Some.is c.in_ok-bytes.ensures.value

pub returns-in-None-clause-none : goal.returns-in-None-clause-none
returns-in-None-clause-none c = λ _. no_constant_text c.args.spelling.now (c.in_ok-bytes.ensures.none c.in-None.is)
