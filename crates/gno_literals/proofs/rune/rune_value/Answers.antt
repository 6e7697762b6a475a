use Rattle.gno_literals.proofs.Spelling.{if_rune, no_rune, not_between_runes}
use Rattle.gno_literals.proofs.rune.rune_value.Goals as goal
use Rattle.std.proofs.Common.{refl}

pub returns-in-Some-clause-value : goal.returns-in-Some-clause-value
returns-in-Some-clause-value c = if_rune c.args.word.now c.in-Some.inside.now c.character_value.result c.in-Some.ensures.inside c.character_value.ensures.line c.character_value.ensures.value

pub returns-in-Some-clause-none : goal.returns-in-Some-clause-none
returns-in-Some-clause-none c = λ none. no_rune c.args.word.now c.in-Some.inside.now c.in-Some.ensures.inside (c.character_value.ensures.none none)

pub returns-in-None-clause-none : goal.returns-in-None-clause-none
returns-in-None-clause-none c = λ _. not_between_runes c.args.word.now (c.in-None.ensures.none refl)
