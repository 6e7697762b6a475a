use Rattle.std.proofs.Common.{refl}
use Rattle.gno_literals.proofs.Spelling.{if_interpreted, if_raw, none_interpreted, none_raw, no_text}
use Rattle.gno_literals.proofs.text.text_value.Goals as goal

pub returns-in-Some-clause-value : goal.returns-in-Some-clause-value
returns-in-Some-clause-value c =
    if_interpreted c.args.word.now c.in-Some.inside.now c.interpreted_value.result c.in-Some.ensures.inside c.interpreted_value.ensures.line c.interpreted_value.ensures.value

pub returns-in-Some-clause-none : goal.returns-in-Some-clause-none
returns-in-Some-clause-none c = none_interpreted c.args.word.now c.in-Some.inside.now c.interpreted_value.result c.in-Some.ensures.inside c.interpreted_value.ensures.none

pub returns-in-Some-between-clause-value : goal.returns-in-Some-between-clause-value
returns-in-Some-between-clause-value c =
    if_raw c.args.word.now c.in-Some-between.inside.now c.raw_value.result c.in-Some-between.ensures.inside c.raw_value.ensures.no_quote c.raw_value.ensures.value

pub returns-in-Some-between-clause-none : goal.returns-in-Some-between-clause-none
returns-in-Some-between-clause-none c = none_raw c.args.word.now c.in-Some-between.inside.now c.raw_value.result c.in-Some-between.ensures.inside c.raw_value.ensures.none

pub returns-in-None-between-clause-none : goal.returns-in-None-between-clause-none
returns-in-None-between-clause-none c = λ _. no_text c.args.word.now (c.in-None.ensures.none refl) (c.in-None-between.ensures.none refl)
