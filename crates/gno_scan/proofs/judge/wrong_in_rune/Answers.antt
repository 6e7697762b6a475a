use Rattle.std.proofs.Common.{refl}
use Rattle.gno_scan.proofs.Fronts.{not_true}
use Rattle.gno_scan.proofs.Judging.{right_rune, wrong_count, wrong_rune}
use Rattle.gno_scan.proofs.judge.wrong_in_rune.Goals as goal

pub returns-in-Some-clause-wrong : goal.returns-in-Some-clause-wrong
returns-in-Some-clause-wrong c = wrong_rune c.args.word.now c.inside_of-inside.result.now c.in-Some.at (c.inside_of-inside.ensures 39 c.requires) c.in-Some.ensures.bad

pub returns-then-is_one_character-clause-right : goal.returns-then-is_one_character-clause-right
returns-then-is_one_character-clause-right c = λ none.
    right_rune c.args.word.now c.inside_of-inside.result.now (c.inside_of-inside.ensures 39 c.requires) (c.in-None.ensures.none refl) (c.if-is_one_character.ensures.0 refl)

pub returns-else-is_one_character-clause-wrong : goal.returns-else-is_one_character-clause-wrong
returns-else-is_one_character-clause-wrong c =
    wrong_count c.args.word.now c.inside_of-inside.result.now (c.inside_of-inside.ensures 39 c.requires) (c.in-None.ensures.none refl) (λ one. not_true (c.if-is_one_character.ensures.1 one))
