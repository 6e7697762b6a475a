use Rattle.std.proofs.Common.{refl, ◌∙◌}
use Rattle.std.proofs.lemmas.Int.{to_z-of_z}
use mir.Syntax.{w128}
use Rattle.gno_literals.proofs.Spelling.{no_constant_rune, rune_at}
use Rattle.gno_literals.proofs.literal.whole_rune.Goals as goal

pub returns-in-Some-clause-some : goal.returns-in-Some-clause-some
returns-in-Some-clause-some c = rune_at c.args.spelling.now c.in-Some.value _ c.in-Some.ensures.value (to_z-of_z w128 c.from.result (record { sfits = c.from.type_inv }) ∙ c.from.ensures)

pub returns-in-None-clause-none : goal.returns-in-None-clause-none
returns-in-None-clause-none c = λ _. no_constant_rune c.args.spelling.now (c.in-None.ensures.none refl)
