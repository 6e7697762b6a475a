use Rattle.gno_literals.proofs.Runes.{not_whole, whole_line, whole_value}
use Rattle.gno_literals.proofs.rune.character_value.Goals as goal

pub returns-then-part-inside-clause-line : goal.returns-then-part-inside-clause-line
returns-then-part-inside-clause-line c = whole_line c.in-Some.part.length c.args.inside.now c.in-Some.part.value c.in-Some.ensures.found c.if-part-inside.true

pub returns-then-part-inside-clause-value : goal.returns-then-part-inside-clause-value
returns-then-part-inside-clause-value c = whole_value c.in-Some.part.length c.number.result c.args.inside.now c.in-Some.part.value c.in-Some.ensures.found c.if-part-inside.true c.number.ensures

pub returns-else-part-inside-clause-none : goal.returns-else-part-inside-clause-none
returns-else-part-inside-clause-none c = λ _ line.
    not_whole c.in-Some.part.length c.args.inside.now c.in-Some.part.value c.in-Some.ensures.within.0 c.in-Some.ensures.within.1 c.in-Some.ensures.found c.if-part-inside.false
