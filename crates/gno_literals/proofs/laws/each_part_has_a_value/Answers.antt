use Rattle.gno_literals.proofs.Escaping.{are_parts, escape_has_value, is_escape, parts_have_value}
use Rattle.gno_literals.proofs.laws.each_part_has_a_value.Goals as goal

pub returns-clause-escape : goal.returns-clause-escape
returns-clause-escape c = λ quote word. (escape_has_value quote word, λ has. is_escape quote word has.0 has.1)

pub returns-clause-parts : goal.returns-clause-parts
returns-clause-parts c = λ quote word. (parts_have_value quote word, λ has. are_parts quote word has.0 has.1)
