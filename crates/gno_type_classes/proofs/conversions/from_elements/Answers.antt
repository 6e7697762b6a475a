use Rattle.std.proofs.Common.{◌∙◌}
use Rattle.gno_typing.specs.Conversions.{Converts as way}
use Rattle.gno_type_classes.proofs.conversions.from_elements.Goals as goal

pub returns-then-has_elements-clause-some : goal.returns-then-has_elements-clause-some
returns-then-has_elements-clause-some c s u v w left right = way.from_bytes ((c.has_elements.ensures v left).0 c.if-has_elements.true) (right ∙ c.requires.text)

pub returns-then-has_elements-2-clause-some : goal.returns-then-has_elements-2-clause-some
returns-then-has_elements-2-clause-some c s u v w left right = way.from_characters ((c.has_elements-2.ensures v left).0 c.if-has_elements-2.true) (right ∙ c.requires.text)
