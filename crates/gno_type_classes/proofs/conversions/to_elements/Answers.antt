use Rattle.std.proofs.Common.{◌∙◌}
use Rattle.gno_typing.specs.Conversions.{Converts as way}
use Rattle.gno_type_classes.proofs.conversions.to_elements.Goals as goal

pub returns-then-has_elements-clause-some : goal.returns-then-has_elements-clause-some
returns-then-has_elements-clause-some c s u v w left right = way.bytes (left ∙ c.requires.text) ((c.has_elements.ensures w right).0 c.if-has_elements.true)

pub returns-then-has_elements-2-clause-some : goal.returns-then-has_elements-2-clause-some
returns-then-has_elements-2-clause-some c s u v w left right = way.characters (left ∙ c.requires.text) ((c.has_elements-2.ensures w right).0 c.if-has_elements-2.true)
