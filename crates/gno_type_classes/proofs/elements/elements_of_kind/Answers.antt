use Rattle.std.proofs.Common.{ap, ◌∙◌}
use Rattle.gno_terms.specs.declared.term.TermOf.TheVariants as t
use Rattle.gno_type_classes.proofs.Indexed.{text_elements}
use Rattle.gno_type_classes.proofs.TypedParts.{byte_typed}
use Rattle.gno_type_classes.proofs.elements.elements_of_kind.Goals as goal

pub returns-in-Text-clause-some : goal.returns-in-Text-clause-some
returns-in-Text-clause-some c s u by is byte = text_elements c.args.types.now s u c.args.byte by (is ∙ ap t.Basic c.in-Text.is) byte

pub returns-in-Text-clause-typed : goal.returns-in-Text-clause-typed
returns-in-Text-clause-typed c of is byte = byte_typed c.args.types.now c.args.byte of is byte
