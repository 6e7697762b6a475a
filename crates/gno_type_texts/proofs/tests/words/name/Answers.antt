use Rattle.std.proofs.Common.{sym, ◌∙◌}
use Rattle.gno_type_texts.proofs.Words.{copied_name}
use Rattle.gno_type_texts.proofs.tests.words.name.Goals as goal

pub returns-then-is_camel : goal.returns-then-is_camel
returns-then-is_camel c = copied_name c.args.word.now c.from_slice.result (sym c.is_camel.ensures ∙ c.if-is_camel.true) c.from_slice.ensures
