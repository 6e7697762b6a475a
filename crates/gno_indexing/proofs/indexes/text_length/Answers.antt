use Rattle.std.proofs.Common.{ℕ, sym, ap, ◌∙◌, Some}
use Rattle.gno_typing.specs.Indexes.{text_length}
use Rattle.gno_indexing.proofs.indexes.text_length.Goals as goal

pub returns-in-Text : goal.returns-in-Text
returns-in-Text c = ap (λ (n : ℕ). Some n) c.len.ensures ∙ ap text_length (sym c.in-Text.is)
