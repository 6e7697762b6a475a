use Rattle.std.proofs.Common.{subst, List, ℕ, ◌++◌, codes}
use Rattle.std.proofs.lemmas.Result.{on_ok_weaker}
use Rattle.gno_type_texts.specs.Pieces.{AddsOf, text_at}
use Rattle.gno_type_texts.proofs.Rows.{element_of_row, is_a_slice}
use Rattle.gno_type_texts.proofs.writer.Writer.write_variadic.Goals as goal

pub returns-in-Slice-clause-text : goal.returns-in-Slice-clause-text
returns-in-Slice-clause-text c =
    let types = c.args.types.now.types in
    on_ok_weaker c.write_mark.result
    (λ h. subst (λ (text : List ℕ). AddsOf (text_at types) c.args.self.now c.write_mark.new.self (codes "..." ++ text))
    (element_of_row types c.args.t c.term.result.now c.term.ensures.is c.in-Slice.of c.in-Slice.is)
    (h (text_at types)))
    c.write_mark.ensures.text

pub returns-in_default : goal.returns-in_default
returns-in_default c = absurd (is_a_slice c.args.types.now.types c.args.t c.term.result.now c.term.ensures.is c.requires.slice c.in_default.not-Slice)
