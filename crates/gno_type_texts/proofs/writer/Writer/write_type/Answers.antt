use Rattle.std.proofs.Common.{sym, subst, List, ℕ}
use Rattle.std.proofs.lemmas.Result.{on_ok_weaker}
use Rattle.gno_terms.specs.Tables.{deep}
use Rattle.gno_type_texts.specs.Pieces.{AddsOf, text_at}
use Rattle.gno_type_texts.proofs.Rows.{lawful_row, text_of_row}
use Rattle.gno_type_texts.proofs.writer.Writer.write_type.Goals as goal

pub returns-clause-text : goal.returns-clause-text
returns-clause-text c =
    let types = c.args.types.now.types in
    on_ok_weaker c.write_term.result
    (λ h. subst (λ (text : List ℕ). AddsOf (text_at types) c.args.self.now c.write_term.new.self text)
    (sym (text_of_row types c.args.t c.term.result.now c.term.ensures.is))
    (h (text_at types)))
    c.write_term.ensures.text

pub returns-clause-good : goal.returns-clause-good
returns-clause-good c =
    let types = c.args.types.now.types in
    on_ok_weaker c.write_term.result
    (λ h. h types c.term.ensures.parts (lawful_row types c.term.result.now (c.types_are_lawful.ensures.lawful c.args.t (deep types c.term.result.now) c.term.ensures.is)) c.requires.pieces)
    c.write_term.ensures.good
