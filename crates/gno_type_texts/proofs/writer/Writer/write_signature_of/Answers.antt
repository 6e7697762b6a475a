use Rattle.std.proofs.Common.{subst, List, ℕ}
use Rattle.std.proofs.lemmas.Result.{on_ok_weaker}
use Rattle.gno_terms.specs.Tables.{deep}
use Rattle.gno_type_texts.specs.Pieces.{AddsOf, text_at}
use Rattle.gno_type_texts.proofs.Rows.{lawful_row, function_parts, signature_of_row, is_a_function}
use Rattle.gno_type_texts.proofs.writer.Writer.write_signature_of.Goals as goal

pub returns-in-Function-clause-text : goal.returns-in-Function-clause-text
returns-in-Function-clause-text c =
    let types = c.args.types.now.types in
    on_ok_weaker c.write_signature.result
    (λ h. subst (λ (text : List ℕ). AddsOf (text_at types) c.args.self.now c.write_signature.new.self text)
    (signature_of_row types c.args.t c.term.result.now c.term.ensures.is c.in-Function.params c.in-Function.variadic c.in-Function.results c.as_slice.result.now c.as_slice-in-Function.result.now c.in-Function.is c.as_slice.ensures c.as_slice-in-Function.ensures)
    (h (text_at types)))
    c.write_signature.ensures.text

pub returns-in-Function-clause-good : goal.returns-in-Function-clause-good
returns-in-Function-clause-good c =
    let types = c.args.types.now.types in
    let parts = function_parts types c.term.result.now c.in-Function.params c.in-Function.variadic c.in-Function.results c.as_slice.result.now c.as_slice-in-Function.result.now c.in-Function.is c.as_slice.ensures c.as_slice-in-Function.ensures
    c.term.ensures.parts (lawful_row types c.term.result.now (c.types_are_lawful.ensures.lawful c.args.t (deep types c.term.result.now) c.term.ensures.is)) in
    on_ok_weaker c.write_signature.result (λ h. h types parts.0 parts.1 c.requires.pieces) c.write_signature.ensures.good

pub returns-in_default : goal.returns-in_default
returns-in_default c = absurd (is_a_function c.args.types.now.types c.args.t c.term.result.now c.term.ensures.is c.requires.function c.in_default.not-Function)
