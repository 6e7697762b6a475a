use Rattle.std.proofs.lemmas.Result.{on_ok_weaker}
use Rattle.gno_type_texts.proofs.Rows.{function_parts}
use Rattle.gno_type_texts.proofs.writer.Writer.write_term.Goals as goal

pub returns-in_ok-write-in-Function-clause-good : goal.returns-in_ok-write-in-Function-clause-good
returns-in_ok-write-in-Function-clause-good c =
    on_ok_weaker c.write_signature.result
    (λ h types below law are.
    let parts = function_parts types c.args.term.now c.in-Function.params c.in-Function.variadic c.in-Function.results c.as_slice.result.now c.as_slice-in-Function.result.now c.in-Function.is c.as_slice.ensures c.as_slice-in-Function.ensures below law in
    h types parts.0 parts.1 (c.in_ok-write-in-Function.ensures.good types are))
    c.write_signature.ensures.good
