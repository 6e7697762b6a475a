use Rattle.std.proofs.Common.{sym, subst, List, ℕ, map, codes}
use Rattle.std.proofs.lemmas.Result.{on_ok_weaker}
use Rattle.gno_terms.specs.Texts.{joined}
use Rattle.gno_type_texts.specs.Pieces.{AddsOf}
use Rattle.gno_type_texts.proofs.Firsts.{one_result}
use Rattle.gno_type_texts.proofs.Stacks.{adds_written}
use Rattle.gno_type_texts.proofs.writer.Writer.write_results.Goals as goal

pub returns-in_ok-write-in-len1-clause-text : goal.returns-in_ok-write-in-len1-clause-text
returns-in_ok-write-in-len1-clause-text c =
    on_ok_weaker c.push_params.result
    (λ h at. subst (λ (text : List ℕ). AddsOf at c.args.self.now c.push_params.new.self text) (sym (one_result at c.args.results.now c.in-len1.len_at_least c.in-len1.len_below))
    (adds_written at c.args.self.now c.write.new.self c.push_params.new.self (codes " ") (joined (codes ", ") (map at c.args.results.now))
    c.in_ok-write-in-len1.ensures.text c.in_ok-write-in-len1.ensures.pieces c.push_params.ensures.text (h at)))
    c.push_params.ensures.stack
