use Rattle.std.proofs.Common.{sym, subst, List, ℕ, map, codes}
use Rattle.std.proofs.lemmas.Result.{on_ok_weaker}
use Rattle.gno_terms.specs.Texts.{joined}
use Rattle.gno_type_texts.specs.Pieces.{AddsOf, param_texts}
use Rattle.gno_type_texts.proofs.Firsts.{more_params}
use Rattle.gno_type_texts.proofs.Stacks.{adds_written}
use Rattle.gno_type_texts.proofs.writer.Writer.write_more_params.Goals as goal

pub returns-in_ok-write-in-len1-up-clause-text : goal.returns-in_ok-write-in-len1-up-clause-text
returns-in_ok-write-in-len1-up-clause-text c =
    on_ok_weaker c.push_params.result
    (λ h at. subst (λ (text : List ℕ). AddsOf at c.args.self.now c.push_params.new.self text) (sym (more_params at c.args.params.now c.args.variadic c.in-len1-up.len_at_least))
    (adds_written at c.args.self.now c.write.new.self c.push_params.new.self (codes ", ") (joined (codes ", ") (param_texts c.args.variadic (map at c.args.params.now)))
    c.in_ok-write-in-len1-up.ensures.text c.in_ok-write-in-len1-up.ensures.pieces c.push_params.ensures.text (h at)))
    c.push_params.ensures.stack
