use Rattle.std.proofs.Common.{◌∙◌, ◌-◌, ap, sym, subst, drop, length}
use Rattle.gno_reader.specs.Answers.{Fails}
use Rattle.gno_syntax.specs.Parsing.{begun, end_of, place_of}
use Rattle.gno_syntax.proofs.Deeper.{refused_outcome, tree_outcome, whole}
use Rattle.gno_syntax.proofs.parse.parse_file.Goals as goal

pub returns-in-Ok-clause-tree : goal.returns-in-Ok-clause-tree
returns-in-Ok-clause-tree c =
    tree_outcome c.args.text.now c.args.tokens.now _ _ (ap (whole c.args.text.now) (sym (c.new-cursor.ensures ∙ c.as_slice.ensures)) ∙ c.in-Ok.ensures)

pub returns-in-Err-Refused-clause-fault : goal.returns-in-Err-Refused-clause-fault
returns-in-Err-Refused-clause-fault c =
    let refusal = c.in-Err-Refused.refusal in
    let end = end_of c.args.file c.args.text.now in (
      refusal,
      c.whole_file.new.tokens,
      refused_outcome c.args.text.now c.args.tokens.now refusal _
          (ap (whole c.args.text.now) (sym (c.new-cursor.ensures ∙ c.as_slice.ensures)) ∙ subst (λ failure. Fails (whole c.args.text.now c.new-cursor.result) failure c.whole_file.new.tokens) c.in-Err-Refused.field-0-is c.in-Err-Refused.ensures),
      c.code_of.ensures,
      c.form_of.ensures,
      c.refused_at.ensures ∙ ap (λ n. place_of end (drop (length c.args.tokens.now - n - begun refusal) c.args.tokens.now)) c.len.ensures,
    )
