use Rattle.std.proofs.Common.{refl}
use Rattle.std.proofs.lemmas.Result.{on_ok_weaker}
use Rattle.gno_type_texts.proofs.Firsts.{first_method, methods_behind}
use Rattle.gno_type_texts.proofs.Stacks.{good_same}
use Rattle.gno_type_texts.proofs.writer.Writer.write_methods.Goals as goal

pub returns-in_ok-push-in-len1-up-clause-good : goal.returns-in_ok-push-in-len1-up-clause-good
returns-in_ok-push-in-len1-up-clause-good c =
    on_ok_weaker c.push-in-len1-up.result
    (λ h types each are. h types
    (c.in_ok-push-in-len1-up.ensures.good types
    (good_same types c.args.self.now (record { text = c.write_member.new.text; pieces = c.args.self.now.pieces }) refl are)
    (methods_behind types c.args.methods.now each))
    (first_method types c.args.methods.now c.first-item.result c.in-len1-up.len_at_least c.first-item.is each))
    c.push-in-len1-up.ensures.good
