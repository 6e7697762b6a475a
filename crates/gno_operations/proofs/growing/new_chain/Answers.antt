use Rattle.std.proofs.Common.{◌≡◌, ap, ◌∙◌, [], ◌∷◌, ◌++◌}
use Rattle.std.proofs.lemmas.Result.{IfOk-weaker}
use Rattle.gno_typing.specs.declared.pending.PendingOf.TheVariants as p
use Rattle.gno_operations.proofs.growing.new_chain.Goals as goal

pub returns-in-Ok : goal.returns-in-Ok
returns-in-Ok c = IfOk-weaker c.longer_chain.result (λ r. r ≡ p.Chain c.in-Ok.first (c.new-rest.result ++ c.args.operation ∷ [])) (λ r. r ≡ p.Chain c.args.form (c.args.operation ∷ []))
    (λ r e. e ∙ ap (λ rest. p.Chain c.in-Ok.first (rest ++ c.args.operation ∷ [])) c.new-rest.ensures ∙ ap (λ first. p.Chain first (c.args.operation ∷ [])) c.in-Ok.ensures) c.longer_chain.ensures
