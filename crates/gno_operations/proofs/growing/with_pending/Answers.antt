use Rattle.std.proofs.Common.{◌≡◌, sym, subst, [], ◌∷◌, ◌++◌}
use Rattle.std.proofs.lemmas.Result.{IfOk-weaker}
use Rattle.gno_judging.specs.Found.{PendingStands}
use Rattle.gno_operations.proofs.Pendings.{longer_chain, new_chain}
use Rattle.gno_typing.specs.Forms.{with_pending}
use Rattle.gno_typing.specs.declared.pending.PendingOf.TheVariants as p
use Rattle.gno_operations.proofs.growing.with_pending.Goals as goal

pub returns-in-Chain : goal.returns-in-Chain
returns-in-Chain c table x o h k = IfOk-weaker c.longer_chain.result (λ r. r ≡ p.Chain c.in-Chain.first (c.in-Chain.rest ++ c.args.operation ∷ [])) (λ r. PendingStands table r (with_pending x o))
    (λ r e. subst (λ r. PendingStands table r (with_pending x o)) (sym e) (longer_chain table c.in-Chain.first c.in-Chain.rest c.args.form x c.args.operation o c.in-Chain.is h k)) c.longer_chain.ensures

pub returns-in_default : goal.returns-in_default
returns-in_default c table x o h k = IfOk-weaker c.new_chain.result (λ r. r ≡ p.Chain c.args.form (c.args.operation ∷ [])) (λ r. PendingStands table r (with_pending x o))
    (λ r e. subst (λ r. PendingStands table r (with_pending x o)) (sym e) (new_chain table c.args.form x c.args.operation o h c.in_default.not-Chain k)) c.new_chain.ensures
