use Rattle.std.proofs.Common.{sym, ◌∙◌, arith, rules}
use Rattle.gno_first.specs.Form.{statement_of}
use Rattle.gno_first.specs.Options.{each}
use Rattle.gno_first.proofs.Each.{rest_at, each_start, each_next, each_failed, each_over, fails_with}
use Rattle.gno_first.proofs.body.BodyReader.statements.Goals as goal

pub loop-statement-init : goal.loop-statement-init
loop-statement-init c = each_start (statement_of c.args.self.now.variables.now) c.args.statements.now c.new-body.result c.new-body.ensures

pub loop-statement-preserved : goal.loop-statement-preserved
loop-statement-preserved c =
    let at = rest_at c.args.statements.now c.loop-statement.statement-index c.statement-item.result (omega arith) c.statement-item.is in
    rw c.in-Ok.ensures.ok
    (each_next (statement_of c.args.self.now.variables.now) c.loop-statement.body c.args.statements.now c.loop-statement.statement-index _ _ at c.in_ok-statement.ensures
    ∙ c.loop-statement.invariant)

pub returns-in_err-statement : goal.returns-in_err-statement
returns-in_err-statement c =
    let f = statement_of c.args.self.now.variables.now in
    let at = rest_at c.args.statements.now c.loop-statement.statement-index c.statement-item.result (omega arith) c.statement-item.is in
    let e = fails_with (f c.statement-item.result) (each f c.args.statements.now) _
    (λ none. sym c.loop-statement.invariant ∙ each_failed f c.loop-statement.body c.args.statements.now c.loop-statement.statement-index _ at none) c.in_err-statement.ensures in
    search (rules, e)

pub returns : goal.returns
returns c = sym c.loop-statement.invariant ∙ each_over (statement_of c.args.self.now.variables.now) c.loop-statement.body c.args.statements.now c.loop-statement.statement-index (omega arith)
