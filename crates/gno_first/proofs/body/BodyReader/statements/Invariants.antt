use Rattle.std.proofs.Common.{◌≡◌, drop}
use Rattle.gno_first.specs.Form.{statement_of}
use Rattle.gno_first.specs.Options.{each}
use Rattle.gno_first.proofs.Each.{continued}
use Rattle.gno_first.proofs.body.BodyReader.statements.Given as goal

abbrev pub invariant-loop-statement : goal.invariant-loop-statement
invariant-loop-statement l = continued l.body (each (statement_of l.self.variables.now) (drop l.statement-index l.statements)) ≡ each (statement_of l.self.variables.now) l.statements
