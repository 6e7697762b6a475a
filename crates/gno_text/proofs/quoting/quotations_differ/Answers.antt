use Rattle.std.proofs.Common.{arith}
use Rattle.gno_text.proofs.Differ.{same_quoted}
use Rattle.gno_text.proofs.quoting.quotations_differ.Goals as goal

pub returns : goal.returns
returns c = same_quoted c.args.first.now c.args.second.now (λ i. omega (arith, c.type_inv.first i)) (λ i. omega (arith, c.type_inv.second i))
