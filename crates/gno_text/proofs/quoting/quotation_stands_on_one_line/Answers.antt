use Rattle.std.proofs.Common.{arith}
use Rattle.gno_text.proofs.Plain.{quoted-plain}
use Rattle.gno_text.proofs.quoting.quotation_stands_on_one_line.Goals as goal

pub returns : goal.returns
returns c = quoted-plain c.args.text.now (λ i. omega (arith, c.type_inv.text i))
