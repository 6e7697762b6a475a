use Rattle.std.proofs.Common.{rules}
use Rattle.gno_giving.proofs.StandingForms.{closed_by}
use Rattle.gno_giving.proofs.forms.closed.Goals as goal

pub returns-in_ok-operand-in-Primary-clause-stands : goal.returns-in_ok-operand-in-Primary-clause-stands
returns-in_ok-operand-in-Primary-clause-stands c table y h = closed_by table c.args.form _ (search rules) y h

pub returns-in_ok-first-in-Binary-clause-stands : goal.returns-in_ok-first-in-Binary-clause-stands
returns-in_ok-first-in-Binary-clause-stands c table y h = closed_by table c.args.form _ (search rules) y h

pub returns-in_ok-first-in-Logic-clause-stands : goal.returns-in_ok-first-in-Logic-clause-stands
returns-in_ok-first-in-Logic-clause-stands c table y h = closed_by table c.args.form _ (search rules) y h
