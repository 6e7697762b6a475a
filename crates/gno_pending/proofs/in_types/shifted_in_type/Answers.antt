use Rattle.gno_giving.specs.InTypes.{InTypeStands}
use Rattle.gno_pending.proofs.DefaultedChains.{as_shifted}
use Rattle.gno_pending.proofs.Parts.{made_of, made_of_none}
use Rattle.gno_pending.proofs.in_types.shifted_in_type.Goals as goal

pub returns-in_ok-form-in-Some : goal.returns-in_ok-form-in-Some
returns-in_ok-form-in-Some c table y count h stands = made_of (InTypeStands table) (InTypeStands table) (as_shifted c.args.pos c.args.operator count) c.args.x y c.in-Some.x _ c.in-Some.is h
    (λ b k. record { of = k.of; form = c.in_ok-form-in-Some.ensures table b.of b.form count k.of.is k.form stands })

pub returns-in-None : goal.returns-in-None
returns-in-None c table y count h stands = made_of_none (InTypeStands table) (InTypeStands table) (as_shifted c.args.pos c.args.operator count) c.args.x y c.in-None.is h
