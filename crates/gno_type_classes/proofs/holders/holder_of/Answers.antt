use Rattle.std.proofs.Common.{refl}
use Rattle.gno_method_sets.proofs.Rows.{some_map}
use Rattle.gno_type_classes.proofs.Holding.{itself_holder, no_holder}
use Rattle.gno_type_classes.proofs.Known.{not_there}
use Rattle.gno_type_classes.proofs.holders.holder_of.Goals as goal

pub returns-then-not-contains-clause-none : goal.returns-then-not-contains-clause-none
returns-then-not-contains-clause-none c _ s h is _ = not_there c.args.types.now c.args.t s c.contains.result c.contains.ensures c.if-not-contains.true is

pub returns-in-Some-clause-some : goal.returns-in-Some-clause-some
returns-in-Some-clause-some c = some_map _ _ c.holder_at.result (λ it h s is. let u = c.in-Some.ensures.some s is in let own = h s u.0 is u.1 u.2 in (u.0, own.0, own.1)) c.holder_at.ensures.some

pub returns-in-Some-clause-none : goal.returns-in-Some-clause-none
returns-in-Some-clause-none c e s h is = let u = c.in-Some.ensures.some s is in no_holder c.args.types.now c.have_one_definition.ensures s u.0 u.1 (λ b. c.holder_at.ensures.none e u.0 b u.2) h

pub returns-in-None-clause-some : goal.returns-in-None-clause-some
returns-in-None-clause-some c s is = (s, is, itself_holder c.args.types.now s (λ u. c.in-None.ensures.none refl s u is))
