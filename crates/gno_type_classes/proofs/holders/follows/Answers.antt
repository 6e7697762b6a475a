use Rattle.std.proofs.Common.{refl}
use Rattle.gno_method_sets.proofs.Rows.{some_map}
use Rattle.gno_type_classes.proofs.Found.{follows_it, follows_nothing}
use Rattle.gno_type_classes.proofs.TypedParts.{pointer_typed}
use Rattle.gno_type_classes.proofs.holders.follows.Goals as goal

pub returns-in-Some-clause-some : goal.returns-in-Some-clause-some
returns-in-Some-clause-some c = some_map _ _ c.pointed.result (λ it e s is. follows_it c.args.types.now s c.in-Some.row.now (c.in-Some.ensures.some s is) it c.in-Some.ensures.parts e) c.pointed.ensures.some

pub returns-in-Some-clause-none : goal.returns-in-Some-clause-none
returns-in-Some-clause-none c e s u is = follows_nothing c.args.types.now s c.in-Some.row.now (c.in-Some.ensures.some s is) (c.pointed.ensures.none e) u

pub returns-in-None-clause-none : goal.returns-in-None-clause-none
returns-in-None-clause-none c _ s u is h = c.in-None.ensures.none refl s is (h.underlying, h.by)

pub returns-in-Some-clause-typed : goal.returns-in-Some-clause-typed
returns-in-Some-clause-typed c = some_map _ _ c.pointed.result (λ it e. pointer_typed c.args.types.now c.in-Some.row.now c.in-Some.ensures.lawful it e) c.pointed.ensures.some
