use Rattle.std.proofs.Common.{refl}
use Rattle.gno_method_sets.proofs.Rows.{some_map}
use Rattle.gno_type_classes.proofs.Found.{keys_of, no_keys}
use Rattle.gno_type_classes.proofs.TypedParts.{map_typed}
use Rattle.gno_type_classes.proofs.structure.keys.Goals as goal

pub returns-in-Some-clause-some : goal.returns-in-Some-clause-some
returns-in-Some-clause-some c = some_map _ _ c.mapped.result (λ it e s is. keys_of c.args.types.now s c.in-Some.row.now (c.in-Some.ensures.some s is) it.0 it.1 c.in-Some.ensures.parts e) c.mapped.ensures.some

pub returns-in-Some-clause-none : goal.returns-in-Some-clause-none
returns-in-Some-clause-none c e s key value is = no_keys c.args.types.now s c.in-Some.row.now (c.in-Some.ensures.some s is) (c.mapped.ensures.none e) key value

pub returns-in-None-clause-none : goal.returns-in-None-clause-none
returns-in-None-clause-none c _ s key value is k = c.in-None.ensures.none refl s is (k.underlying, k.by)

pub returns-in-Some-clause-typed : goal.returns-in-Some-clause-typed
returns-in-Some-clause-typed c = some_map _ _ c.mapped.result (λ it e. map_typed c.args.types.now c.in-Some.row.now c.in-Some.ensures.lawful it.0 it.1 e) c.mapped.ensures.some
