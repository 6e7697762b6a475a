use Rattle.std.proofs.Common.{refl}
use Rattle.gno_method_sets.proofs.Rows.{some_map}
use Rattle.gno_type_classes.proofs.Found.{function_of, no_function_of, params_below, results_below}
use Rattle.gno_type_classes.proofs.TypedParts.{params_typed, results_typed}
use Rattle.gno_type_classes.proofs.structure.function.Goals as goal

pub returns-in-Some-clause-some : goal.returns-in-Some-clause-some
returns-in-Some-clause-some c = some_map _ _ c.passed.result (λ it e s is. function_of c.args.types.now s c.in-Some.row.now (c.in-Some.ensures.some s is) it.params.now it.variadic it.results.now e) c.passed.ensures.some

pub returns-in-Some-clause-params : goal.returns-in-Some-clause-params
returns-in-Some-clause-params c = some_map _ _ c.passed.result (λ it e. params_below c.args.types.now c.in-Some.row.now c.in-Some.ensures.parts it.params.now it.variadic it.results.now e) c.passed.ensures.some

pub returns-in-Some-clause-results : goal.returns-in-Some-clause-results
returns-in-Some-clause-results c = some_map _ _ c.passed.result (λ it e. results_below c.args.types.now c.in-Some.row.now c.in-Some.ensures.parts it.params.now it.variadic it.results.now e) c.passed.ensures.some

pub returns-in-Some-clause-none : goal.returns-in-Some-clause-none
returns-in-Some-clause-none c e s g is = no_function_of c.args.types.now s c.in-Some.row.now (c.in-Some.ensures.some s is) (c.passed.ensures.none e) g

pub returns-in-None-clause-none : goal.returns-in-None-clause-none
returns-in-None-clause-none c _ s g is h = c.in-None.ensures.none refl s is (h.underlying, h.by)

pub returns-in-Some-clause-typed_params : goal.returns-in-Some-clause-typed_params
returns-in-Some-clause-typed_params c = some_map _ _ c.passed.result (λ it e. params_typed c.args.types.now c.in-Some.row.now c.in-Some.ensures.lawful it.params.now it.variadic it.results.now e) c.passed.ensures.some

pub returns-in-Some-clause-typed_results : goal.returns-in-Some-clause-typed_results
returns-in-Some-clause-typed_results c = some_map _ _ c.passed.result (λ it e. results_typed c.args.types.now c.in-Some.row.now c.in-Some.ensures.lawful it.params.now it.variadic it.results.now e) c.passed.ensures.some
