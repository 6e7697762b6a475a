-- Calls have one verdict.
use Rattle.std.proofs.Common.{ℕ, Bool, true, false, List, [], ◌∷◌, Option, Some, None}
use Rattle.gno_scan.specs.declared.token.Pos.{Pos}
use Rattle.gno_terms.specs.declared.term.GoType.{GoType}
use Rattle.gno_terms.specs.Tables.{Table}
use Rattle.gno_typed.specs.declared.code.CodeId.{CodeId}
use Rattle.gno_typed.specs.declared.step.BoundOf.{BoundOf}
use Rattle.gno_typed.specs.declared.step.CalleeOf.{CalleeOf}
use Rattle.gno_typed.specs.declared.step.Crossing.{Crossing}
use Rattle.gno_embedding.specs.Walking.{HasOneDefinition}
use Rattle.gno_typing.specs.Laws.{HasOne}
use Rattle.gno_typing.specs.Verdicts.{Verdict, After, good}
use Rattle.gno_typing.specs.Lists.{all_found}
use Rattle.gno_typing.specs.Operands.{as_value}
use Rattle.gno_typing.specs.Calls.{Function, Handing, Passing, Several, alone, arguments_by, call, called, crossed, crossed_by, crossing_called, crossing_of, each_alone, each_passed, first_by, handed, method_called, not_called, numbered, passed, rest_passed, results_passed, several_in, several_of, value_called, where_all, without_first, wrongly_crossed}
use Rattle.gno_typing.specs.declared.form.FormOf.{FormOf}
use Rattle.gno_typing.specs.declared.operand.OperandOf.{OperandOf}
use Rattle.gno_typing.specs.declared.operand.OperandOf.TheVariants as o
use Rattle.gno_typing.specs.declared.value.ValueOf.{ValueOf}
use Rattle.gno_typing.specs.declared.value.ValueOf.TheVariants as v
use Rattle.gno_typing.proofs.OneParts.{after_both_one, after_one, bad_one, found_one, good_one, judged_one, kept_one, unjudged_one, wants_one, where_found_one}
use Rattle.gno_typing.proofs.OneGiven.{given_one}
use Rattle.gno_typing.proofs.OnePrimary.{as_value_one}
use Rattle.gno_typing.proofs.OneTypes.{function_once}

pub where_all_one : {A B : Type 0} (x : Option (List A)) (J : Verdict B → Type 0) → HasOne J → HasOne (where_all x J)
where_all_one (Some xs) J h = h
where_all_one None J h = unjudged_one

module _ (table : Table) (place : Pos) where
  -- ---- arguments

  pub passed_one : (p : Passing) → HasOne (passed table p)
  passed_one p = where_found_one _ (λ x. after_one _ _ (given_one table 49 _ p.to x) (λ y. good_one _)) p.value

  numbered_one : {A : Type 0} (x : Option (List (ValueOf GoType))) (fits : Bool) (J : Verdict A → Type 0) → HasOne J → HasOne (numbered x fits place J)
  numbered_one (Some xs) fits J h = wants_one _ 50 place J h
  numbered_one None true J h = h
  numbered_one None false J h = unjudged_one

  each_passed_one : (spread : Bool) (g : Function) (xs : List (Option (ValueOf GoType))) → HasOne (each_passed table place spread g xs)
  each_passed_one spread g xs = numbered_one (all_found xs) _ _ (after_one _ _ (judged_one (passed table) passed_one _) (λ forms. good_one _))

  pub handed_one : (at : Pos) (h : Handing) → HasOne (handed table at h)
  handed_one at h = wants_one _ 49 at _ (good_one _)

  results_passed_one : (spread : Bool) (g : Function) (at : Pos) (of : List GoType) (form : FormOf GoType) → HasOne (results_passed table place spread g at of form)
  results_passed_one spread g at of form = wants_one _ 50 place _ (after_one _ _ (judged_one (handed table at) (handed_one at) _) (λ given. good_one _))

  rest_passed_one : (spread : Bool) (g : Function) (xs : List (Option (OperandOf GoType))) → HasOne (rest_passed table place spread g xs)
  rest_passed_one spread g xs = after_one _ _ (kept_one as_value as_value_one xs) (each_passed_one spread g)

  arguments_one : (several : Option Several) (spread : Bool) (g : Function) (xs : List (Option (OperandOf GoType))) → HasOne (arguments_by several table place spread g xs)
  arguments_one (Some it) spread g xs = results_passed_one spread g it.at it.of it.form
  arguments_one None spread g xs = rest_passed_one spread g xs

  called_one : (spread : Bool) (form : FormOf GoType) (callee : CalleeOf GoType) (crossing : Option Crossing) (g : Function) (xs : List (Option (OperandOf GoType))) → HasOne (called table place spread form callee crossing g xs)
  called_one spread form callee crossing g xs = after_one _ _ (arguments_one (several_in xs) spread g xs) (λ arguments. good_one _)

  -- ---- crossing calls

  as_operand : (x : OperandOf GoType) → HasOne (After (as_value x) (λ y. good (o.Value y)))
  as_operand x = after_one _ _ (as_value_one x) (λ y. good_one _)

  first_one : (several : Option Several) (x : OperandOf GoType) → HasOne (first_by several x)
  first_one (Some it) x = good_one _
  first_one None (o.Cross at) = good_one _
  first_one None (o.Realm at) = good_one _
  first_one None (o.Results at of form) = as_operand (o.Results at of form)
  first_one None (o.Value x) = as_operand (o.Value x)
  first_one None (o.Method at of calls form bound) = as_operand (o.Method at of calls form bound)
  first_one None (o.Crossing at of code) = as_operand (o.Crossing at of code)
  first_one None (o.Type at of) = as_operand (o.Type at of)
  first_one None (o.OpenArray at element) = as_operand (o.OpenArray at element)
  first_one None (o.Package at path) = as_operand (o.Package at path)
  first_one None (o.Builtin at name) = as_operand (o.Builtin at name)

  wrongly_crossed_one : (spread : Bool) (g : Function) (first : Option (OperandOf GoType)) (xs : List (Option (OperandOf GoType))) → HasOne (wrongly_crossed table place spread g first xs)
  wrongly_crossed_one spread g None xs = after_one _ _ (kept_one as_value as_value_one xs) (λ ys. unjudged_one)
  wrongly_crossed_one spread g (Some x) xs = after_both_one _ _ _ (first_one (several_of (Some x)) x) (rest_passed_one spread g xs) (λ y arguments. bad_one 63 place)

  crossed_by_one : (crossing : Option Crossing) (spread : Bool) (form : FormOf GoType) (g : Function) (first : Option (OperandOf GoType)) (xs : List (Option (OperandOf GoType))) → HasOne (crossed_by crossing table place spread form g first xs)
  crossed_by_one None spread form g first xs = wrongly_crossed_one spread g first xs
  crossed_by_one (Some crossing) spread form g first xs = after_one _ _ (rest_passed_one spread g xs) (λ arguments. good_one _)

  crossed_one : (own spread : Bool) (form : FormOf GoType) (g : Function) (xs : List (Option (OperandOf GoType))) → HasOne (crossed own table place spread form g xs)
  crossed_one own spread form g [] = bad_one 50 place
  crossed_one own spread form g (first ∷ xs) = crossed_by_one (crossing_of own first) spread form (without_first g) first xs

  -- ---- what is no function

  alone_one : (x : OperandOf GoType) → HasOne (alone x)
  alone_one (o.Type at of) = good_one _
  alone_one (o.OpenArray at element) = good_one _
  alone_one (o.Value z) = as_operand (o.Value z)
  alone_one (o.Method at of calls form bound) = as_operand (o.Method at of calls form bound)
  alone_one (o.Crossing at of code) = as_operand (o.Crossing at of code)
  alone_one (o.Results at of form) = as_operand (o.Results at of form)
  alone_one (o.Package at path) = as_operand (o.Package at path)
  alone_one (o.Builtin at name) = as_operand (o.Builtin at name)
  alone_one (o.Cross at) = as_operand (o.Cross at)
  alone_one (o.Realm at) = as_operand (o.Realm at)

  each_alone_one : (several : Option Several) (xs : List (Option (OperandOf GoType))) → HasOne (each_alone several xs)
  each_alone_one (Some it) xs = good_one xs
  each_alone_one None xs = kept_one alone alone_one xs

  pub not_called_one : {B : Type 0} (code : ℕ) (xs : List (Option (OperandOf GoType))) → HasOne {A = B} (not_called code place xs)
  not_called_one code xs = after_one _ _ (each_alone_one (several_in xs) xs) (λ ys. where_all_one (all_found ys) _ (bad_one code place))

  -- ---- all

  module _ (one : HasOneDefinition table) where
    value_called_one : (spread : Bool) (xs : List (Option (OperandOf GoType))) (x : ValueOf GoType) → HasOne (value_called table place spread xs x)
    value_called_one spread xs (v.Typed at s stands calls form) = found_one _ _ _ (function_once table one s) (λ g. called_one spread form _ None g xs) (not_called_one 51 xs)
    value_called_one spread xs (v.Constant at s x) = not_called_one 51 xs
    value_called_one spread xs (v.Nil at) = not_called_one 51 xs
    value_called_one spread xs (v.Pending at needs calls form) = not_called_one 51 xs

    method_called_one : (spread : Bool) (xs : List (Option (OperandOf GoType))) (at : Pos) (of : GoType) (form : FormOf GoType) (bound : BoundOf GoType) → HasOne (method_called table place spread xs at of form bound)
    method_called_one spread xs at of form bound = found_one _ _ _ (function_once table one of) (λ g. called_one spread form _ None g xs) (not_called_one 51 xs)

    crossing_called_one : (own spread : Bool) (xs : List (Option (OperandOf GoType))) (at : Pos) (of : GoType) (code : CodeId) → HasOne (crossing_called own table place spread xs at of code)
    crossing_called_one own spread xs at of code = found_one _ _ _ (function_once table one of) (λ g. crossed_one own spread _ g xs) (not_called_one 51 xs)

    no_callee : (x : OperandOf GoType) (xs : List (Option (OperandOf GoType))) → HasOne {A = OperandOf GoType} (After (as_value x) (λ y. not_called 51 place xs))
    no_callee x xs = after_one _ _ (as_value_one x) (λ y. not_called_one 51 xs)

    pub call_one : (path : List ℕ) (direct spread : Bool) (x : OperandOf GoType) (xs : List (Option (OperandOf GoType))) → HasOne (call path direct table place spread x xs)
    unfolding call
    call_one path direct spread (o.Crossing at of code) xs = crossing_called_one _ spread xs at of code
    call_one path direct spread (o.Method at of calls form bound) xs = method_called_one spread xs at of form bound
    call_one path direct spread (o.Value x) xs = value_called_one spread xs x
    call_one path direct spread (o.Results at of form) xs = no_callee (o.Results at of form) xs
    call_one path direct spread (o.Type at of) xs = no_callee (o.Type at of) xs
    call_one path direct spread (o.OpenArray at element) xs = no_callee (o.OpenArray at element) xs
    call_one path direct spread (o.Package at of_path) xs = no_callee (o.Package at of_path) xs
    call_one path direct spread (o.Builtin at name) xs = no_callee (o.Builtin at name) xs
    call_one path direct spread (o.Cross at) xs = no_callee (o.Cross at) xs
    call_one path direct spread (o.Realm at) xs = no_callee (o.Realm at) xs
