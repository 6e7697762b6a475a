-- Calls of the predeclared functions have one verdict.
use Rattle.std.proofs.Common.{ℕ, Bool, true, false, List, [], ◌∷◌, Option, Some, None}
use Rattle.gno_constants.specs.declared.constant.Constant.{Constant}
use Rattle.gno_constants.specs.declared.constant.Constant.TheVariants as c
use Rattle.gno_scan.specs.declared.token.Pos.{Pos}
use Rattle.gno_terms.specs.declared.term.GoType.{GoType}
use Rattle.gno_terms.specs.Tables.{Table}
use Rattle.gno_typed.specs.declared.expr.TypedExprOf.{TypedExprOf}
use Rattle.gno_embedding.specs.Walking.{HasOneDefinition}
use Rattle.gno_typing.specs.Laws.{HasOne}
use Rattle.gno_typing.specs.Verdicts.{After, bad}
use Rattle.gno_typing.specs.Builtins as rule
use Rattle.gno_typing.specs.Builtins.{Builtin, IsSize, appended, appended_first, appended_list, appended_spread, appended_to, builtin, copied, copied_results, deleted, deleted_key, deleted_results, length_of, made_by, made_new, made_of, made_type, newly, is_append, measured, measured_constant, measured_typed, of_arguments, of_kept_by, of_plain, of_results, of_several, of_values, on_values, panicked, printed, recovered, spread_constant, spread_typed}
use Rattle.gno_typing.specs.Builtins.Builtin.{Append, Cap, Copy, Delete, Len, Make, New, Panic, Print, Println, Recover}
use Rattle.gno_typing.specs.Calls.{Several, handed, passed, several_in, where_all}
use Rattle.gno_typing.specs.Lists.{all_found}
use Rattle.gno_typing.specs.Operands.{as_value}
use Rattle.gno_typing.specs.declared.form.FormOf.{FormOf}
use Rattle.gno_typing.specs.declared.operand.OperandOf.{OperandOf}
use Rattle.gno_typing.specs.declared.operand.OperandOf.TheVariants as o
use Rattle.gno_typing.specs.declared.value.Standing.{Standing}
use Rattle.gno_typing.specs.declared.value.ValueOf.{ValueOf}
use Rattle.gno_typing.specs.declared.value.ValueOf.TheVariants as v
use Rattle.gno_typing.proofs.OneParts.{after_one, bad_one, found_one, found_two, good_one, judged_one, kept_one, some_one, unjudged_one, wants_one, where_one}
use Rattle.gno_typing.proofs.OneCall.{handed_one, passed_one, where_all_one}
use Rattle.gno_typing.proofs.OneGiven.{given_one}
use Rattle.gno_typing.proofs.OnePrimary.{as_value_one, counted_one, settled_one, taken_one}
use Rattle.gno_typing.proofs.OneTypes.{keys_once, length_once, slice_once}

on_values_one : (x : Option (List (ValueOf GoType))) (go : List (ValueOf GoType) → rule.Rule) → ((xs : List (ValueOf GoType)) → HasOne (go xs)) → HasOne (on_values x go)
on_values_one (Some xs) go h = h xs
on_values_one None go h = unjudged_one

module _ (table : Table) (place : Pos) (one : HasOneDefinition table) where
  length_one : (len calls : Bool) (x : TypedExprOf GoType) (n : ℕ) → HasOne (length_of len calls place x n)
  length_one len true x n = good_one _
  length_one len false x n = good_one _

  measured_typed_one : (len : Bool) (s : GoType) (calls : Bool) (form : FormOf GoType) → HasOne (measured_typed len table place s calls form)
  measured_typed_one len s calls form = found_one _ _ _ (length_once table one s) (λ n. length_one len calls _ n) (wants_one _ 61 place _ (good_one _))

  measured_constant_one : (len : Bool) (x : Constant) → HasOne (measured_constant len place x)
  measured_constant_one true (c.Text bytes) = good_one _
  measured_constant_one true (c.Whole n) = bad_one 61 place
  measured_constant_one true (c.Bool b) = bad_one 61 place
  measured_constant_one false x = bad_one 61 place

  measured_one : (len : Bool) (xs : List (ValueOf GoType)) → HasOne (measured len table place xs)
  measured_one len [] = bad_one 61 place
  measured_one len (v.Constant at s x ∷ []) = measured_constant_one len x
  measured_one len (v.Typed at s stands calls form ∷ []) = measured_typed_one len s calls form
  measured_one len (v.Nil at ∷ []) = bad_one 61 place
  measured_one len (v.Pending at needs calls form ∷ []) = bad_one 61 place
  measured_one len (v.Constant at s x ∷ y ∷ xs) = bad_one 61 place
  measured_one len (v.Typed at s stands calls form ∷ y ∷ xs) = bad_one 61 place
  measured_one len (v.Nil at ∷ y ∷ xs) = bad_one 61 place
  measured_one len (v.Pending at needs calls form ∷ y ∷ xs) = bad_one 61 place

  copied_one : (xs : List (ValueOf GoType)) → HasOne (copied table place xs)
  copied_one [] = bad_one 61 place
  copied_one (v.Constant at s x ∷ xs) = bad_one 61 place
  copied_one (v.Nil at ∷ xs) = bad_one 61 place
  copied_one (v.Pending at needs calls form ∷ xs) = bad_one 61 place
  copied_one (v.Typed at s stands calls form ∷ []) = bad_one 61 place
  copied_one (v.Typed at s stands calls form ∷ v.Constant a u x ∷ []) = after_one _ _ (settled_one table 61 place (v.Constant a u x)) (λ y. wants_one _ 61 place _ (good_one _))
  copied_one (v.Typed at s stands calls form ∷ v.Typed a u on_right calls_right from ∷ []) = wants_one _ 61 place _ (good_one _)
  copied_one (v.Typed at s stands calls form ∷ v.Nil a ∷ []) = bad_one 61 place
  copied_one (v.Typed at s stands calls form ∷ v.Pending a needs calls_right from ∷ []) = bad_one 61 place
  copied_one (v.Typed at s stands calls form ∷ v.Constant a u x ∷ y ∷ xs) = bad_one 61 place
  copied_one (v.Typed at s stands calls form ∷ v.Typed a u on_right calls_right from ∷ y ∷ xs) = bad_one 61 place
  copied_one (v.Typed at s stands calls form ∷ v.Nil a ∷ y ∷ xs) = bad_one 61 place
  copied_one (v.Typed at s stands calls form ∷ v.Pending a needs calls_right from ∷ y ∷ xs) = bad_one 61 place

  deleted_key_one : (s : GoType) (form : FormOf GoType) (key : ValueOf GoType) → HasOne (deleted_key table place s form key)
  deleted_key_one s form key = found_two _ _ _ (λ key of value to. keys_once table one s key of value to) (λ of value. after_one _ _ (given_one table 49 _ of key) (λ x. good_one _)) (bad_one 61 place)

  deleted_one : (xs : List (ValueOf GoType)) → HasOne (deleted table place xs)
  deleted_one [] = bad_one 61 place
  deleted_one (v.Constant at s x ∷ xs) = bad_one 61 place
  deleted_one (v.Nil at ∷ xs) = bad_one 61 place
  deleted_one (v.Pending at needs calls form ∷ xs) = bad_one 61 place
  deleted_one (v.Typed at s stands calls form ∷ []) = bad_one 61 place
  deleted_one (v.Typed at s stands calls form ∷ key ∷ []) = deleted_key_one s form key
  deleted_one (v.Typed at s stands calls form ∷ key ∷ y ∷ xs) = bad_one 61 place

  panicked_one : (xs : List (ValueOf GoType)) → HasOne (panicked table place xs)
  panicked_one [] = bad_one 61 place
  panicked_one (x ∷ []) = after_one _ _ (given_one table 49 _ rule.any x) (λ y. good_one _)
  panicked_one (x ∷ y ∷ xs) = bad_one 61 place

  printed_one : (line : Bool) (xs : List (ValueOf GoType)) → HasOne (printed line table place xs)
  printed_one line xs = after_one _ _ (judged_one _ (λ x. after_one _ _ (settled_one table 61 place x) (λ y. good_one _)) xs) (λ forms. good_one _)

  recovered_one : (xs : List (ValueOf GoType)) → HasOne (recovered place xs)
  recovered_one [] = good_one _
  recovered_one (x ∷ xs) = bad_one 61 place

  of_values_one : (function : Builtin) (xs : List (ValueOf GoType)) → HasOne (of_values function table place xs)
  of_values_one Cap xs = measured_one false xs
  of_values_one Copy xs = copied_one xs
  of_values_one Delete xs = deleted_one xs
  of_values_one Len xs = measured_one true xs
  of_values_one Panic xs = panicked_one xs
  of_values_one Print xs = printed_one false xs
  of_values_one Println xs = printed_one true xs
  of_values_one Recover xs = recovered_one xs
  of_values_one Append xs = bad_one 61 place
  of_values_one Make xs = bad_one 61 place
  of_values_one New xs = bad_one 61 place

  -- ---- `append`

  spread_typed_one : (s element : GoType) (form : FormOf GoType) (at : Pos) (u : GoType) (x : ValueOf GoType) → HasOne (spread_typed table place s element form at u x)
  spread_typed_one s element form at u x = where_one _ _ _ (after_one _ _ (settled_one table 61 place x) (λ y. good_one _)) (after_one _ _ (given_one table 49 at _ x) (λ y. good_one _))

  spread_constant_one : (s element : GoType) (form : FormOf GoType) (at : Pos) (u : GoType) (x : Constant) → HasOne (spread_constant table place s element form at u x)
  spread_constant_one s element form at u x = where_one _ _ _ (after_one _ _ (settled_one table 61 place (v.Constant at u x)) (λ y. good_one _)) (after_one _ _ (given_one table 49 at _ (v.Constant at u x)) (λ y. good_one _))

  more_one : (xs : List (Option (ValueOf GoType))) → HasOne {A = OperandOf GoType} (where_all (all_found xs) (bad 61 place))
  more_one xs = where_all_one (all_found xs) _ (bad_one 61 place)

  appended_spread_one : (s element : GoType) (form : FormOf GoType) (xs : List (Option (ValueOf GoType))) → HasOne (appended_spread table place s element form xs)
  appended_spread_one s element form [] = more_one []
  appended_spread_one s element form (None ∷ []) = unjudged_one
  appended_spread_one s element form (None ∷ y ∷ xs) = more_one (None ∷ y ∷ xs)
  appended_spread_one s element form (Some (v.Constant at u x) ∷ []) = spread_constant_one s element form at u x
  appended_spread_one s element form (Some (v.Typed at u stands calls from) ∷ []) = spread_typed_one s element form at u (v.Typed at u stands calls from)
  appended_spread_one s element form (Some (v.Nil at) ∷ []) = after_one _ _ (given_one table 49 _ _ (v.Nil at)) (λ y. good_one _)
  appended_spread_one s element form (Some (v.Pending at needs calls from) ∷ []) = after_one _ _ (given_one table 49 _ _ (v.Pending at needs calls from)) (λ y. good_one _)
  appended_spread_one s element form (Some (v.Constant at u x) ∷ y ∷ xs) = more_one (Some (v.Constant at u x) ∷ y ∷ xs)
  appended_spread_one s element form (Some (v.Typed at u stands calls from) ∷ y ∷ xs) = more_one (Some (v.Typed at u stands calls from) ∷ y ∷ xs)
  appended_spread_one s element form (Some (v.Nil at) ∷ y ∷ xs) = more_one (Some (v.Nil at) ∷ y ∷ xs)
  appended_spread_one s element form (Some (v.Pending at needs calls from) ∷ y ∷ xs) = more_one (Some (v.Pending at needs calls from) ∷ y ∷ xs)

  appended_list_one : (s element : GoType) (form : FormOf GoType) (xs : List (Option (ValueOf GoType))) → HasOne (appended_list table place s element form xs)
  appended_list_one s element form xs = after_one _ _ (judged_one (passed table) (passed_one table place) _) (λ forms. good_one _)

  appended_to_one : (spread : Bool) (s : GoType) (form : FormOf GoType) (xs : List (Option (ValueOf GoType))) → (element : GoType) → HasOne (appended_to spread table place s form xs element)
  appended_to_one true s form xs element = appended_spread_one s element form xs
  appended_to_one false s form xs element = appended_list_one s element form xs

  appended_typed_one : (spread : Bool) (at : Pos) (s : GoType) (stands : Standing) (calls : Bool) (form : FormOf GoType) (xs : List (Option (ValueOf GoType))) → HasOne (appended spread table place (Some (v.Typed at s stands calls form) ∷ xs))
  appended_typed_one spread at s stands calls form xs = found_one _ _ _ (slice_once table one s) (appended_to_one spread s form xs) (more_one xs)

  appended_one : (spread : Bool) (xs : List (Option (ValueOf GoType))) → HasOne (appended spread table place xs)
  appended_one spread [] = bad_one 61 place
  appended_one spread (None ∷ xs) = unjudged_one
  appended_one spread (Some (v.Typed at s stands calls form) ∷ xs) = appended_typed_one spread at s stands calls form xs
  appended_one spread (Some (v.Constant at s x) ∷ xs) = more_one (Some (v.Constant at s x) ∷ xs)
  appended_one spread (Some (v.Nil at) ∷ xs) = more_one (Some (v.Nil at) ∷ xs)
  appended_one spread (Some (v.Pending at needs calls form) ∷ xs) = more_one (Some (v.Pending at needs calls form) ∷ xs)

  plain_one : (spread : Bool) (function : Builtin) (xs : List (Option (ValueOf GoType))) → HasOne (of_plain spread function table place xs)
  plain_one true function xs = more_one xs
  plain_one false function xs = on_values_one (all_found xs) _ (of_values_one function)

  of_kept_one : (append : Bool) (function : Builtin) (spread : Bool) (xs : List (Option (ValueOf GoType))) → HasOne (of_kept_by append function spread table place xs)
  of_kept_one true function spread xs = appended_one spread xs
  of_kept_one false function spread xs = plain_one spread function xs

  -- ---- one call gives all arguments

  appended_results_one : (it : Several) (of : List GoType) → HasOne (appended_first table place it of)
  appended_results_one it [] = bad_one 61 place
  appended_results_one it (s ∷ of) = some_one _ 61 place _ (slice_once table one s) (λ element. after_one _ _ (judged_one (handed table it.at) (handed_one table place it.at) _) (λ given. good_one _))

  copied_results_one : (it : Several) (of : List GoType) → HasOne (copied_results table place it of)
  copied_results_one it [] = bad_one 61 place
  copied_results_one it (s ∷ []) = bad_one 61 place
  copied_results_one it (s ∷ u ∷ []) = wants_one _ 61 place _ (good_one _)
  copied_results_one it (s ∷ u ∷ more ∷ of) = bad_one 61 place

  deleted_two_one : (it : Several) (s u : GoType) → HasOne (deleted_results table place it (s ∷ u ∷ []))
  deleted_two_one it s u = found_two _ _ _ (λ key of value to. keys_once table one s key of value to) (λ key value. wants_one _ 49 it.at _ (good_one _)) (bad_one 61 place)

  deleted_results_one : (it : Several) (of : List GoType) → HasOne (deleted_results table place it of)
  deleted_results_one it [] = bad_one 61 place
  deleted_results_one it (s ∷ []) = bad_one 61 place
  deleted_results_one it (s ∷ u ∷ []) = deleted_two_one it s u
  deleted_results_one it (s ∷ u ∷ more ∷ of) = bad_one 61 place

  of_results_one : (function : Builtin) (it : Several) → HasOne (of_results function table place it)
  of_results_one Append it = appended_results_one it it.of
  of_results_one Copy it = copied_results_one it it.of
  of_results_one Delete it = deleted_results_one it it.of
  of_results_one Print it = good_one _
  of_results_one Println it = good_one _
  of_results_one Cap it = bad_one 61 place
  of_results_one Len it = bad_one 61 place
  of_results_one Make it = bad_one 61 place
  of_results_one New it = bad_one 61 place
  of_results_one Panic it = bad_one 61 place
  of_results_one Recover it = bad_one 61 place

  of_several_one : (spread : Bool) (function : Builtin) (it : Several) → HasOne (of_several spread function table place it)
  of_several_one true function it = bad_one 61 place
  of_several_one false function it = of_results_one function it

  of_arguments_one : (several : Option Several) (function : Builtin) (spread : Bool) (xs : List (Option (OperandOf GoType))) → HasOne (of_arguments several function spread table place xs)
  of_arguments_one (Some it) function spread xs = of_several_one spread function it
  of_arguments_one None function spread xs = after_one _ _ (kept_one as_value as_value_one xs) (of_kept_one (is_append function) function spread)

  -- ---- `make` and `new`

  made_of_one : (s : GoType) (xs : List (ValueOf GoType)) → HasOne (made_of table place s xs)
  made_of_one s xs = wants_one _ 61 place _ (after_one _ _ (judged_one _ (taken_one table) xs)
      (λ sizes. after_one _ _ (judged_one _ (counted_one table 61 61 IsSize place) sizes) (λ ns. wants_one _ 61 place _ (good_one _))))

  newly_one : (s : GoType) (xs : List (ValueOf GoType)) → HasOne (newly place s xs)
  newly_one s [] = good_one _
  newly_one s (x ∷ xs) = bad_one 61 place

  made_by_one : (make spread : Bool) (s : GoType) (xs : List (ValueOf GoType)) → HasOne (made_by make spread table place s xs)
  made_by_one make true s xs = bad_one 61 place
  made_by_one true false s xs = made_of_one s xs
  made_by_one false false s xs = newly_one s xs

  no_type_one : (x : OperandOf GoType) (xs : List (Option (ValueOf GoType))) → HasOne {A = OperandOf GoType} (After (as_value x) (λ y. where_all (all_found xs) (bad 61 place)))
  no_type_one x xs = after_one _ _ (as_value_one x) (λ y. more_one xs)

  made_type_one : (make spread : Bool) (x : OperandOf GoType) (xs : List (Option (ValueOf GoType))) → HasOne (made_type make spread table place (Some x) xs)
  made_type_one make spread (o.Type at s) xs = on_values_one (all_found xs) _ (made_by_one make spread s)
  made_type_one make spread (o.Value x) xs = no_type_one (o.Value x) xs
  made_type_one make spread (o.Method at of calls form bound) xs = no_type_one (o.Method at of calls form bound) xs
  made_type_one make spread (o.Crossing at of code) xs = no_type_one (o.Crossing at of code) xs
  made_type_one make spread (o.Results at of form) xs = no_type_one (o.Results at of form) xs
  made_type_one make spread (o.OpenArray at element) xs = no_type_one (o.OpenArray at element) xs
  made_type_one make spread (o.Package at path) xs = no_type_one (o.Package at path) xs
  made_type_one make spread (o.Builtin at name) xs = no_type_one (o.Builtin at name) xs
  made_type_one make spread (o.Cross at) xs = no_type_one (o.Cross at) xs
  made_type_one make spread (o.Realm at) xs = no_type_one (o.Realm at) xs

  made_new_one : (make spread : Bool) (xs : List (Option (OperandOf GoType))) → HasOne (made_new make spread table place xs)
  made_new_one make spread [] = bad_one 61 place
  made_new_one make spread (None ∷ xs) = after_one _ _ (kept_one as_value as_value_one xs) (λ ys. unjudged_one)
  made_new_one make spread (Some x ∷ xs) = after_one _ _ (kept_one as_value as_value_one xs) (made_type_one make spread x)

  pub builtin_one : (function : Builtin) (spread : Bool) (xs : List (Option (OperandOf GoType))) → HasOne (builtin function table place spread xs)
  unfolding builtin
  builtin_one Make spread xs = made_new_one true spread xs
  builtin_one New spread xs = made_new_one false spread xs
  builtin_one Append spread xs = of_arguments_one (several_in xs) Append spread xs
  builtin_one Cap spread xs = of_arguments_one (several_in xs) Cap spread xs
  builtin_one Copy spread xs = of_arguments_one (several_in xs) Copy spread xs
  builtin_one Delete spread xs = of_arguments_one (several_in xs) Delete spread xs
  builtin_one Len spread xs = of_arguments_one (several_in xs) Len spread xs
  builtin_one Panic spread xs = of_arguments_one (several_in xs) Panic spread xs
  builtin_one Print spread xs = of_arguments_one (several_in xs) Print spread xs
  builtin_one Println spread xs = of_arguments_one (several_in xs) Println spread xs
  builtin_one Recover spread xs = of_arguments_one (several_in xs) Recover spread xs
