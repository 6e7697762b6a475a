-- Calls of the predeclared functions whose arguments were found have a form or a fault.
use Rattle.std.proofs.Common.{ℕ, Bool, true, false, List, [], ◌∷◌, length, Option, Some, None, inl, inr, rules}
use Rattle.gno_constants.specs.declared.constant.Constant.{Constant}
use Rattle.gno_constants.specs.declared.constant.Constant.TheVariants as c
use Rattle.gno_scan.specs.declared.token.Pos.{Pos}
use Rattle.gno_terms.specs.declared.term.GoType.{GoType}
use Rattle.gno_terms.specs.Tables.{Table}
use Rattle.gno_typed.specs.declared.expr.TypedExprOf.{TypedExprOf}
use Rattle.gno_typing.specs.Laws.{HasForm}
use Rattle.gno_typing.specs.Verdicts.{Verdict, After, bad}
use Rattle.gno_typing.specs.Builtins as rule
use Rattle.gno_typing.specs.Builtins.{Builtin, IsSize, appended, appended_first, appended_list, appended_spread, appended_to, builtin, copied, copied_results, deleted, deleted_key, deleted_results, length_of, made_by, made_new, made_of, made_type, newly, is_append, measured, measured_constant, measured_typed, of_arguments, of_kept_by, of_plain, of_results, of_several, of_values, on_values, panicked, printed, recovered, spread_constant, spread_typed}
use Rattle.gno_typing.specs.Builtins.Builtin.{Append, Cap, Copy, Delete, Len, Make, New, Panic, Print, Println, Recover}
use Rattle.gno_typing.specs.Calls.{Several, handed, passed, several_in, times, where_all}
use Rattle.gno_typing.specs.Lists.{all_found}
use Rattle.gno_typing.specs.Operands.{as_value}
use Rattle.gno_typing.specs.declared.form.FormOf.{FormOf}
use Rattle.gno_typing.specs.declared.operand.OperandOf.{OperandOf}
use Rattle.gno_typing.specs.declared.operand.OperandOf.TheVariants as o
use Rattle.gno_typing.specs.declared.value.Standing.{Standing}
use Rattle.gno_typing.specs.declared.value.ValueOf.{ValueOf}
use Rattle.gno_typing.specs.declared.value.ValueOf.TheVariants as v
use Rattle.gno_typing.proofs.CallForms.{AreFound, after_kept, each_handing, each_of, each_passing, found_all, judged_whole}
use Rattle.gno_typing.proofs.GivenForms.{given_form}
use Rattle.gno_typing.proofs.Parts.{Formed, after_form, bad_form, good_form, some_form, wants_form, where_form}
use Rattle.gno_typing.proofs.PrimaryForms.{as_value_form, counted_form, settled_form, taken_form}

where_form_all : {A B : Type 0} (x : Option (List A)) → Formed x → (J : Verdict B → Type 0) → HasForm J → HasForm (where_all x J)
where_form_all (Some xs) formed J h = h
where_form_all None formed J h = absurd (search (rules, formed.1))

on_values_form : (x : Option (List (ValueOf GoType))) → Formed x → (go : List (ValueOf GoType) → rule.Rule) → ((xs : List (ValueOf GoType)) → HasForm (go xs)) → HasForm (on_values x go)
on_values_form (Some xs) formed go h = h xs
on_values_form None formed go h = absurd (search (rules, formed.1))

module _ (table : Table) (place : Pos) where
  length_form : (len calls : Bool) (x : TypedExprOf GoType) (n : ℕ) → HasForm (length_of len calls place x n)
  length_form len true x n = good_form _
  length_form len false x n = good_form _

  measured_typed_form : (len : Bool) (s : GoType) (calls : Bool) (form : FormOf GoType) → HasForm (measured_typed len table place s calls form)
  measured_typed_form len s calls form y (inl (n, is, judged)) none = length_form len calls _ n y judged none
  measured_typed_form len s calls form y (inr (not, judged)) none = wants_form _ 61 place _ (good_form _) y judged none

  measured_constant_form : (len : Bool) (x : Constant) → HasForm (measured_constant len place x)
  measured_constant_form true (c.Text bytes) = good_form _
  measured_constant_form true (c.Whole n) = bad_form 61 place
  measured_constant_form true (c.Bool b) = bad_form 61 place
  measured_constant_form false x = bad_form 61 place

  measured_form : (len : Bool) (xs : List (ValueOf GoType)) → HasForm (measured len table place xs)
  measured_form len [] = bad_form 61 place
  measured_form len (v.Constant at s x ∷ []) = measured_constant_form len x
  measured_form len (v.Typed at s stands calls form ∷ []) = measured_typed_form len s calls form
  measured_form len (v.Nil at ∷ []) = bad_form 61 place
  measured_form len (v.Pending at needs calls form ∷ []) = bad_form 61 place
  measured_form len (v.Constant at s x ∷ y ∷ xs) = bad_form 61 place
  measured_form len (v.Typed at s stands calls form ∷ y ∷ xs) = bad_form 61 place
  measured_form len (v.Nil at ∷ y ∷ xs) = bad_form 61 place
  measured_form len (v.Pending at needs calls form ∷ y ∷ xs) = bad_form 61 place

  copied_form : (xs : List (ValueOf GoType)) → HasForm (copied table place xs)
  copied_form [] = bad_form 61 place
  copied_form (v.Constant at s x ∷ xs) = bad_form 61 place
  copied_form (v.Nil at ∷ xs) = bad_form 61 place
  copied_form (v.Pending at needs calls form ∷ xs) = bad_form 61 place
  copied_form (v.Typed at s stands calls form ∷ []) = bad_form 61 place
  copied_form (v.Typed at s stands calls form ∷ v.Constant a u x ∷ []) = after_form _ _ (settled_form table 61 place (v.Constant a u x)) (λ y. wants_form _ 61 place _ (good_form _))
  copied_form (v.Typed at s stands calls form ∷ v.Typed a u on_right calls_right from ∷ []) = wants_form _ 61 place _ (good_form _)
  copied_form (v.Typed at s stands calls form ∷ v.Nil a ∷ []) = bad_form 61 place
  copied_form (v.Typed at s stands calls form ∷ v.Pending a needs calls_right from ∷ []) = bad_form 61 place
  copied_form (v.Typed at s stands calls form ∷ v.Constant a u x ∷ y ∷ xs) = bad_form 61 place
  copied_form (v.Typed at s stands calls form ∷ v.Typed a u on_right calls_right from ∷ y ∷ xs) = bad_form 61 place
  copied_form (v.Typed at s stands calls form ∷ v.Nil a ∷ y ∷ xs) = bad_form 61 place
  copied_form (v.Typed at s stands calls form ∷ v.Pending a needs calls_right from ∷ y ∷ xs) = bad_form 61 place

  deleted_key_form : (s : GoType) (form : FormOf GoType) (key : ValueOf GoType) → HasForm (deleted_key table place s form key)
  deleted_key_form s form key y (inl (of, value, keys, judged)) none = after_form _ _ (given_form table 49 _ of key) (λ x. good_form _) y judged none
  deleted_key_form s form key y (inr (not, judged)) none = bad_form 61 place y judged none

  deleted_form : (xs : List (ValueOf GoType)) → HasForm (deleted table place xs)
  deleted_form [] = bad_form 61 place
  deleted_form (v.Constant at s x ∷ xs) = bad_form 61 place
  deleted_form (v.Nil at ∷ xs) = bad_form 61 place
  deleted_form (v.Pending at needs calls form ∷ xs) = bad_form 61 place
  deleted_form (v.Typed at s stands calls form ∷ []) = bad_form 61 place
  deleted_form (v.Typed at s stands calls form ∷ key ∷ []) = deleted_key_form s form key
  deleted_form (v.Typed at s stands calls form ∷ key ∷ y ∷ xs) = bad_form 61 place

  panicked_form : (xs : List (ValueOf GoType)) → HasForm (panicked table place xs)
  panicked_form [] = bad_form 61 place
  panicked_form (x ∷ []) = after_form _ _ (given_form table 49 _ rule.any x) (λ y. good_form _)
  panicked_form (x ∷ y ∷ xs) = bad_form 61 place

  printed_form : (line : Bool) (xs : List (ValueOf GoType)) → HasForm (printed line table place xs)
  printed_form line xs = after_form _ _ (λ y it. judged_whole _ it (each_of _ (λ x. after_form _ _ (settled_form table 61 place x) (λ y. good_form _)) xs)) (λ forms. good_form _)

  recovered_form : (xs : List (ValueOf GoType)) → HasForm (recovered place xs)
  recovered_form [] = good_form _
  recovered_form (x ∷ xs) = bad_form 61 place

  of_values_form : (function : Builtin) (xs : List (ValueOf GoType)) → HasForm (of_values function table place xs)
  of_values_form Cap xs = measured_form false xs
  of_values_form Copy xs = copied_form xs
  of_values_form Delete xs = deleted_form xs
  of_values_form Len xs = measured_form true xs
  of_values_form Panic xs = panicked_form xs
  of_values_form Print xs = printed_form false xs
  of_values_form Println xs = printed_form true xs
  of_values_form Recover xs = recovered_form xs
  of_values_form Append xs = bad_form 61 place
  of_values_form Make xs = bad_form 61 place
  of_values_form New xs = bad_form 61 place

  -- ---- `append`

  spread_typed_form : (s element : GoType) (form : FormOf GoType) (at : Pos) (u : GoType) (x : ValueOf GoType) → HasForm (spread_typed table place s element form at u x)
  spread_typed_form s element form at u x = where_form _ _ _ (after_form _ _ (settled_form table 61 place x) (λ y. good_form _)) (after_form _ _ (given_form table 49 at _ x) (λ y. good_form _))

  spread_constant_form : (s element : GoType) (form : FormOf GoType) (at : Pos) (u : GoType) (x : Constant) → HasForm (spread_constant table place s element form at u x)
  spread_constant_form s element form at u x = where_form _ _ _ (after_form _ _ (settled_form table 61 place (v.Constant at u x)) (λ y. good_form _)) (after_form _ _ (given_form table 49 at _ (v.Constant at u x)) (λ y. good_form _))

  more_form : (s element : GoType) (form : FormOf GoType) (xs : List (Option (ValueOf GoType))) → AreFound xs → HasForm {A = OperandOf GoType} (where_all (all_found xs) (bad 61 place))
  more_form s element form xs found = where_form_all (all_found xs) (found_all xs found) _ (bad_form 61 place)

  spread_form_of : (s element : GoType) (form : FormOf GoType) (xs : List (Option (ValueOf GoType))) → AreFound xs → HasForm (appended_spread table place s element form xs)
  spread_form_of s element form [] found = more_form s element form [] found
  spread_form_of s element form (None ∷ xs) found = absurd found
  spread_form_of s element form (Some (v.Constant at u x) ∷ []) found = spread_constant_form s element form at u x
  spread_form_of s element form (Some (v.Typed at u stands calls from) ∷ []) found = spread_typed_form s element form at u (v.Typed at u stands calls from)
  spread_form_of s element form (Some (v.Nil at) ∷ []) found = after_form _ _ (given_form table 49 _ _ (v.Nil at)) (λ y. good_form _)
  spread_form_of s element form (Some (v.Pending at needs calls from) ∷ []) found = after_form _ _ (given_form table 49 _ _ (v.Pending at needs calls from)) (λ y. good_form _)
  spread_form_of s element form (Some (v.Constant at u x) ∷ y ∷ xs) found = more_form s element form (Some (v.Constant at u x) ∷ y ∷ xs) found
  spread_form_of s element form (Some (v.Typed at u stands calls from) ∷ y ∷ xs) found = more_form s element form (Some (v.Typed at u stands calls from) ∷ y ∷ xs) found
  spread_form_of s element form (Some (v.Nil at) ∷ y ∷ xs) found = more_form s element form (Some (v.Nil at) ∷ y ∷ xs) found
  spread_form_of s element form (Some (v.Pending at needs calls from) ∷ y ∷ xs) found = more_form s element form (Some (v.Pending at needs calls from) ∷ y ∷ xs) found

  appended_list_form : (s element : GoType) (form : FormOf GoType) (xs : List (Option (ValueOf GoType))) → AreFound xs → HasForm (appended_list table place s element form xs)
  appended_list_form s element form xs found = after_form _ _ (λ y it. judged_whole (passed table) it (each_passing table place xs (times (length xs) element) found)) (λ forms. good_form _)

  appended_to_form : (spread : Bool) (s : GoType) (form : FormOf GoType) (xs : List (Option (ValueOf GoType))) → AreFound xs → (element : GoType) → HasForm (appended_to spread table place s form xs element)
  appended_to_form true s form xs found element = spread_form_of s element form xs found
  appended_to_form false s form xs found element = appended_list_form s element form xs found

  appended_typed_form : (spread : Bool) (at : Pos) (s : GoType) (stands : Standing) (calls : Bool) (form : FormOf GoType) (xs : List (Option (ValueOf GoType))) → AreFound xs → HasForm (appended spread table place (Some (v.Typed at s stands calls form) ∷ xs))
  appended_typed_form spread at s stands calls form xs found y (inl (element, is, judged)) none = appended_to_form spread s form xs found element y judged none
  appended_typed_form spread at s stands calls form xs found y (inr (not, judged)) none = where_form_all (all_found xs) (found_all xs found) _ (bad_form 61 place) y judged none

  appended_form : (spread : Bool) (xs : List (Option (ValueOf GoType))) → AreFound xs → HasForm (appended spread table place xs)
  appended_form spread [] found = bad_form 61 place
  appended_form spread (None ∷ xs) found = absurd found
  appended_form spread (Some (v.Typed at s stands calls form) ∷ xs) found = appended_typed_form spread at s stands calls form xs found
  appended_form spread (Some (v.Constant at s x) ∷ xs) found = where_form_all (all_found (Some (v.Constant at s x) ∷ xs)) (found_all (Some (v.Constant at s x) ∷ xs) found) _ (bad_form 61 place)
  appended_form spread (Some (v.Nil at) ∷ xs) found = where_form_all (all_found (Some (v.Nil at) ∷ xs)) (found_all (Some (v.Nil at) ∷ xs) found) _ (bad_form 61 place)
  appended_form spread (Some (v.Pending at needs calls form) ∷ xs) found = where_form_all (all_found (Some (v.Pending at needs calls form) ∷ xs)) (found_all (Some (v.Pending at needs calls form) ∷ xs) found) _ (bad_form 61 place)

  plain_form : (spread : Bool) (function : Builtin) (xs : List (Option (ValueOf GoType))) → AreFound xs → HasForm (of_plain spread function table place xs)
  plain_form true function xs found = where_form_all (all_found xs) (found_all xs found) _ (bad_form 61 place)
  plain_form false function xs found = on_values_form (all_found xs) (found_all xs found) _ (of_values_form function)

  kept_form : (append : Bool) (function : Builtin) (spread : Bool) (xs : List (Option (ValueOf GoType))) → AreFound xs → HasForm (of_kept_by append function spread table place xs)
  kept_form true function spread xs found = appended_form spread xs found
  kept_form false function spread xs found = plain_form spread function xs found

  -- ---- one call gives all arguments

  appended_results_form : (it : Several) (of : List GoType) → HasForm (appended_first table place it of)
  appended_results_form it [] = bad_form 61 place
  appended_results_form it (s ∷ of) = some_form _ 61 place _ (λ element. after_form _ _ (λ y i. judged_whole (handed table it.at) i (each_handing table place it.at of (times (length of) element))) (λ given. good_form _))

  copied_results_form : (it : Several) (of : List GoType) → HasForm (copied_results table place it of)
  copied_results_form it [] = bad_form 61 place
  copied_results_form it (s ∷ []) = bad_form 61 place
  copied_results_form it (s ∷ u ∷ []) = wants_form _ 61 place _ (good_form _)
  copied_results_form it (s ∷ u ∷ more ∷ of) = bad_form 61 place

  deleted_two_form : (it : Several) (s u : GoType) → HasForm (deleted_results table place it (s ∷ u ∷ []))
  deleted_two_form it s u y (inl (key, value, keys, judged)) none = wants_form _ 49 it.at _ (good_form _) y judged none
  deleted_two_form it s u y (inr (not, judged)) none = bad_form 61 place y judged none

  deleted_results_form : (it : Several) (of : List GoType) → HasForm (deleted_results table place it of)
  deleted_results_form it [] = bad_form 61 place
  deleted_results_form it (s ∷ []) = bad_form 61 place
  deleted_results_form it (s ∷ u ∷ []) = deleted_two_form it s u
  deleted_results_form it (s ∷ u ∷ more ∷ of) = bad_form 61 place

  of_results_form : (function : Builtin) (it : Several) → HasForm (of_results function table place it)
  of_results_form Append it = appended_results_form it it.of
  of_results_form Copy it = copied_results_form it it.of
  of_results_form Delete it = deleted_results_form it it.of
  of_results_form Print it = good_form _
  of_results_form Println it = good_form _
  of_results_form Cap it = bad_form 61 place
  of_results_form Len it = bad_form 61 place
  of_results_form Make it = bad_form 61 place
  of_results_form New it = bad_form 61 place
  of_results_form Panic it = bad_form 61 place
  of_results_form Recover it = bad_form 61 place

  of_several_form : (spread : Bool) (function : Builtin) (it : Several) → HasForm (of_several spread function table place it)
  of_several_form true function it = bad_form 61 place
  of_several_form false function it = of_results_form function it

  of_arguments_form : (several : Option Several) (function : Builtin) (spread : Bool) (xs : List (Option (OperandOf GoType))) → AreFound xs → HasForm (of_arguments several function spread table place xs)
  of_arguments_form (Some it) function spread xs found = of_several_form spread function it
  of_arguments_form None function spread xs found = after_kept as_value as_value_form xs found _ (kept_form (is_append function) function spread)

  -- ---- `make` and `new`

  made_of_form : (s : GoType) (xs : List (ValueOf GoType)) → HasForm (made_of table place s xs)
  made_of_form s xs = wants_form _ 61 place _ (after_form _ _ (λ y it. judged_whole _ it (each_of _ (taken_form table) xs))
      (λ sizes. after_form _ _ (λ y it. judged_whole _ it (each_of _ (counted_form table 61 61 IsSize place) sizes)) (λ ns. wants_form _ 61 place _ (good_form _))))

  newly_form : (s : GoType) (xs : List (ValueOf GoType)) → HasForm (newly place s xs)
  newly_form s [] = good_form _
  newly_form s (x ∷ xs) = bad_form 61 place

  made_by_form : (make spread : Bool) (s : GoType) (xs : List (ValueOf GoType)) → HasForm (made_by make spread table place s xs)
  made_by_form make true s xs = bad_form 61 place
  made_by_form true false s xs = made_of_form s xs
  made_by_form false false s xs = newly_form s xs

  no_type_form : (x : OperandOf GoType) (xs : List (Option (ValueOf GoType))) → AreFound xs → HasForm {A = OperandOf GoType} (After (as_value x) (λ y. where_all (all_found xs) (bad 61 place)))
  no_type_form x xs found = after_form _ _ (as_value_form x) (λ y. where_form_all (all_found xs) (found_all xs found) _ (bad_form 61 place))

  made_type_form : (make spread : Bool) (x : OperandOf GoType) (xs : List (Option (ValueOf GoType))) → AreFound xs → HasForm (made_type make spread table place (Some x) xs)
  made_type_form make spread (o.Type at s) xs found = on_values_form (all_found xs) (found_all xs found) _ (made_by_form make spread s)
  made_type_form make spread (o.Value x) xs found = no_type_form (o.Value x) xs found
  made_type_form make spread (o.Method at of calls form bound) xs found = no_type_form (o.Method at of calls form bound) xs found
  made_type_form make spread (o.Crossing at of code) xs found = no_type_form (o.Crossing at of code) xs found
  made_type_form make spread (o.Results at of form) xs found = no_type_form (o.Results at of form) xs found
  made_type_form make spread (o.OpenArray at element) xs found = no_type_form (o.OpenArray at element) xs found
  made_type_form make spread (o.Package at path) xs found = no_type_form (o.Package at path) xs found
  made_type_form make spread (o.Builtin at name) xs found = no_type_form (o.Builtin at name) xs found
  made_type_form make spread (o.Cross at) xs found = no_type_form (o.Cross at) xs found
  made_type_form make spread (o.Realm at) xs found = no_type_form (o.Realm at) xs found

  made_new_form : (make spread : Bool) (xs : List (Option (OperandOf GoType))) → AreFound xs → HasForm (made_new make spread table place xs)
  made_new_form make spread [] found = bad_form 61 place
  made_new_form make spread (None ∷ xs) found = absurd found
  made_new_form make spread (Some x ∷ xs) found = after_kept as_value as_value_form xs found _ (made_type_form make spread x)

  pub builtin_form : (function : Builtin) (spread : Bool) (xs : List (Option (OperandOf GoType))) → AreFound xs → HasForm (builtin function table place spread xs)
  unfolding builtin
  builtin_form Make spread xs found = made_new_form true spread xs found
  builtin_form New spread xs found = made_new_form false spread xs found
  builtin_form Append spread xs found = of_arguments_form (several_in xs) Append spread xs found
  builtin_form Cap spread xs found = of_arguments_form (several_in xs) Cap spread xs found
  builtin_form Copy spread xs found = of_arguments_form (several_in xs) Copy spread xs found
  builtin_form Delete spread xs found = of_arguments_form (several_in xs) Delete spread xs found
  builtin_form Len spread xs found = of_arguments_form (several_in xs) Len spread xs found
  builtin_form Panic spread xs found = of_arguments_form (several_in xs) Panic spread xs found
  builtin_form Print spread xs found = of_arguments_form (several_in xs) Print spread xs found
  builtin_form Println spread xs found = of_arguments_form (several_in xs) Println spread xs found
  builtin_form Recover spread xs found = of_arguments_form (several_in xs) Recover spread xs found
