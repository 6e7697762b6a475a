-- Calls whose callee and arguments were found have a form or a fault.
use Rattle.std.proofs.Common.{◌≡◌, refl, sym, ap, ◌∙◌, subst, ℕ, Bool, List, [], ◌∷◌, ◌++◌, length, map, Option, Some, None, option_map, inl, inr, rules}
use Rattle.std.specs.Prelude.{⊤}
use Rattle.gno_scan.specs.declared.token.Pos.{Pos}
use Rattle.gno_terms.specs.declared.term.GoType.{GoType}
use Rattle.gno_terms.specs.Lawful.{Each}
use Rattle.gno_terms.specs.Tables.{Table}
use Rattle.gno_typed.specs.declared.code.CodeId.{CodeId}
use Rattle.gno_typed.specs.declared.step.BoundOf.{BoundOf}
use Rattle.gno_typed.specs.declared.step.CalleeOf.{CalleeOf}
use Rattle.gno_typed.specs.declared.step.Crossing.{Crossing}
use Rattle.gno_typing.specs.Laws.{HasForm}
use Rattle.gno_typing.specs.Verdicts.{Verdict, After, bad, good, on}
use Rattle.gno_typing.specs.Lists.{AreJudged, AreKept, all_found, behind_found}
use Rattle.gno_typing.specs.Lists.{AreJudged as j}
use Rattle.gno_typing.specs.Lists.{AreKept as k}
use Rattle.gno_typing.specs.Operands.{as_value}
use Rattle.gno_typing.specs.Calls.{Function, Several, alone, arguments_by, call, called, crossed, crossed_by, crossing_called, crossing_of, each_alone, each_passed, first_by, handed, handing, method_called, not_called, numbered, passed, passing, rest_passed, results_passed, several_in, several_of, taken_by, value_called, where_all, without_first}
use Rattle.gno_typing.specs.declared.form.FormOf.{FormOf}
use Rattle.gno_typing.specs.declared.operand.OperandOf.{OperandOf}
use Rattle.gno_typing.specs.declared.operand.OperandOf.TheVariants as o
use Rattle.gno_typing.specs.declared.value.ValueOf.{ValueOf}
use Rattle.gno_typing.specs.declared.value.ValueOf.TheVariants as v
use Rattle.gno_typing.proofs.Parts.{Formed, Whole, after_both_form, after_form, back, bad_form, both_whole, front, good_form, wants_form}
use Rattle.gno_typing.proofs.GivenForms.{given_form}
use Rattle.gno_typing.proofs.PrimaryForms.{as_value_form}

-- ---- lists

pub judged_whole : {A B : Type 0} (J : A → Verdict B → Type 0) {xs : List A} {y : Verdict (List B)} → AreJudged J xs y → Each (λ x. HasForm (J x)) xs → Whole y
judged_whole J (j.none is) h = λ none. ([], ap (λ v. v.form) is)
judged_whole J (j.more v w first rest is) h = subst Whole (sym is) (both_whole _ v w (h.0 v first) (judged_whole J rest h.1))

pub each_of : {A : Type 0} (P : A → Type 0) → ((a : A) → P a) → (xs : List A) → Each P xs
each_of P h [] = tt
each_of P h (x ∷ xs) = (h x, each_of P h xs)

abbrev pub AreFound : {A : Type 0} → List (Option A) → Type 0
AreFound [] = ⊤
AreFound (None ∷ xs) = ⊥
AreFound (Some x ∷ xs) = AreFound xs

-- what is kept of what was found
pub kept_whole : {A B : Type 0} (J : A → Verdict B → Type 0) → ((a : A) → HasForm (J a)) → {xs : List (Option A)} {y : Verdict (List (Option B))} → AreKept J xs y → AreFound xs → y.faults ≡ [] → (ys : List (Option B)) × (y.form ≡ Some ys) × AreFound ys
kept_whole J h (k.none is) found none = ([], ap (λ v. v.form) is, tt)
kept_whole J h (k.more {x = None} v w first rest is) found none = absurd found
kept_whole J h (k.more {x = Some a} v w first rest is) found none =
    let all : v.faults ++ w.faults ≡ [] = sym (ap (λ z. z.faults) is) ∙ none in
    let b = h a v first (front v.faults w.faults all) in
    let ys = kept_whole J h rest found (back v.faults w.faults all) in
    (Some b.0 ∷ ys.0, ap (λ z. z.form) is ∙ (ap (option_map (λ bs. v.form ∷ bs)) ys.1 ∙ ap (λ c. Some (c ∷ ys.0)) b.1), ys.2)

pub found_all : {A : Type 0} (xs : List (Option A)) → AreFound xs → Formed (all_found xs)
found_all [] found = ([], refl)
found_all (None ∷ xs) found = absurd found
found_all (Some x ∷ xs) found = let ys = found_all xs found in (x ∷ ys.0, ap (behind_found x) ys.1)

pub map_found : {A : Type 0} (xs : List A) → AreFound (map Some xs)
map_found [] = tt
map_found (x ∷ xs) = map_found xs

-- a node after parts that are kept
pub after_kept : {A B C : Type 0} (J : A → Verdict B → Type 0) → ((a : A) → HasForm (J a)) → (xs : List (Option A)) → AreFound xs → (go : List (Option B) → Verdict C → Type 0) → ((ys : List (Option B)) → AreFound ys → HasForm (go ys)) → HasForm (After (AreKept J xs) go)
after_kept J h xs found go m y it none =
    let all : it.part.faults ++ it.rest.faults ≡ [] = sym it.faults ∙ none in
    let ys = kept_whole J h it.judged found (front it.part.faults it.rest.faults all) in
    let goes = subst (λ z. on go z it.rest) ys.1 it.goes_on in
    let b = m ys.0 ys.2 it.rest goes (back it.part.faults it.rest.faults all) in
    (b.0, it.form ∙ b.1)

-- a node after a part whose form is known
after_known : {B C : Type 0} (b : B) (go : B → Verdict C → Type 0) → HasForm (go b) → HasForm (After (good b) go)
after_known b go h y it none =
    let all : it.part.faults ++ it.rest.faults ≡ [] = sym it.faults ∙ none in
    let c = h it.rest (subst (λ z. on go z it.rest) (ap (λ z. z.form) it.judged) it.goes_on) (back it.part.faults it.rest.faults all) in
    (c.0, it.form ∙ c.1)

-- ---- arguments

module _ (table : Table) (place : Pos) where
  pub each_passing : (xs : List (Option (ValueOf GoType))) (ss : List GoType) → AreFound xs → Each (λ p. HasForm (passed table p)) (passing xs ss)
  each_passing [] ss found = tt
  each_passing (None ∷ xs) ss found = absurd found
  each_passing (Some x ∷ xs) [] found = tt
  each_passing (Some x ∷ xs) (s ∷ ss) found = (after_form _ _ (given_form table 49 _ s x) (λ y. good_form _), each_passing xs ss found)

  numbered_form : {A : Type 0} (x : Option (List (ValueOf GoType))) → Formed x → (fits : Bool) (J : Verdict A → Type 0) → HasForm J → HasForm (numbered x fits place J)
  numbered_form (Some xs) formed fits J h = wants_form _ 50 place J h
  numbered_form None formed fits J h = absurd (search (rules, formed.1))

  each_passed_form : (spread : Bool) (g : Function) (xs : List (Option (ValueOf GoType))) → AreFound xs → HasForm (each_passed table place spread g xs)
  each_passed_form spread g xs found = numbered_form (all_found xs) (found_all xs found) _ _
      (after_form _ _ (λ y it. judged_whole (passed table) it (each_passing xs (taken_by g.variadic spread (length xs) g.params) found)) (λ forms. good_form _))

  pub each_handing : (at : Pos) (xs ss : List GoType) → Each (λ h. HasForm (handed table at h)) (handing xs ss)
  each_handing at [] ss = tt
  each_handing at (x ∷ xs) [] = tt
  each_handing at (x ∷ xs) (s ∷ ss) = (wants_form _ 49 at _ (good_form _), each_handing at xs ss)

  results_passed_form : (spread : Bool) (g : Function) (at : Pos) (of : List GoType) (form : FormOf GoType) → HasForm (results_passed table place spread g at of form)
  results_passed_form spread g at of form = wants_form _ 50 place _ (after_form _ _ (λ y it. judged_whole (handed table at) it (each_handing at of (taken_by g.variadic spread (length of) g.params))) (λ given. good_form _))

  rest_passed_form : (spread : Bool) (g : Function) (xs : List (Option (OperandOf GoType))) → AreFound xs → HasForm (rest_passed table place spread g xs)
  rest_passed_form spread g xs found = after_kept as_value as_value_form xs found _ (each_passed_form spread g)

  crossed_form : (own spread : Bool) (form : FormOf GoType) (g : Function) (xs : List (Option (OperandOf GoType))) → AreFound xs → HasForm (crossed own table place spread form g xs)
  crossed_form own spread form g [] found = bad_form 50 place
  crossed_form own spread form g (None ∷ xs) found = absurd found
  crossed_form own spread form g (Some x ∷ xs) found = by_crossing (crossing_of own (Some x))
    where
      first_form : (several : Option Several) (y : OperandOf GoType) → HasForm (first_by several y)
      first_form (Some it) y = good_form _
      first_form None (o.Cross at) = good_form _
      first_form None (o.Realm at) = good_form _
      first_form None (o.Results at of form) = after_form _ _ (as_value_form (o.Results at of form)) (λ z. good_form _)
      first_form None (o.Value x) = after_form _ _ (as_value_form (o.Value x)) (λ z. good_form _)
      first_form None (o.Method at of calls form bound) = after_form _ _ (as_value_form (o.Method at of calls form bound)) (λ z. good_form _)
      first_form None (o.Crossing at of code) = after_form _ _ (as_value_form (o.Crossing at of code)) (λ z. good_form _)
      first_form None (o.Type at of) = after_form _ _ (as_value_form (o.Type at of)) (λ z. good_form _)
      first_form None (o.OpenArray at element) = after_form _ _ (as_value_form (o.OpenArray at element)) (λ z. good_form _)
      first_form None (o.Package at path) = after_form _ _ (as_value_form (o.Package at path)) (λ z. good_form _)
      first_form None (o.Builtin at name) = after_form _ _ (as_value_form (o.Builtin at name)) (λ z. good_form _)

      by_crossing : (crossing : Option Crossing) → HasForm (crossed_by crossing table place spread form (without_first g) (Some x) xs)
      by_crossing None = after_both_form _ _ _ (first_form (several_of (Some x)) x) (rest_passed_form spread (without_first g) xs found) (λ y arguments. bad_form 63 place)
      by_crossing (Some crossing) = after_form _ _ (rest_passed_form spread (without_first g) xs found) (λ arguments. good_form _)

  arguments_form : (several : Option Several) (spread : Bool) (g : Function) (xs : List (Option (OperandOf GoType))) → AreFound xs → HasForm (arguments_by several table place spread g xs)
  arguments_form (Some it) spread g xs found = results_passed_form spread g it.at it.of it.form
  arguments_form None spread g xs found = after_kept as_value as_value_form xs found _ (each_passed_form spread g)

  called_form : (spread : Bool) (form : FormOf GoType) (callee : CalleeOf GoType) (crossing : Option Crossing) (g : Function) (xs : List (Option (OperandOf GoType))) → AreFound xs → HasForm (called table place spread form callee crossing g xs)
  called_form spread form callee crossing g xs found = after_form _ _ (arguments_form (several_in xs) spread g xs found) (λ arguments. good_form _)

  -- ---- what is no function

  alone_form : (x : OperandOf GoType) → HasForm (alone x)
  alone_form (o.Type at of) = good_form _
  alone_form (o.OpenArray at element) = good_form _
  alone_form (o.Value z) = after_form _ _ (as_value_form (o.Value z)) (λ y. good_form _)
  alone_form (o.Method at of calls form bound) = after_form _ _ (as_value_form (o.Method at of calls form bound)) (λ y. good_form _)
  alone_form (o.Crossing at of code) = after_form _ _ (as_value_form (o.Crossing at of code)) (λ y. good_form _)
  alone_form (o.Results at of form) = after_form _ _ (as_value_form (o.Results at of form)) (λ y. good_form _)
  alone_form (o.Package at path) = after_form _ _ (as_value_form (o.Package at path)) (λ y. good_form _)
  alone_form (o.Builtin at name) = after_form _ _ (as_value_form (o.Builtin at name)) (λ y. good_form _)
  alone_form (o.Cross at) = after_form _ _ (as_value_form (o.Cross at)) (λ y. good_form _)
  alone_form (o.Realm at) = after_form _ _ (as_value_form (o.Realm at)) (λ y. good_form _)

  where_all_form : {B : Type 0} (code : ℕ) (x : Option (List (OperandOf GoType))) → Formed x → HasForm {A = B} (where_all x (bad code place))
  where_all_form code (Some xs) formed = bad_form code place
  where_all_form code None formed = absurd (search (rules, formed.1))

  kept_alone : {B : Type 0} (code : ℕ) (xs : List (Option (OperandOf GoType))) → AreFound xs → HasForm {A = B} (After (AreKept alone xs) (λ ys. where_all (all_found ys) (bad code place)))
  kept_alone code xs found = after_kept alone alone_form xs found _ (λ ys all. where_all_form code (all_found ys) (found_all ys all))

  alone_by : {B : Type 0} (several : Option Several) (code : ℕ) (xs : List (Option (OperandOf GoType))) → AreFound xs → HasForm {A = B} (After (each_alone several xs) (λ ys. where_all (all_found ys) (bad code place)))
  alone_by (Some it) code xs found = after_known xs _ (where_all_form code (all_found xs) (found_all xs found))
  alone_by None code xs found = kept_alone code xs found

  pub not_called_form : {B : Type 0} (code : ℕ) (xs : List (Option (OperandOf GoType))) → AreFound xs → HasForm {A = B} (not_called code place xs)
  not_called_form code xs found = alone_by (several_in xs) code xs found

  -- ---- all

  value_called_form : (spread : Bool) (xs : List (Option (OperandOf GoType))) → AreFound xs → (x : ValueOf GoType) → HasForm (value_called table place spread xs x)
  value_called_form spread xs found (v.Typed at s stands calls form) y (inl (g, is, judged)) none = called_form spread form _ None g xs found y judged none
  value_called_form spread xs found (v.Typed at s stands calls form) y (inr (not, judged)) none = not_called_form 51 xs found y judged none
  value_called_form spread xs found (v.Constant at s x) y judged none = not_called_form 51 xs found y judged none
  value_called_form spread xs found (v.Nil at) y judged none = not_called_form 51 xs found y judged none
  value_called_form spread xs found (v.Pending at needs calls form) y judged none = not_called_form 51 xs found y judged none

  method_called_form : (spread : Bool) (xs : List (Option (OperandOf GoType))) → AreFound xs → (at : Pos) (of : GoType) (form : FormOf GoType) (bound : BoundOf GoType) → HasForm (method_called table place spread xs at of form bound)
  method_called_form spread xs found at of form bound y (inl (g, is, judged)) none = called_form spread form _ None g xs found y judged none
  method_called_form spread xs found at of form bound y (inr (not, judged)) none = not_called_form 51 xs found y judged none

  crossing_called_form : (own spread : Bool) (xs : List (Option (OperandOf GoType))) → AreFound xs → (at : Pos) (of : GoType) (code : CodeId) → HasForm (crossing_called own table place spread xs at of code)
  crossing_called_form own spread xs found at of code y (inl (g, is, judged)) none = crossed_form own spread _ g xs found y judged none
  crossing_called_form own spread xs found at of code y (inr (not, judged)) none = not_called_form 51 xs found y judged none

  pub call_form : (path : List ℕ) (direct spread : Bool) (x : OperandOf GoType) (xs : List (Option (OperandOf GoType))) → AreFound xs → HasForm (call path direct table place spread x xs)
  unfolding call
  call_form path direct spread (o.Crossing at of code) xs found = crossing_called_form _ spread xs found at of code
  call_form path direct spread (o.Method at of calls form bound) xs found = method_called_form spread xs found at of form bound
  call_form path direct spread (o.Value x) xs found = value_called_form spread xs found x
  call_form path direct spread (o.Results at of form) xs found = after_form _ _ (as_value_form (o.Results at of form)) (λ y. not_called_form 51 xs found)
  call_form path direct spread (o.Type at of) xs found = after_form _ _ (as_value_form (o.Type at of)) (λ y. not_called_form 51 xs found)
  call_form path direct spread (o.OpenArray at element) xs found = after_form _ _ (as_value_form (o.OpenArray at element)) (λ y. not_called_form 51 xs found)
  call_form path direct spread (o.Package at path') xs found = after_form _ _ (as_value_form (o.Package at path')) (λ y. not_called_form 51 xs found)
  call_form path direct spread (o.Builtin at name) xs found = after_form _ _ (as_value_form (o.Builtin at name)) (λ y. not_called_form 51 xs found)
  call_form path direct spread (o.Cross at) xs found = after_form _ _ (as_value_form (o.Cross at)) (λ y. not_called_form 51 xs found)
  call_form path direct spread (o.Realm at) xs found = after_form _ _ (as_value_form (o.Realm at)) (λ y. not_called_form 51 xs found)
