-- Calls of functions and methods. Go specification, "Calls" and "Passing arguments to ... parameters"; crossing calls are this project's own.
use Rattle.std.specs.Prelude.{ℕ, zero, suc, ◌≡◌, ◌-◌, ◌+◌, ◌⊎◌, List, [], ◌∷◌, length, drop, Bool, true, false, ◌&&◌, not, nat_eq, nat_lt, Option, Some, None}
use Rattle.std.specs.Str.{bytes_eq}
use Rattle.gno_scan.specs.declared.token.Pos.{Pos}
use Rattle.gno_terms.specs.declared.term.GoType.{GoType}
use Rattle.gno_terms.specs.declared.term.TermOf.{TermOf}
use Rattle.gno_terms.specs.declared.term.TermOf.TheVariants as t
use Rattle.gno_terms.specs.Tables.{Table, Underlying}
use Rattle.gno_terms.specs.Terms.{term_of}
use Rattle.gno_typed.specs.declared.code.CodeId.{CodeId}
use Rattle.gno_typed.specs.declared.expr.ArgumentsOf.{ArgumentsOf}
use Rattle.gno_typed.specs.declared.expr.ArgumentsOf.TheVariants as a
use Rattle.gno_typed.specs.declared.expr.TypedExprOf.{TypedExprOf}
use Rattle.gno_typed.specs.declared.expr.TypedExprOf.TheVariants as w
use Rattle.gno_typed.specs.declared.step.BoundOf.{BoundOf}
use Rattle.gno_typed.specs.declared.step.CalleeOf.{CalleeOf}
use Rattle.gno_typed.specs.declared.step.CalleeOf.TheVariants as callee
use Rattle.gno_typed.specs.declared.step.Crossing.{Crossing}
use Rattle.gno_typed.specs.declared.step.Crossing.TheVariants as cross
use Rattle.gno_typed.specs.declared.step.TypedStepOf.TheVariants as step
use Rattle.gno_typed.specs.declared.step.VariadicOf.{VariadicOf}
use Rattle.gno_typing.specs.Binary.{pos_in}
use Rattle.gno_typing.specs.Classes.{Takes}
use Rattle.gno_typing.specs.Forms.{closed, with_step}
use Rattle.gno_typing.specs.Giving.{given}
use Rattle.gno_typing.specs.Lists.{AreJudged, AreKept, all_found, where_found}
use Rattle.gno_typing.specs.Operands.{as_value}
use Rattle.gno_typing.specs.Verdicts.{Verdict, After, AfterBoth, good, bad, unjudged, wants}
use Rattle.gno_typing.specs.declared.form.FormOf.{FormOf}
use Rattle.gno_typing.specs.declared.form.FormOf.TheVariants as f
use Rattle.gno_typing.specs.declared.operand.OperandOf.{OperandOf}
use Rattle.gno_typing.specs.declared.operand.OperandOf.TheVariants as o
use Rattle.gno_typing.specs.declared.value.Standing.TheVariants as st
use Rattle.gno_typing.specs.declared.value.ValueOf.{ValueOf}
use Rattle.gno_typing.specs.declared.value.ValueOf.TheVariants as v

-- ---- parameters

pub record Function : Type 0 where
  pub params : List GoType
  pub variadic : Bool
  pub results : List GoType

pub record IsFunction (table : Table) (s : GoType) (g : Function) : Type 0 where
  pub underlying : GoType
  pub by : Underlying table s underlying
  pub is : term_of underlying ≡ t.Function g.params g.variadic g.results

abbrev pub element_by : GoType → TermOf GoType → GoType
element_by s (t.Slice element) = element
element_by s x = s

abbrev pub element_of : GoType → GoType
element_of s = element_by s (term_of s)

-- the same type, so many times
abbrev pub times : ℕ → GoType → List GoType
times zero s = []
times (suc n) s = s ∷ times n s

-- the elements of the last parameter, for all arguments from its own on
abbrev pub spread_last : ℕ → List GoType → List GoType
spread_last n [] = []
spread_last n (s ∷ []) = times n (element_of s)
spread_last zero (s ∷ ss) = []
spread_last (suc n) (s ∷ more ∷ ss) = s ∷ spread_last n (more ∷ ss)

-- the types that n arguments take; with `...` the last one is the list itself
abbrev pub taken_by : Bool → Bool → ℕ → List GoType → List GoType
taken_by true false n params = spread_last n params
taken_by variadic spread n params = params

-- so many arguments are passed. Only to a variadic function one is passed with `...`
abbrev pub is_number : Bool → Bool → ℕ → List GoType → Bool
is_number true true n params = nat_eq n (length params)
is_number true false n params = nat_lt (length params) (n + 2)
is_number false true n params = false
is_number false false n params = nat_eq n (length params)

-- ---- arguments

-- a value, if it was found, and the type that it takes
pub record Passing : Type 0 where
  pub value : Option (ValueOf GoType)
  pub to : GoType

abbrev pub passing : List (Option (ValueOf GoType)) → List GoType → List Passing
passing [] ss = []
passing (x ∷ xs) [] = []
passing (x ∷ xs) (s ∷ ss) = record { value = x; to = s } ∷ passing xs ss

abbrev pub passed : Table → Passing → Verdict (TypedExprOf GoType) → Type 0
passed table p = where_found (λ x. After (given table 49 (pos_in x) p.to x) (λ y. good (closed y))) p.value

-- the number of arguments is judged where all were found
abbrev pub numbered : {A : Type 0} → Option (List (ValueOf GoType)) → Bool → Pos → (Verdict A → Type 0) → Verdict A → Type 0
numbered (Some xs) fits place J = wants (fits ≡ true) 50 place J
numbered None true place J = J
numbered None false place J = unjudged

abbrev pub each_passed : Table → Pos → Bool → Function → List (Option (ValueOf GoType)) → Verdict (ArgumentsOf GoType) → Type 0
each_passed table place spread g xs = numbered (all_found xs) (is_number g.variadic spread (length xs) g.params) place
    (After (AreJudged (passed table) (passing xs (taken_by g.variadic spread (length xs) g.params))) (λ forms. good (a.Each forms)))

-- the results of one call are arguments: its types, with those that they take
pub record Handing : Type 0 where
  pub of : GoType
  pub to : GoType

abbrev pub handing : List GoType → List GoType → List Handing
handing [] ss = []
handing (x ∷ xs) [] = []
handing (x ∷ xs) (s ∷ ss) = record { of = x; to = s } ∷ handing xs ss

abbrev pub handed : Table → Pos → Handing → Verdict GoType → Type 0
handed table at h = wants (Takes table h.to h.of) 49 at (good h.to)

abbrev pub results_passed : Table → Pos → Bool → Function → Pos → List GoType → FormOf GoType → Verdict (ArgumentsOf GoType) → Type 0
results_passed table place spread g at of form = wants (not spread && is_number g.variadic spread (length of) g.params ≡ true) 50 place
    (After (AreJudged (handed table at) (handing of (taken_by g.variadic spread (length of) g.params))) (λ given. good (a.Results (closed form) given)))

-- a call that gives several values
pub record Several : Type 0 where
  pub at : Pos
  pub of : List GoType
  pub form : FormOf GoType

abbrev pub several_by : Pos → List GoType → FormOf GoType → Option Several
several_by at [] form = None
several_by at (s ∷ []) form = None
several_by at (s ∷ more ∷ of) form = Some (record { at = at; of = s ∷ more ∷ of; form = form })

abbrev pub several_of : Option (OperandOf GoType) → Option Several
several_of (Some (o.Results at of form)) = several_by at of form
several_of x = None

-- it is the one argument
abbrev pub several_in : List (Option (OperandOf GoType)) → Option Several
several_in [] = None
several_in (x ∷ []) = several_of x
several_in (x ∷ more ∷ xs) = None

abbrev pub arguments_by : Option Several → Table → Pos → Bool → Function → List (Option (OperandOf GoType)) → Verdict (ArgumentsOf GoType) → Type 0
arguments_by (Some it) table place spread g xs = results_passed table place spread g it.at it.of it.form
arguments_by None table place spread g xs = After (AreKept as_value xs) (each_passed table place spread g)

abbrev pub arguments : Table → Pos → Bool → Function → List (Option (OperandOf GoType)) → Verdict (ArgumentsOf GoType) → Type 0
arguments table place spread g xs = arguments_by (several_in xs) table place spread g xs

-- ---- calls

abbrev pub last_by : ℕ → List GoType → Option (VariadicOf GoType)
last_by from [] = None
last_by from (s ∷ ss) = Some (record { from = from; of = s })

-- the arguments that become the list of a variadic function
abbrev pub last_from : Bool → Bool → List GoType → Option (VariadicOf GoType)
last_from true false params = last_by (length params - 1) (drop (length params - 1) params)
last_from variadic spread params = None

-- one result is a value; none, or several, are no value
abbrev pub result_of : Pos → List GoType → FormOf GoType → OperandOf GoType
result_of place (s ∷ []) form = o.Value (v.Typed place s st.Result true form)
result_of place of form = o.Results place of form

abbrev pub called : Table → Pos → Bool → FormOf GoType → CalleeOf GoType → Option Crossing → Function → List (Option (OperandOf GoType)) → Verdict (OperandOf GoType) → Type 0
called table place spread form callee crossing g xs = After (arguments table place spread g xs)
    (λ passed. good (result_of place g.results (with_step form (step.Call place g.results callee crossing passed (last_from g.variadic spread g.params)))))

-- what is no function: its arguments are judged alone, where a type may stand, and one call may give several values
abbrev pub alone : OperandOf GoType → Verdict (OperandOf GoType) → Type 0
alone (o.Type at s) = good (o.Type at s)
alone (o.OpenArray at s) = good (o.OpenArray at s)
alone x = After (as_value x) (λ y. good (o.Value y))

abbrev pub each_alone : Option Several → List (Option (OperandOf GoType)) → Verdict (List (Option (OperandOf GoType))) → Type 0
each_alone (Some it) xs = good xs
each_alone None xs = AreKept alone xs

abbrev pub where_all : {A B : Type 0} → Option (List A) → (Verdict B → Type 0) → Verdict B → Type 0
where_all None J = unjudged
where_all (Some xs) J = J

-- a fault of the call itself, where its arguments have none
abbrev pub not_called : {B : Type 0} → ℕ → Pos → List (Option (OperandOf GoType)) → Verdict B → Type 0
not_called code place xs = After (each_alone (several_in xs) xs) (λ ys. where_all (all_found ys) (bad code place))

-- whether a call of the first operand is one of a function, and of which
abbrev pub value_called : Table → Pos → Bool → List (Option (OperandOf GoType)) → ValueOf GoType → Verdict (OperandOf GoType) → Type 0
value_called table place spread xs (v.Typed at s stands calls form) y =
    ((g : Function) × IsFunction table s g × called table place spread form callee.Value None g xs y)
    ⊎ (((g : Function) → IsFunction table s g → ⊥) × not_called 51 place xs y)
value_called table place spread xs x y = not_called 51 place xs y

abbrev pub method_called : Table → Pos → Bool → List (Option (OperandOf GoType)) → Pos → GoType → FormOf GoType → BoundOf GoType → Verdict (OperandOf GoType) → Type 0
method_called table place spread xs at of form bound y =
    ((g : Function) × IsFunction table of g × called table place spread form (callee.Method at of bound) None g xs y)
    ⊎ (((g : Function) → IsFunction table of g → ⊥) × not_called 51 place xs y)

-- ---- crossing calls

-- the first argument says how the call crosses: `cross`, or the own parameter in a call of the same package that stands directly in the body
abbrev pub crosses : Bool → OperandOf GoType → Option Crossing
crosses own (o.Cross at) = Some cross.Cross
crosses true (o.Realm at) = Some cross.Own
crosses own x = None

abbrev pub without_first : Function → Function
without_first g = record g { params = drop 1 g.params }

-- another first argument is judged as a value; `cross` and a crossing function's parameter are none, and stand in the wrong place here
abbrev pub first_by : Option Several → OperandOf GoType → Verdict (OperandOf GoType) → Type 0
first_by (Some it) x = good x
first_by None (o.Cross at) = good (o.Cross at)
first_by None (o.Realm at) = good (o.Realm at)
first_by None x = After (as_value x) (λ y. good (o.Value y))

abbrev pub first_value : OperandOf GoType → Verdict (OperandOf GoType) → Type 0
first_value x = first_by (several_of (Some x)) x

-- the other arguments of a crossing call are one value each
abbrev pub rest_passed : Table → Pos → Bool → Function → List (Option (OperandOf GoType)) → Verdict (ArgumentsOf GoType) → Type 0
rest_passed table place spread g xs = After (AreKept as_value xs) (each_passed table place spread g)

abbrev pub wrongly_crossed : Table → Pos → Bool → Function → Option (OperandOf GoType) → List (Option (OperandOf GoType)) → Verdict (OperandOf GoType) → Type 0
wrongly_crossed table place spread g None xs = After (AreKept as_value xs) (λ ys. unjudged)
wrongly_crossed table place spread g (Some x) xs = AfterBoth (first_value x) (rest_passed table place spread g xs) (λ y passed. bad 63 place)

abbrev pub crossed_by : Option Crossing → Table → Pos → Bool → FormOf GoType → Function → Option (OperandOf GoType) → List (Option (OperandOf GoType)) → Verdict (OperandOf GoType) → Type 0
crossed_by None table place spread form g first xs = wrongly_crossed table place spread g first xs
crossed_by (Some crossing) table place spread form g first xs = After (rest_passed table place spread g xs)
    (λ passed. good (result_of place g.results (with_step form (step.Call place g.results callee.Value (Some crossing) passed (last_from g.variadic spread g.params)))))

abbrev pub crossing_of : Bool → Option (OperandOf GoType) → Option Crossing
crossing_of own None = None
crossing_of own (Some x) = crosses own x

abbrev pub crossed : Bool → Table → Pos → Bool → FormOf GoType → Function → List (Option (OperandOf GoType)) → Verdict (OperandOf GoType) → Type 0
crossed own table place spread form g [] = bad 50 place
crossed own table place spread form g (first ∷ xs) = crossed_by (crossing_of own first) table place spread form (without_first g) first xs

-- `own`: the own parameter of the crossing function may stand here for one of its package
abbrev pub crossing_called : Bool → Table → Pos → Bool → List (Option (OperandOf GoType)) → Pos → GoType → CodeId → Verdict (OperandOf GoType) → Type 0
crossing_called own table place spread xs at of code y =
    ((g : Function) × IsFunction table of g × crossed own table place spread (f.Whole (w.Function at of code)) g xs y)
    ⊎ (((g : Function) → IsFunction table of g → ⊥) × not_called 51 place xs y)

-- ---- all

-- `x(arguments)` of what is no type and no predeclared function. `path`: that of the package; `direct`: the own parameter of a crossing function may stand here
unfoldable pub call : List ℕ → Bool → Table → Pos → Bool → OperandOf GoType → List (Option (OperandOf GoType)) → Verdict (OperandOf GoType) → Type 0
call path direct table place spread (o.Crossing at of code) xs = crossing_called (direct && bytes_eq path code.«package») table place spread xs at of code
call path direct table place spread (o.Method at of calls form bound) xs = method_called table place spread xs at of form bound
call path direct table place spread (o.Value x) xs = value_called table place spread xs x
call path direct table place spread x xs = After (as_value x) (λ y. not_called 51 place xs)
