-- Calls of the predeclared functions. Go specification, "Built-in functions".
use Rattle.std.specs.Prelude.{ℕ, ◌≡◌, ◌^◌, ◌⊎◌, ℤ, pos, ◌≤ℤ◌, ◌<ℤ◌, List, [], ◌∷◌, length, Bool, true, false, ◌&&◌, nat_lt, Option, Some, None}
use Rattle.gno_base.specs.declared.kind.Kind.TheVariants as k
use Rattle.gno_constants.specs.declared.constant.Constant.{Constant}
use Rattle.gno_constants.specs.declared.constant.Constant.TheVariants as c
use Rattle.gno_scan.specs.declared.token.Pos.{Pos}
use Rattle.gno_terms.specs.declared.term.GoType.{GoType}
use Rattle.gno_terms.specs.declared.term.TermOf.{TermOf}
use Rattle.gno_terms.specs.declared.term.TermOf.TheVariants as t
use Rattle.gno_terms.specs.Normal.{Identical}
use Rattle.gno_terms.specs.Tables.{Table, Underlying}
use Rattle.gno_terms.specs.Terms.{term_of, type_of}
use Rattle.gno_typed.specs.declared.expr.ArgumentsOf.TheVariants as a
use Rattle.gno_typed.specs.declared.expr.TypedExprOf.{TypedExprOf}
use Rattle.gno_typed.specs.declared.expr.TypedExprOf.TheVariants as w
use Rattle.gno_typing.specs.Binary.{pos_in}
use Rattle.gno_typing.specs.Calls.{Several, handed, handing, passed, passing, several_in, times, where_all}
use Rattle.gno_typing.specs.Classes.{IsOf, Takes, basic}
use Rattle.gno_typing.specs.Forms.{closed}
use Rattle.gno_typing.specs.Giving.{given}
use Rattle.gno_typing.specs.Indexes.{Counted, HasKeys, counted, taken}
use Rattle.gno_typing.specs.Lists.{AreJudged, AreKept, all_found}
use Rattle.gno_typing.specs.Operands.{as_value, settled}
use Rattle.gno_typing.specs.Pointers.{pointer_to}
use Rattle.gno_typing.specs.Slices.{IsUpTo, form_in, slice_of}
use Rattle.gno_typing.specs.Verdicts.{Verdict, After, good, bad, unjudged, wants, wants_some, where_so}
use Rattle.gno_typing.specs.declared.form.FormOf.{FormOf}
use Rattle.gno_typing.specs.declared.form.FormOf.TheVariants as f
use Rattle.gno_typing.specs.declared.operand.OperandOf.{OperandOf}
use Rattle.gno_typing.specs.declared.operand.OperandOf.TheVariants as o
use Rattle.gno_typing.specs.declared.value.Standing.TheVariants as st
use Rattle.gno_typing.specs.declared.value.ValueOf.{ValueOf}
use Rattle.gno_typing.specs.declared.value.ValueOf.TheVariants as v

abbrev pub Rule : Type 1
Rule = Verdict (OperandOf GoType) → Type 0

-- what a call of a predeclared function gives: a value, or none
abbrev pub gives : Pos → GoType → TypedExprOf GoType → Rule
gives place s x = good (o.Value (v.Typed place s st.Result true (f.Whole x)))

abbrev pub gives_nothing : Pos → TypedExprOf GoType → Rule
gives_nothing place x = good (o.Results place [] (f.Whole x))

abbrev pub int : GoType
int = basic k.Int

abbrev pub any : GoType
any = type_of (t.Interface [])

-- ---- what types are

pub record IsSlice (table : Table) (s element : GoType) : Type 0 where
  pub underlying : GoType
  pub by : Underlying table s underlying
  pub is : term_of underlying ≡ t.Slice element

abbrev pub is_kind : {A : Type 0} → TermOf A → TermOf A → Bool
is_kind (t.Basic k.Uint8) (t.Basic k.Uint8) = true
is_kind (t.Basic k.Text) (t.Basic k.Text) = true
is_kind x y = false

-- a slice of bytes may be filled from a string
pub record IsFilled (table : Table) (element s : GoType) : Type 0 where
  pub bytes : IsOf (is_kind (t.Basic k.Uint8)) table element
  pub text : IsOf (is_kind (t.Basic k.Text)) table s

-- `copy` from one type to another
pub data Copies (table : Table) (to from : GoType) : Type 0 where
  elements : (a b : GoType) → IsSlice table to a → IsSlice table from b → Identical a b → Copies table to from
  text : (a : GoType) → IsSlice table to a → IsFilled table a from → Copies table to from

-- how long arrays of a type are, or those that it points at
pub data HasLength (table : Table) (s : GoType) (n : ℕ) : Type 0 where
  of_array : (u element : GoType) → Underlying table s u → term_of u ≡ t.Array n element → HasLength table s n
  of_pointer : (u b e element : GoType) → Underlying table s u → term_of u ≡ t.Pointer b → Underlying table b e → term_of e ≡ t.Array n element → HasLength table s n

abbrev pub has_len : {A : Type 0} → TermOf A → Bool
has_len (t.Basic k.Text) = true
has_len (t.Slice element) = true
has_len (t.Map key value) = true
has_len x = false

abbrev pub has_cap : {A : Type 0} → TermOf A → Bool
has_cap (t.Slice element) = true
has_cap x = false

-- ---- `len` and `cap`

abbrev pub measures : Bool → Pos → TypedExprOf GoType → TypedExprOf GoType
measures true place x = w.Len place int x
measures false place x = w.Cap place int x

abbrev pub is_measured : Bool → TermOf GoType → Bool
is_measured true x = has_len x
is_measured false x = has_cap x

-- the length of an array is a constant, unless calls would have to run
abbrev pub length_of : Bool → Bool → Pos → TypedExprOf GoType → ℕ → Rule
length_of len true place x n = gives place int (measures len place x)
length_of len false place x n = good (o.Value (v.Constant place int (c.Whole (pos n))))

abbrev pub measured_typed : Bool → Table → Pos → GoType → Bool → FormOf GoType → Rule
measured_typed len table place s calls form y =
    ((n : ℕ) × HasLength table s n × length_of len calls place (closed form) n y)
    ⊎ (((n : ℕ) → HasLength table s n → ⊥) × wants (IsOf (is_measured len) table s) 61 place (gives place int (measures len place (closed form))) y)

abbrev pub measured_constant : Bool → Pos → Constant → Rule
measured_constant true place (c.Text bytes) = good (o.Value (v.Constant place int (c.Whole (pos (length bytes)))))
measured_constant len place x = bad 61 place

-- `len`, or else `cap`
abbrev pub measured : Bool → Table → Pos → List (ValueOf GoType) → Rule
measured len table place (v.Constant at s x ∷ []) = measured_constant len place x
measured len table place (v.Typed at s stands calls form ∷ []) = measured_typed len table place s calls form
measured len table place xs = bad 61 place

-- ---- `copy`, `delete`, `panic`, `print`, `recover`

abbrev pub copied : Table → Pos → List (ValueOf GoType) → Rule
copied table place (v.Typed at s stands calls form ∷ v.Constant at_right u x ∷ []) = After (settled table 61 place (v.Constant at_right u x)) (λ y. wants (Copies table s y.of) 61 place (gives place int (w.Copy place int (a.Each (closed form ∷ closed y.form ∷ [])))))
copied table place (v.Typed at s stands calls form ∷ v.Typed at_right u stands_right calls_right from ∷ []) = wants (Copies table s u) 61 place (gives place int (w.Copy place int (a.Each (closed form ∷ closed from ∷ []))))
copied table place xs = bad 61 place

abbrev pub deleted_key : Table → Pos → GoType → FormOf GoType → ValueOf GoType → Rule
deleted_key table place s form key y =
    ((of : GoType) × (value : GoType) × HasKeys table s of value × After (given table 49 (pos_in key) of key) (λ x. gives_nothing place (w.Delete place (a.Each (closed form ∷ closed x ∷ [])))) y)
    ⊎ (((of value : GoType) → HasKeys table s of value → ⊥) × bad 61 place y)

abbrev pub deleted : Table → Pos → List (ValueOf GoType) → Rule
deleted table place (v.Typed at s stands calls form ∷ key ∷ []) = deleted_key table place s form key
deleted table place xs = bad 61 place

abbrev pub panicked : Table → Pos → List (ValueOf GoType) → Rule
panicked table place (x ∷ []) = After (given table 49 (pos_in x) any x) (λ y. gives_nothing place (w.Panic place (closed y)))
panicked table place xs = bad 61 place

abbrev pub printed : Bool → Table → Pos → List (ValueOf GoType) → Rule
printed line table place xs = After (AreJudged (λ x. After (settled table 61 place x) (λ y. good (closed y.form))) xs) (λ forms. gives_nothing place (w.Print place line (a.Each forms)))

abbrev pub recovered : Pos → List (ValueOf GoType) → Rule
recovered place [] = gives place any (w.Recover place any)
recovered place (x ∷ xs) = bad 61 place

-- ---- `append`

abbrev pub appended_list : Table → Pos → GoType → GoType → FormOf GoType → List (Option (ValueOf GoType)) → Rule
appended_list table place s element form xs = After (AreJudged (passed table) (passing xs (times (length xs) element))) (λ forms. gives place s (w.Append place s (a.Each (closed form ∷ forms)) false))

abbrev pub spread_form : Pos → GoType → FormOf GoType → TypedExprOf GoType → Rule
spread_form place s form x = gives place s (w.Append place s (a.Each (closed form ∷ x ∷ [])) true)

-- with `...` a slice of the same elements, or for bytes a string
abbrev pub spread_typed : Table → Pos → GoType → GoType → FormOf GoType → Pos → GoType → ValueOf GoType → Rule
spread_typed table place s element form at u x = where_so (IsFilled table element u) (After (settled table 61 place x) (λ y. spread_form place s form (closed y.form)))
    (After (given table 49 at (slice_of element) x) (λ y. spread_form place s form (closed y)))

-- whether an untyped constant is a text
abbrev pub settles_as_text : Constant → Bool
settles_as_text (c.Text bytes) = true
settles_as_text x = false

abbrev pub spread_constant : Table → Pos → GoType → GoType → FormOf GoType → Pos → GoType → Constant → Rule
spread_constant table place s element form at u x = where_so (IsOf (is_kind (t.Basic k.Uint8)) table element × (settles_as_text x ≡ true)) (After (settled table 61 place (v.Constant at u x)) (λ y. spread_form place s form (closed y.form)))
    (After (given table 49 at (slice_of element) (v.Constant at u x)) (λ y. spread_form place s form (closed y)))

abbrev pub appended_spread : Table → Pos → GoType → GoType → FormOf GoType → List (Option (ValueOf GoType)) → Rule
appended_spread table place s element form (Some (v.Constant at u x) ∷ []) = spread_constant table place s element form at u x
appended_spread table place s element form (Some (v.Typed at u stands calls from) ∷ []) = spread_typed table place s element form at u (v.Typed at u stands calls from)
appended_spread table place s element form (Some x ∷ []) = After (given table 49 (pos_in x) (slice_of element) x) (λ y. spread_form place s form (closed y))
appended_spread table place s element form (None ∷ []) = unjudged
appended_spread table place s element form xs = where_all (all_found xs) (bad 61 place)

abbrev pub appended_to : Bool → Table → Pos → GoType → FormOf GoType → List (Option (ValueOf GoType)) → GoType → Rule
appended_to true table place s form xs element = appended_spread table place s element form xs
appended_to false table place s form xs element = appended_list table place s element form xs

abbrev pub appended : Bool → Table → Pos → List (Option (ValueOf GoType)) → Rule
appended spread table place (Some (v.Typed at s stands calls form) ∷ xs) y =
    ((element : GoType) × IsSlice table s element × appended_to spread table place s form xs element y)
    ⊎ (((element : GoType) → IsSlice table s element → ⊥) × where_all (all_found xs) (bad 61 place) y)
appended spread table place (None ∷ xs) y = unjudged y
appended spread table place xs y = where_all (all_found xs) (bad 61 place) y

-- ---- `make` and `new`

-- how many sizes `make` wants of a type
abbrev pub takes_sizes : ℕ → TermOf GoType → Bool
takes_sizes n (t.Slice element) = nat_lt 0 n && nat_lt n 3
takes_sizes n (t.Map key value) = nat_lt n 2
takes_sizes n x = false

abbrev pub IsSize : ℤ → Type 0
IsSize n = (pos 0 ≤ℤ n) × (n <ℤ pos (2 ^ 63))

abbrev pub DoNotFall : List Counted → Type 0
DoNotFall (m ∷ n ∷ []) = IsUpTo m.value n.value
DoNotFall ns = IsUpTo None None

abbrev pub forms_in : List Counted → List (TypedExprOf GoType)
forms_in [] = []
forms_in (n ∷ ns) = form_in n ∷ forms_in ns

abbrev pub made_of : Table → Pos → GoType → List (ValueOf GoType) → Rule
made_of table place s xs = wants (IsOf (takes_sizes (length xs)) table s) 61 place (After (AreJudged (taken table) xs) (λ sizes. After (AreJudged (counted table 61 61 IsSize place) sizes)
    (λ ns. wants (DoNotFall ns) 61 place (gives place s (w.Make place s (forms_in ns))))))

abbrev pub newly : Pos → GoType → List (ValueOf GoType) → Rule
newly place s [] = gives place (pointer_to s) (w.New place (pointer_to s) s)
newly place s (x ∷ xs) = bad 61 place

abbrev pub made_by : Bool → Bool → Table → Pos → GoType → List (ValueOf GoType) → Rule
made_by make true table place s xs = bad 61 place
made_by true false table place s xs = made_of table place s xs
made_by false false table place s xs = newly place s xs

abbrev pub on_values : Option (List (ValueOf GoType)) → (List (ValueOf GoType) → Rule) → Rule
on_values None go = unjudged
on_values (Some xs) go = go xs

abbrev pub where_values : List (Option (ValueOf GoType)) → (List (ValueOf GoType) → Rule) → Rule
where_values xs go = on_values (all_found xs) go

-- the first argument is a type, and the others are values
abbrev pub made_type : Bool → Bool → Table → Pos → Option (OperandOf GoType) → List (Option (ValueOf GoType)) → Rule
made_type make spread table place None xs = unjudged
made_type make spread table place (Some (o.Type at s)) xs = where_values xs (made_by make spread table place s)
made_type make spread table place (Some x) xs = After (as_value x) (λ y. where_all (all_found xs) (bad 61 place))

-- `make`, or else `new`
abbrev pub made_new : Bool → Bool → Table → Pos → List (Option (OperandOf GoType)) → Rule
made_new make spread table place [] = bad 61 place
made_new make spread table place (first ∷ xs) = After (AreKept as_value xs) (made_type make spread table place first)

-- ---- one call gives all arguments

abbrev pub appended_results : Table → Pos → Several → GoType → List GoType → Rule
appended_results table place it s of = wants_some (IsSlice table s) 61 place (λ element. After (AreJudged (handed table it.at) (handing of (times (length of) element)))
    (λ given. gives place s (w.Append place s (a.Results (closed it.form) (s ∷ given)) false)))

abbrev pub copied_results : Table → Pos → Several → List GoType → Rule
copied_results table place it (s ∷ u ∷ []) = wants (Copies table s u) 61 place (gives place int (w.Copy place int (a.Results (closed it.form) it.of)))
copied_results table place it of = bad 61 place

abbrev pub deleted_results : Table → Pos → Several → List GoType → Rule
deleted_results table place it (s ∷ u ∷ []) y =
    ((key : GoType) × (value : GoType) × HasKeys table s key value × wants (Takes table key u) 49 it.at (gives_nothing place (w.Delete place (a.Results (closed it.form) (s ∷ key ∷ [])))) y)
    ⊎ (((key value : GoType) → HasKeys table s key value → ⊥) × bad 61 place y)
deleted_results table place it of y = bad 61 place y

abbrev pub appended_first : Table → Pos → Several → List GoType → Rule
appended_first table place it [] = bad 61 place
appended_first table place it (s ∷ of) = appended_results table place it s of

-- ---- all

-- the predeclared functions
pub data Builtin : Type 0 where
  Append : Builtin
  Cap : Builtin
  Copy : Builtin
  Delete : Builtin
  Len : Builtin
  Make : Builtin
  New : Builtin
  Panic : Builtin
  Print : Builtin
  Println : Builtin
  Recover : Builtin

abbrev pub of_values : Builtin → Table → Pos → List (ValueOf GoType) → Rule
of_values Cap table place xs = measured false table place xs
of_values Copy table place xs = copied table place xs
of_values Delete table place xs = deleted table place xs
of_values Len table place xs = measured true table place xs
of_values Panic table place xs = panicked table place xs
of_values Print table place xs = printed false table place xs
of_values Println table place xs = printed true table place xs
of_values Recover table place xs = recovered place xs
of_values builtin table place xs = bad 61 place

abbrev pub of_results : Builtin → Table → Pos → Several → Rule
of_results Append table place it = appended_first table place it it.of
of_results Copy table place it = copied_results table place it it.of
of_results Delete table place it = deleted_results table place it it.of
of_results Print table place it = gives_nothing place (w.Print place false (a.Results (closed it.form) it.of))
of_results Println table place it = gives_nothing place (w.Print place true (a.Results (closed it.form) it.of))
of_results builtin table place it = bad 61 place

-- `...` stands behind the arguments of `append` alone
abbrev pub of_plain : Bool → Builtin → Table → Pos → List (Option (ValueOf GoType)) → Rule
of_plain true function table place xs = where_all (all_found xs) (bad 61 place)
of_plain false function table place xs = where_values xs (of_values function table place)

abbrev pub is_append : Builtin → Bool
is_append Append = true
is_append function = false

abbrev pub of_kept_by : Bool → Builtin → Bool → Table → Pos → List (Option (ValueOf GoType)) → Rule
of_kept_by true function spread table place xs = appended spread table place xs
of_kept_by false function spread table place xs = of_plain spread function table place xs

abbrev pub of_kept : Builtin → Bool → Table → Pos → List (Option (ValueOf GoType)) → Rule
of_kept function spread table place xs = of_kept_by (is_append function) function spread table place xs

abbrev pub of_several : Bool → Builtin → Table → Pos → Several → Rule
of_several true builtin table place it = bad 61 place
of_several false builtin table place it = of_results builtin table place it

abbrev pub of_arguments : Option Several → Builtin → Bool → Table → Pos → List (Option (OperandOf GoType)) → Rule
of_arguments (Some it) builtin spread table place xs = of_several spread builtin table place it
of_arguments None builtin spread table place xs = After (AreKept as_value xs) (of_kept builtin spread table place)

-- a call of a predeclared function
unfoldable pub builtin : Builtin → Table → Pos → Bool → List (Option (OperandOf GoType)) → Verdict (OperandOf GoType) → Type 0
builtin Make table place spread xs = made_new true spread table place xs
builtin New table place spread xs = made_new false spread table place xs
builtin function table place spread xs = of_arguments (several_in xs) function spread table place xs
