-- `x[low:high]` and `x[low:high:max]`. Go specification, "Slice expressions".
use Rattle.std.specs.Prelude.{ℕ, ◌≡◌, ◌^◌, ◌++◌, ⊤, ℤ, pos, ◌≤ℤ◌, ◌<ℤ◌, Bool, true, false, ◌||◌, Option, Some, None, option_map}
use Rattle.gno_base.specs.declared.kind.Kind.TheVariants as k
use Rattle.gno_scan.specs.declared.token.Pos.{Pos}
use Rattle.gno_constants.specs.declared.constant.Constant.{Constant}
use Rattle.gno_terms.specs.declared.term.GoType.{GoType}
use Rattle.gno_terms.specs.declared.term.TermOf.TheVariants as t
use Rattle.gno_terms.specs.Lawful.{is_untyped}
use Rattle.gno_terms.specs.Tables.{Table, Underlying}
use Rattle.gno_terms.specs.Terms.{term_of, type_of}
use Rattle.gno_typed.specs.declared.expr.TypedExprOf.{TypedExprOf}
use Rattle.gno_typed.specs.declared.step.SliceKind.{SliceKind}
use Rattle.gno_typed.specs.declared.step.SliceKind.TheVariants as i
use Rattle.gno_typed.specs.declared.step.TypedStepOf.TheVariants as step
use Rattle.gno_typing.specs.Binary.{calls_in}
use Rattle.gno_typing.specs.Classes.{IsOf, is_text}
use Rattle.gno_typing.specs.Forms.{with_step}
use Rattle.gno_typing.specs.Indexes.{Counted, counted, taken, text_length}
use Rattle.gno_typing.specs.Operands.{as_value, settled_constant}
use Rattle.gno_typing.specs.Verdicts.{Verdict, After, AfterBoth, good, bad, unjudged, wants, wants_some}
use Rattle.gno_typing.specs.declared.form.FormOf.{FormOf}
use Rattle.gno_typing.specs.declared.operand.OperandOf.{OperandOf}
use Rattle.gno_typing.specs.declared.operand.OperandOf.TheVariants as o
use Rattle.gno_typing.specs.declared.value.Standing.{Standing}
use Rattle.gno_typing.specs.declared.value.Standing.TheVariants as st
use Rattle.gno_typing.specs.declared.value.ValueOf.{ValueOf}
use Rattle.gno_typing.specs.declared.value.ValueOf.TheVariants as v

-- what is sliced, what slicing it gives, and how long it is where its type tells
pub record Sliced : Type 0 where
  pub kind : SliceKind
  pub of : GoType
  pub count : Option ℕ

abbrev pub slice_of : GoType → GoType
slice_of s = type_of (t.Slice s)

pub data Slices (table : Table) (s : GoType) : Sliced → Type 0 where
  of_string : {e : Sliced} (u : GoType) → Underlying table s u → term_of u ≡ t.Basic k.Text → e ≡ record { kind = i.String; of = s; count = None } → Slices table s e
  of_slice : {e : Sliced} (u element : GoType) → Underlying table s u → term_of u ≡ t.Slice element → e ≡ record { kind = i.Slice; of = s; count = None } → Slices table s e
  of_array : {e : Sliced} (u element : GoType) (n : ℕ) → Underlying table s u → term_of u ≡ t.Array n element → e ≡ record { kind = i.Array; of = slice_of element; count = Some n } → Slices table s e
  of_pointer : {e : Sliced} (u a b element : GoType) (n : ℕ) → Underlying table s u → term_of u ≡ t.Pointer a → Underlying table a b → term_of b ≡ t.Array n element → e ≡ record { kind = i.Pointer; of = slice_of element; count = Some n } → Slices table s e

-- the values of up to three bounds, as far as they are written
pub record Bounds (A : Type 0) : Type 0 where
  pub low : Option A
  pub high : Option A
  pub max : Option A

-- from 0, and at most the length where it is known
abbrev pub IsWithin : Option ℕ → ℤ → Type 0
IsWithin None n = (pos 0 ≤ℤ n) × (n <ℤ pos (2 ^ 63))
IsWithin (Some m) n = (pos 0 ≤ℤ n) × (n ≤ℤ pos m)

-- a bound that is written, or is not
abbrev pub maybe : {A B : Type 0} → (A → Verdict B → Type 0) → Option A → Verdict (Option B) → Type 0
maybe go None = good None
maybe go (Some x) = After (go x) (λ y. good (Some y))

abbrev pub on_bounds : {B C : Type 0} → (Bounds B → Verdict C → Type 0) → Option (Option B) → Option (Option B) → Option (Option B) → Verdict C → Type 0
on_bounds go (Some low) (Some high) (Some max) = go (record { low = low; high = high; max = max })
on_bounds go _ _ _ = unjudged

-- a node is judged after its bounds
pub record AfterBounds {A B C : Type 0} (bound : A → Verdict B → Type 0) (bounds : Bounds A) (go : Bounds B → Verdict C → Type 0) (y : Verdict C) : Type 0 where
  pub low : Verdict (Option B)
  pub low_judged : maybe bound bounds.low low
  pub high : Verdict (Option B)
  pub high_judged : maybe bound bounds.high high
  pub max : Verdict (Option B)
  pub max_judged : maybe bound bounds.max max
  pub rest : Verdict C
  pub goes_on : on_bounds go low.form high.form max.form rest
  pub form : y.form ≡ rest.form
  pub faults : y.faults ≡ low.faults ++ (high.faults ++ (max.faults ++ rest.faults))

-- constants do not fall
abbrev pub IsUpTo : Option ℤ → Option ℤ → Type 0
IsUpTo (Some m) (Some n) = m ≤ℤ n
IsUpTo x y = ⊤

abbrev pub value_of : Option Counted → Option ℤ
value_of None = None
value_of (Some n) = n.value

abbrev pub Rise : Bounds Counted → Type 0
Rise b = IsUpTo (value_of b.low) (value_of b.high) × (IsUpTo (value_of b.high) (value_of b.max) × IsUpTo (value_of b.low) (value_of b.max))

abbrev pub form_in : Counted → TypedExprOf GoType
form_in n = n.form

abbrev pub is_string : SliceKind → Bool
is_string i.String = true
is_string kind = false

abbrev pub is_given : {A : Type 0} → Option A → Bool
is_given None = false
is_given (Some x) = true

abbrev pub calls_behind : Option (ValueOf GoType) → Bool
calls_behind None = false
calls_behind (Some x) = calls_in x

abbrev pub calls_of : Bounds (ValueOf GoType) → Bool
calls_of b = calls_behind b.low || (calls_behind b.high || calls_behind b.max)

-- an array is sliced where it is a place
abbrev pub MayBeSliced : SliceKind → Standing → Type 0
MayBeSliced i.Array st.Place = ⊤
MayBeSliced i.Array stands = ⊥
MayBeSliced kind stands = ⊤

-- no third bound with a string
abbrev pub HasBounds : SliceKind → Bounds (ValueOf GoType) → Type 0
HasBounds kind b = (is_string kind ≡ true) → is_given b.max ≡ false

abbrev pub sliced_by : Table → Pos → Standing → Bool → FormOf GoType → Bounds (ValueOf GoType) → Sliced → Verdict (ValueOf GoType) → Type 0
sliced_by table place stands calls form bounds e = wants (HasBounds e.kind bounds) 54 place (wants (MayBeSliced e.kind stands) 56 place
    (AfterBounds (taken table) bounds (λ taken_bounds. AfterBounds (counted table 54 55 (IsWithin e.count) place) taken_bounds (λ b. wants (Rise b) 55 place
    (good (v.Typed place e.of st.Result (calls || calls_of bounds) (with_step form (step.Slice place e.of e.kind (option_map form_in b.low) (option_map form_in b.high) (option_map form_in b.max)))))))))

-- a constant string; one of no type gives a string
abbrev pub sliced_text : Table → Pos → Pos → GoType → Constant → Bounds (ValueOf GoType) → Verdict (ValueOf GoType) → Type 0
sliced_text table place at s x bounds = After (settled_constant (is_untyped (term_of s)) table at s x)
    (λ y. sliced_by table place st.Result false y.form bounds (record { kind = i.String; of = y.of; count = text_length x }))

abbrev pub sliced : Table → Pos → ValueOf GoType → Bounds (ValueOf GoType) → Verdict (ValueOf GoType) → Type 0
sliced table place (v.Constant at s x) bounds = wants (IsOf is_text table s) 54 place (sliced_text table place at s x bounds)
sliced table place (v.Nil at) bounds = bad 54 place
sliced table place (v.Typed at s stands calls form) bounds = wants_some (Slices table s) 54 place (sliced_by table place stands calls form bounds)
sliced table place (v.Pending at needs calls form) bounds = bad 54 place

-- `x[low:high:max]`, after all its parts
unfoldable pub slice : Table → Pos → OperandOf GoType → Bounds (OperandOf GoType) → Verdict (OperandOf GoType) → Type 0
slice table place x bounds = After (AfterBoth (as_value x) (AfterBounds as_value bounds good) (sliced table place)) (λ y. good (o.Value y))
