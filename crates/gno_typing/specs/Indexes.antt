-- `x[i]`. Go specification, "Index expressions".
use Rattle.std.specs.Prelude.{ℕ, ◌≡◌, ◌^◌, ◌⊎◌, ℤ, pos, ◌≤ℤ◌, ◌<ℤ◌, neg_ℤ, Bool, true, false, ◌||◌, Option, Some, None, length}
use Rattle.gno_base.specs.declared.kind.Kind.TheVariants as k
use Rattle.gno_constants.specs.declared.constant.Constant.{Constant}
use Rattle.gno_constants.specs.declared.constant.Constant.TheVariants as c
use Rattle.gno_scan.specs.declared.token.Pos.{Pos}
use Rattle.gno_terms.specs.declared.term.GoType.{GoType}
use Rattle.gno_terms.specs.declared.term.TermOf.{TermOf}
use Rattle.gno_terms.specs.declared.term.TermOf.TheVariants as t
use Rattle.gno_terms.specs.Lawful.{is_untyped}
use Rattle.gno_terms.specs.Tables.{Table, Underlying}
use Rattle.gno_terms.specs.Terms.{term_of}
use Rattle.gno_typed.specs.declared.expr.TypedExprOf.{TypedExprOf}
use Rattle.gno_typed.specs.declared.expr.TypedExprOf.TheVariants as w
use Rattle.gno_typed.specs.declared.step.IndexKind.{IndexKind}
use Rattle.gno_typed.specs.declared.step.IndexKind.TheVariants as i
use Rattle.gno_typed.specs.declared.step.TypedStepOf.TheVariants as step
use Rattle.gno_typing.specs.Binary.{calls_in, pos_in}
use Rattle.gno_typing.specs.Classes.{IsOf, basic, is_integer, is_text}
use Rattle.gno_typing.specs.Forms.{closed, with_step}
use Rattle.gno_typing.specs.Giving.{IsGiven, given}
use Rattle.gno_typing.specs.Operands.{as_value, settled_constant}
use Rattle.gno_typing.specs.Verdicts.{Verdict, After, AfterBoth, good, bad, wants, wants_some}
use Rattle.gno_typing.specs.declared.form.FormOf.{FormOf}
use Rattle.gno_typing.specs.declared.operand.OperandOf.{OperandOf}
use Rattle.gno_typing.specs.declared.operand.OperandOf.TheVariants as o
use Rattle.gno_typing.specs.declared.value.Standing.{Standing}
use Rattle.gno_typing.specs.declared.value.Standing.TheVariants as st
use Rattle.gno_typing.specs.declared.value.ValueOf.{ValueOf}
use Rattle.gno_typing.specs.declared.value.ValueOf.TheVariants as v
use Rattle.gno_typing.specs.declared.value.Waits.TheVariants as waits

-- ---- a whole number that counts elements: an index, a bound of a slice, a key of a list, a size of `make`

-- an index in its typed form, and its value where it is a constant
pub record Counted : Type 0 where
  pub form : TypedExprOf GoType
  pub value : Option ℤ

abbrev pub is_untyped_whole : {A : Type 0} → TermOf A → Bool
is_untyped_whole t.UntypedWhole = true
is_untyped_whole t.UntypedRune = true
is_untyped_whole x = false

abbrev pub IsWide : Bool → Constant → Type 0
IsWide true (c.Whole n) = (n <ℤ neg_ℤ (pos (2 ^ 63))) ⊎ (pos (2 ^ 63) ≤ℤ n)
IsWide untyped x = ⊥

abbrev pub taken_type : Bool → GoType → GoType
taken_type true s = basic k.Int
taken_type false s = s

-- an untyped integer takes the type `int`
abbrev pub taken : Table → ValueOf GoType → Verdict (ValueOf GoType) → Type 0
taken table (v.Constant at s x) = wants (IsWide (is_untyped_whole (term_of s)) x → ⊥) 43 at (good (v.Constant at (taken_type (is_untyped_whole (term_of s)) s) x))
taken table (v.Pending at (waits.Integer first) calls form) = After (IsGiven table (basic k.Int) form) (λ y. good (v.Typed at (basic k.Int) st.Result calls y))
taken table (v.Pending at waits.Boolean calls form) = good (v.Pending at waits.Boolean calls form)
taken table (v.Nil at) = good (v.Nil at)
taken table (v.Typed at s stands calls form) = good (v.Typed at s stands calls form)

abbrev pub whole_in : Constant → ℤ
whole_in (c.Whole n) = n
whole_in x = pos 0

-- `InBounds`: which constants may stand. The two codes are for what is no integer, and for a constant that may not stand
abbrev pub counted : Table → ℕ → ℕ → (ℤ → Type 0) → Pos → ValueOf GoType → Verdict Counted → Type 0
counted table no_integer out_of_bounds InBounds place (v.Constant at s x) = wants (IsOf is_integer table s) no_integer place (wants (InBounds (whole_in x)) out_of_bounds place (good (record { form = w.Constant at s x; value = Some (whole_in x) })))
counted table no_integer out_of_bounds InBounds place (v.Nil at) = bad no_integer place
counted table no_integer out_of_bounds InBounds place (v.Typed at s stands calls form) = wants (IsOf is_integer table s) no_integer place (good (record { form = closed form; value = None }))
counted table no_integer out_of_bounds InBounds place (v.Pending at needs calls form) = bad no_integer place

-- from 0, and below the length where it is known
abbrev pub IsBelow : Option ℕ → ℤ → Type 0
IsBelow None n = (pos 0 ≤ℤ n) × (n <ℤ pos (2 ^ 63))
IsBelow (Some m) n = (pos 0 ≤ℤ n) × (n <ℤ pos m)

-- ---- what is indexed

-- how elements of a type are reached, of which type they are, and how many there are where the type tells
pub record Elements : Type 0 where
  pub kind : IndexKind
  pub of : GoType
  pub count : Option ℕ

pub data HasElements (table : Table) (s : GoType) : Elements → Type 0 where
  of_text : {e : Elements} (u : GoType) → Underlying table s u → term_of u ≡ t.Basic k.Text → e ≡ record { kind = i.String; of = basic k.Uint8; count = None } → HasElements table s e
  of_slice : {e : Elements} (u element : GoType) → Underlying table s u → term_of u ≡ t.Slice element → e ≡ record { kind = i.Slice; of = element; count = None } → HasElements table s e
  of_array : {e : Elements} (u element : GoType) (n : ℕ) → Underlying table s u → term_of u ≡ t.Array n element → e ≡ record { kind = i.Array; of = element; count = Some n } → HasElements table s e
  of_pointer : {e : Elements} (u a b element : GoType) (n : ℕ) → Underlying table s u → term_of u ≡ t.Pointer a → Underlying table a b → term_of b ≡ t.Array n element → e ≡ record { kind = i.Pointer; of = element; count = Some n } → HasElements table s e

-- keys and values
pub record HasKeys (table : Table) (s key value : GoType) : Type 0 where
  pub underlying : GoType
  pub by : Underlying table s underlying
  pub is : term_of underlying ≡ t.Map key value

-- an element stands in a place where its array does, or where a pointer or a slice leads to it
abbrev pub element_stands : IndexKind → Standing → Standing
element_stands i.Slice stands = st.Place
element_stands i.Pointer stands = st.Place
element_stands i.Array st.Place = st.Place
element_stands kind stands = st.Result

abbrev pub takes_place : IndexKind → Standing → Bool
takes_place i.Array st.Place = true
takes_place kind stands = false

abbrev pub indexed_by : Table → Pos → Standing → Bool → FormOf GoType → ValueOf GoType → Elements → Verdict (ValueOf GoType) → Type 0
indexed_by table place stands calls form index e = After (After (taken table index) (counted table 54 55 (IsBelow e.count) place))
    (λ n. good (v.Typed place e.of (element_stands e.kind stands) (calls || calls_in index) (with_step form (step.Index place e.of e.kind (takes_place e.kind stands) n.form))))

-- a map is indexed by a key, and anything else by an integer
abbrev pub indexed_typed : Table → Pos → GoType → Standing → Bool → FormOf GoType → ValueOf GoType → Verdict (ValueOf GoType) → Type 0
indexed_typed table place s stands calls form index y =
    ((key : GoType) × (value : GoType) × HasKeys table s key value × After (given table 49 (pos_in index) key index)
    (λ x. good (v.Typed place value st.Element (calls || calls_in index) (with_step form (step.Index place value i.Map false (closed x))))) y)
    ⊎ (((key value : GoType) → HasKeys table s key value → ⊥) × wants_some (HasElements table s) 54 place (indexed_by table place stands calls form index) y)

abbrev pub text_length : Constant → Option ℕ
text_length (c.Text bytes) = Some (length bytes)
text_length x = None

-- a constant string
abbrev pub indexed_text : Table → Pos → Pos → GoType → Constant → ValueOf GoType → Verdict (ValueOf GoType) → Type 0
indexed_text table place at s x index = After (settled_constant (is_untyped (term_of s)) table at s x)
    (λ y. indexed_by table place st.Result false y.form index (record { kind = i.String; of = basic k.Uint8; count = text_length x }))

abbrev pub indexed : Table → Pos → ValueOf GoType → ValueOf GoType → Verdict (ValueOf GoType) → Type 0
indexed table place (v.Constant at s x) index = wants (IsOf is_text table s) 54 place (indexed_text table place at s x index)
indexed table place (v.Nil at) index = bad 54 place
indexed table place (v.Typed at s stands calls form) index = indexed_typed table place s stands calls form index
indexed table place (v.Pending at needs calls form) index = bad 54 place

-- `x[i]`, after both parts
unfoldable pub index : Table → Pos → OperandOf GoType → OperandOf GoType → Verdict (OperandOf GoType) → Type 0
index table place x at = After (AfterBoth (as_value x) (as_value at) (indexed table place)) (λ y. good (o.Value y))
