-- `T(x)`. Go specification, "Conversions", within this profile.
use Rattle.std.specs.Prelude.{ℕ, ◌≡◌, ℤ, pos, negsuc, Bool, true, false, ◌&&◌, ◌||◌, if◌then◌else◌, nat_lt, encode_utf8}
use Rattle.gno_base.specs.declared.kind.Kind.{Kind}
use Rattle.gno_base.specs.declared.kind.Kind.TheVariants as k
use Rattle.gno_assignability.specs.Assignability.{has_nil}
use Rattle.gno_constants.specs.declared.constant.Constant.{Constant}
use Rattle.gno_constants.specs.declared.constant.Constant.TheVariants as c
use Rattle.gno_promotion.specs.MethodSets.{is_interface}
use Rattle.gno_scan.specs.declared.token.Pos.{Pos}
use Rattle.gno_terms.specs.declared.term.GoType.{GoType}
use Rattle.gno_terms.specs.declared.term.TermOf.{TermOf}
use Rattle.gno_terms.specs.declared.term.TermOf.TheVariants as t
use Rattle.gno_terms.specs.Lawful.{is_untyped}
use Rattle.gno_terms.specs.Normal.{Identical}
use Rattle.gno_terms.specs.Tables.{Table, Underlying}
use Rattle.gno_terms.specs.Terms.{term_of}
use Rattle.gno_typed.specs.declared.expr.ConversionKind.{ConversionKind}
use Rattle.gno_typed.specs.declared.expr.ConversionKind.TheVariants as kind
use Rattle.gno_typed.specs.declared.expr.TypedExprOf.TheVariants as w
use Rattle.gno_typing.specs.Classes.{Has, IsInterface, IsOf, IsRepresentable, fits, is_boolean, is_integer, is_text}
use Rattle.gno_typing.specs.Forms.{closed}
use Rattle.gno_typing.specs.Giving.{InType, IsDefaulted, IsGiven, in_type}
use Rattle.gno_typing.specs.Operands.{as_value, settled_constant}
use Rattle.gno_typing.specs.Verdicts.{Verdict, After, good, wants, wants_some, where_so}
use Rattle.gno_typing.specs.declared.form.FormOf.{FormOf}
use Rattle.gno_typing.specs.declared.form.FormOf.TheVariants as f
use Rattle.gno_typing.specs.declared.pending.PendingOf.{PendingOf}
use Rattle.gno_typing.specs.declared.operand.OperandOf.{OperandOf}
use Rattle.gno_typing.specs.declared.operand.OperandOf.TheVariants as o
use Rattle.gno_typing.specs.declared.value.Standing.TheVariants as st
use Rattle.gno_typing.specs.declared.value.ValueOf.{ValueOf}
use Rattle.gno_typing.specs.declared.value.ValueOf.TheVariants as v
use Rattle.gno_typing.specs.declared.value.Waits.TheVariants as waits

-- ---- values of types

-- the underlying type of the elements of a slice
pub record ElementsAre (kind : Kind) (table : Table) (u : GoType) : Type 0 where
  pub element : GoType
  pub is_slice : term_of u ≡ t.Slice element
  pub underlying : GoType
  pub by : Underlying table element underlying
  pub is : term_of underlying ≡ t.Basic kind

-- both are pointers without a name, to types whose underlying types are identical
pub record ArePointers (table : Table) (s u : GoType) : Type 0 where
  pub from : GoType
  pub is_from : term_of s ≡ t.Pointer from
  pub to : GoType
  pub is_to : term_of u ≡ t.Pointer to
  pub from_underlying : GoType
  pub from_by : Underlying table from from_underlying
  pub to_underlying : GoType
  pub to_by : Underlying table to to_underlying
  pub identical : Identical from_underlying to_underlying

-- how a value of a type that is no interface type, or one that is, is converted to a type, by their underlying types a and b
pub data Converts (table : Table) (s u a b : GoType) : ConversionKind → Type 0 where
  between_interfaces : is_interface (term_of b) ≡ true → is_interface (term_of a) ≡ true → Has table s u → Converts table s u a b kind.Same
  to_interface : is_interface (term_of b) ≡ true → is_interface (term_of a) ≡ false → Has table s u → Converts table s u a b kind.Interface
  same : is_interface (term_of b) ≡ false → Identical a b → Converts table s u a b kind.Same
  pointers : ArePointers table s u → (Identical a b → ⊥) → Converts table s u a b kind.Same
  integers : is_integer (term_of a) ≡ true → is_integer (term_of b) ≡ true → (Identical a b → ⊥) → Converts table s u a b kind.Integer
  character : is_integer (term_of a) ≡ true → term_of b ≡ t.Basic k.Text → Converts table s u a b kind.Character
  from_bytes : ElementsAre k.Uint8 table a → term_of b ≡ t.Basic k.Text → Converts table s u a b kind.FromBytes
  from_characters : ElementsAre k.Int32 table a → term_of b ≡ t.Basic k.Text → Converts table s u a b kind.FromCharacters
  bytes : term_of a ≡ t.Basic k.Text → ElementsAre k.Uint8 table b → Converts table s u a b kind.Bytes
  characters : term_of a ≡ t.Basic k.Text → ElementsAre k.Int32 table b → Converts table s u a b kind.Characters

pub record ConvertsBy (table : Table) (s u : GoType) (how : ConversionKind) : Type 0 where
  pub from : GoType
  pub from_by : Underlying table s from
  pub to : GoType
  pub to_by : Underlying table u to
  pub converts : Converts table s u from to how

abbrev pub converted_typed : Table → Pos → GoType → Bool → InType → Verdict (ValueOf GoType) → Type 0
converted_typed table place u calls x = wants_some (ConvertsBy table x.of u) 58 place (λ how. good (v.Typed place u st.Result calls (f.Whole (w.Conversion place u how x.of (closed x.form)))))

-- ---- constants

-- a Unicode code point that is no surrogate half
abbrev pub is_scalar : ℕ → Bool
is_scalar n = nat_lt n 55296 || (nat_lt 57343 n && nat_lt n 1114112)

abbrev pub character_of : ℤ → ℕ
character_of (pos n) = if is_scalar n then n else 65533
character_of (negsuc n) = 65533

abbrev pub is_whole_constant : Constant → Bool
is_whole_constant (c.Whole n) = true
is_whole_constant x = false

-- the string of a character
abbrev pub text_of : Constant → Constant
text_of (c.Whole n) = c.Text (encode_utf8 (character_of n))
text_of x = x

-- to a basic type: a constant of the type, or of a string type the character of a whole number
abbrev pub constant_to_basic : Table → Pos → GoType → Constant → Verdict (ValueOf GoType) → Type 0
constant_to_basic table place u x = where_so (IsOf (fits x) table u) (wants (IsRepresentable table x u) 43 place (good (v.Constant place u x)))
    (wants (IsOf (λ term. is_text term && is_whole_constant x) table u) 58 place (good (v.Constant place u (text_of x))))

abbrev pub is_basic : {A : Type 0} → TermOf A → Bool
is_basic (t.Basic kind) = true
is_basic x = false

abbrev pub converted_constant : Table → Pos → GoType → Pos → GoType → Constant → Verdict (ValueOf GoType) → Type 0
converted_constant table place u at s x = where_so (IsOf is_basic table u) (constant_to_basic table place u x)
    (After (settled_constant (is_untyped (term_of s)) table at s x) (converted_typed table place u false))

-- ---- values that wait

abbrev pub same_of : Pos → GoType → Bool → FormOf GoType → Verdict (ValueOf GoType) → Type 0
same_of place u calls form = good (v.Typed place u st.Result calls (f.Whole (w.Conversion place u kind.Same u (closed form))))

-- a comparison takes a boolean type, and a shift the type of the conversion if that is no interface type
abbrev pub converted_boolean : Table → Pos → GoType → Bool → PendingOf GoType → Verdict (ValueOf GoType) → Type 0
converted_boolean table place u calls x = where_so (IsOf is_boolean table u) (After (IsGiven table u x) (same_of place u calls)) (After (IsDefaulted table x) (converted_typed table place u calls))

abbrev pub converted_integer : Table → Pos → GoType → Bool → Pos → PendingOf GoType → Verdict (ValueOf GoType) → Type 0
converted_integer table place u calls shift x = where_so (IsInterface table u) (After (IsDefaulted table x) (converted_typed table place u calls))
    (wants (IsOf is_integer table u) 46 shift (After (IsGiven table u x) (same_of place u calls)))

abbrev pub converted : Table → Pos → GoType → ValueOf GoType → Verdict (ValueOf GoType) → Type 0
converted table place u (v.Constant at s x) = converted_constant table place u at s x
converted table place u (v.Nil at) = wants (IsOf has_nil table u) 58 place (good (v.Typed place u st.Result false (f.Whole (w.Conversion place u kind.Same u (w.Nil at u)))))
converted table place u (v.Typed at s stands calls form) = converted_typed table place u calls (in_type s form)
converted table place u (v.Pending at waits.Boolean calls form) = converted_boolean table place u calls form
converted table place u (v.Pending at (waits.Integer shift) calls form) = converted_integer table place u calls shift form

-- `u(x)` takes one argument
unfoldable pub conversion : Table → Pos → GoType → OperandOf GoType → Verdict (OperandOf GoType) → Type 0
conversion table place u x = After (After (as_value x) (converted table place u)) (λ y. good (o.Value y))
