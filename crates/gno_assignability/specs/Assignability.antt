-- Assignability. Go specification, "Assignability" and "Representability".
use Rattle.std.specs.Prelude.{◌≡◌, Bool, true, false, ◌&&◌, Option, Some, None}
use Rattle.gno_base.specs.Range.{InRange}
use Rattle.gno_base.specs.declared.kind.Kind.{Kind}
use Rattle.gno_base.specs.declared.kind.Kind.TheVariants as k
use Rattle.gno_constants.specs.declared.constant.Constant.{Constant}
use Rattle.gno_constants.specs.declared.constant.Constant.TheVariants as c
use Rattle.gno_method_sets.specs.Implementing.{Implements}
use Rattle.gno_terms.specs.declared.term.GoType.{GoType}
use Rattle.gno_terms.specs.declared.term.TermOf.{TermOf}
use Rattle.gno_terms.specs.declared.term.TermOf.TheVariants as t
use Rattle.gno_terms.specs.Lawful.{is_untyped}
use Rattle.gno_terms.specs.Normal.{Identical}
use Rattle.gno_terms.specs.Tables.{Table, Underlying}
use Rattle.gno_terms.specs.Terms.{term_of, type_of}

-- `nil` is a value
abbrev pub has_nil : {A : Type 0} → TermOf A → Bool
has_nil (t.Pointer a) = true
has_nil (t.Function ps variadic rs) = true
has_nil (t.Slice a) = true
has_nil (t.Map a b) = true
has_nil (t.Interface ms) = true
has_nil x = false

-- Go specification, "Types": named types
abbrev pub is_named : {A : Type 0} → TermOf A → Bool
is_named (t.Basic kind) = true
is_named t.Error = true
is_named t.Realm = true
is_named (t.Defined path name local) = true
is_named x = false

-- Go specification, "Constants": the default type of an untyped constant
abbrev pub default_kind : {A : Type 0} → TermOf A → Option Kind
default_kind t.UntypedBool = Some k.Bool
default_kind t.UntypedWhole = Some k.Int
default_kind t.UntypedRune = Some k.Int32
default_kind t.UntypedText = Some k.Text
default_kind x = None

-- Go specification, "Representability": the constant is a value of the kind
abbrev pub IsValue : Constant → Kind → Type 0
IsValue (c.Bool b) kind = kind ≡ k.Bool
IsValue (c.Text text) kind = kind ≡ k.Text
IsValue (c.Whole n) kind = InRange kind n

-- the kinds that a value of a kind's untyped class takes: boolean values, texts and whole numbers
abbrev pub is_whole : Kind → Bool
is_whole k.Bool = false
is_whole k.Text = false
is_whole kind = true

abbrev pub is_alike : Kind → Kind → Bool
is_alike k.Bool k.Bool = true
is_alike k.Text k.Text = true
is_alike a b = is_whole a && is_whole b

-- an untyped constant becomes a value of the kind; an untyped value that is no constant one of its class
abbrev pub Becomes : Option Constant → Kind → Kind → Type 0
Becomes (Some constant) default kind = IsValue constant kind
Becomes None default kind = is_alike default kind ≡ true

-- untyped constants and values, by their default kind
pub data TakesUntyped (table : Table) (default : Kind) (constant : Option Constant) (to : GoType) : Type 0 where
  as_basic : (kind : Kind) (u : GoType) → Underlying table to u → term_of u ≡ t.Basic kind → Becomes constant default kind → TakesUntyped table default constant to
  in_interface : Implements table (type_of (t.Basic default)) to → Becomes constant default default → TakesUntyped table default constant to

-- the underlying types are identical, and one of both types is not named
pub record HaveOneUnderlying (table : Table) (from : GoType) (to : GoType) : Type 0 where
  pub not_both : is_named (term_of from) && is_named (term_of to) ≡ false
  pub underlying : GoType
  pub by : Underlying table from underlying
  pub other : GoType
  pub other_by : Underlying table to other
  pub identical : Identical underlying other

-- a value of a type, or the constant that it is, may be assigned to a variable of another type
pub data IsAssignable (table : Table) (from : GoType) (constant : Option Constant) (to : GoType) : Type 0 where
  identical : Identical from to → IsAssignable table from constant to
  nil : (u : GoType) → term_of from ≡ t.UntypedNil → Underlying table to u → has_nil (term_of u) ≡ true → IsAssignable table from constant to
  untyped : (default : Kind) → default_kind (term_of from) ≡ Some default → TakesUntyped table default constant to → IsAssignable table from constant to
  interface : is_untyped (term_of from) ≡ false → Implements table from to → IsAssignable table from constant to
  underlying : is_untyped (term_of from) ≡ false → HaveOneUnderlying table from to → IsAssignable table from constant to
