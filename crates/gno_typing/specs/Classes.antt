-- Classes of types, and of constants. Go specification, "Types", "Constants" and "Representability".
use Rattle.std.specs.Prelude.{◌≡◌, ℕ, ◌⊎◌, Bool, true, false, ◌||◌, Some, None}
use Rattle.gno_assignability.specs.Assignability.{IsAssignable, IsValue, default_kind, is_whole}
use Rattle.gno_base.specs.declared.kind.Kind.{Kind}
use Rattle.gno_base.specs.declared.kind.Kind.TheVariants as k
use Rattle.gno_constants.specs.declared.constant.Constant.{Constant}
use Rattle.gno_constants.specs.declared.constant.Constant.TheVariants as c
use Rattle.gno_embedding.specs.Embedding.{IsComplete, IsKnown, base}
use Rattle.gno_method_sets.specs.Implementing.{Implements}
use Rattle.gno_promotion.specs.MethodSets.{is_interface}
use Rattle.gno_terms.specs.declared.term.GoType.{GoType}
use Rattle.gno_terms.specs.declared.term.TermOf.{TermOf}
use Rattle.gno_terms.specs.declared.term.TermOf.TheVariants as t
use Rattle.gno_terms.specs.Lawful.{is_untyped}
use Rattle.gno_terms.specs.Tables.{Table, Underlying}
use Rattle.gno_terms.specs.Terms.{term_of, type_of}
use Rattle.gno_type_rows.specs.Holding.{IsComparable, Slots}

abbrev pub basic : Kind → GoType
basic kind = type_of (t.Basic kind)

abbrev pub is_integer : {A : Type 0} → TermOf A → Bool
is_integer (t.Basic kind) = is_whole kind
is_integer t.UntypedWhole = true
is_integer t.UntypedRune = true
is_integer x = false

abbrev pub is_text : {A : Type 0} → TermOf A → Bool
is_text (t.Basic k.Text) = true
is_text t.UntypedText = true
is_text x = false

abbrev pub is_boolean : {A : Type 0} → TermOf A → Bool
is_boolean (t.Basic k.Bool) = true
is_boolean t.UntypedBool = true
is_boolean x = false

-- integers and texts are ordered
abbrev pub is_ordered : {A : Type 0} → TermOf A → Bool
is_ordered x = is_integer x || is_text x

-- the underlying type is of a class
pub record IsOf (class : TermOf GoType → Bool) (table : Table) (s : GoType) : Type 0 where
  pub underlying : GoType
  pub by : Underlying table s underlying
  pub holds : class (term_of underlying) ≡ true

abbrev pub IsUntyped : GoType → Type 0
IsUntyped s = is_untyped (term_of s) ≡ true

-- the type of an untyped constant where its place names none
abbrev pub IsDefault : GoType → Kind → Type 0
IsDefault s kind = default_kind (term_of s) ≡ Some kind

-- the classes of untyped constants
abbrev pub fits_kind : Constant → Kind → Bool
fits_kind (c.Bool b) k.Bool = true
fits_kind (c.Text text) k.Text = true
fits_kind (c.Whole n) kind = is_whole kind
fits_kind x kind = false

abbrev pub fits : {A : Type 0} → Constant → TermOf A → Bool
fits x (t.Basic kind) = fits_kind x kind
fits x s = false

abbrev pub IsValueBy : Constant → TermOf GoType → Type 0
IsValueBy x (t.Basic kind) = IsValue x kind
IsValueBy x s = ⊥

-- Go specification, "Representability": the constant is a value of the type
pub record IsRepresentable (table : Table) (x : Constant) (s : GoType) : Type 0 where
  pub underlying : GoType
  pub by : Underlying table s underlying
  pub value : IsValueBy x (term_of underlying)

-- the constant of a type: an untyped one may have any value
abbrev pub MayBe : Table → Constant → GoType → Type 0
MayBe table x s = IsUntyped s ⊎ IsRepresentable table x s

-- Types that are not defined, or that contain themselves, have no methods, compare with nothing and are assigned to nothing.
pub record Takes (table : Table) (u s : GoType) : Type 0 where
  pub complete : IsComplete table (base s)
  pub known : IsKnown table u
  pub assignable : IsAssignable table s None u

pub record Has (table : Table) (s u : GoType) : Type 0 where
  pub complete : IsComplete table (base s)
  pub implements : Implements table s u

pub record Compares (table : Table) (s : GoType) : Type 0 where
  pub slots : ℕ
  pub sized : Slots table s slots
  pub comparable : IsComparable table s

abbrev pub IsInterface : Table → GoType → Type 0
IsInterface table s = IsOf is_interface table s

-- a value of the first type becomes one of an interface type
pub record IsBoxed (table : Table) (s u : GoType) : Type 0 where
  pub value : IsInterface table s → ⊥
  pub interface : IsInterface table u
