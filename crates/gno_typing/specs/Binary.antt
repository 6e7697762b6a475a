-- Operators between two operands. Go specification, "Operators", "Arithmetic operators", "Comparison operators", "Logical operators" and "Constant expressions";
-- what a shift of an untyped constant by a count that is no constant is, is this project's own.
use Rattle.std.specs.Prelude.{◌≡◌, ◌⊎◌, ◌<ℤ◌, pos, [], ◌∷◌, Bool, true, false, not, ◌||◌, ◌&&◌, Option, Some, None}
use Rattle.std.specs.Ordering.{int_eq}
use Rattle.gno_base.specs.declared.kind.Kind.TheVariants as k
use Rattle.gno_assignability.specs.Assignability.{has_nil}
use Rattle.gno_constants.specs.declared.constant.Constant.{Constant}
use Rattle.gno_constants.specs.declared.constant.Constant.TheVariants as c
use Rattle.gno_constants.specs.declared.operator.FoldOp.{FoldOp}
use Rattle.gno_constants.specs.declared.operator.FoldOp.TheVariants as fold
use Rattle.gno_constants.specs.Exact.{exact}
use Rattle.gno_scan.specs.declared.token.Pos.{Pos}
use Rattle.gno_terms.specs.declared.term.GoType.{GoType}
use Rattle.gno_terms.specs.declared.term.TermOf.{TermOf}
use Rattle.gno_terms.specs.declared.term.TermOf.TheVariants as t
use Rattle.gno_terms.specs.Lawful.{is_untyped}
use Rattle.gno_terms.specs.Normal.{Identical}
use Rattle.gno_terms.specs.Tables.{Table}
use Rattle.gno_terms.specs.Terms.{term_of, type_of}
use Rattle.gno_tree.specs.declared.operator.BinaryOperator.{BinaryOperator}
use Rattle.gno_tree.specs.declared.operator.BinaryOperator.TheVariants as b
use Rattle.gno_typed.specs.declared.expr.TypedExprOf.{TypedExprOf}
use Rattle.gno_typed.specs.declared.expr.TypedExprOf.TheVariants as w
use Rattle.gno_typing.specs.Classes.{IsOf, IsInterface, IsBoxed, IsRepresentable, Compares, Takes, basic, fits, is_boolean, is_integer, is_ordered}
use Rattle.gno_typing.specs.Forms.{closed, with_pending}
use Rattle.gno_typing.specs.Giving.{AreDefaults, IsDefaultConstant, IsGiven, InType, held, joined_by, pending_given, shifted_by}
use Rattle.gno_typing.specs.Unary.{worked_out}
use Rattle.gno_typing.specs.Verdicts.{Verdict, After, AfterBoth, good, bad, wants, where_so}
use Rattle.gno_typing.specs.declared.form.FormOf.{FormOf}
use Rattle.gno_typing.specs.declared.form.FormOf.TheVariants as f
use Rattle.gno_typing.specs.declared.pending.PendingOf.{PendingOf}
use Rattle.gno_typing.specs.declared.pending.PendingOf.TheVariants as p
use Rattle.gno_typing.specs.declared.pending.PendingOperationOf.TheVariants as o
use Rattle.gno_typing.specs.declared.value.Standing.TheVariants as standing
use Rattle.gno_typing.specs.declared.value.ValueOf.{ValueOf}
use Rattle.gno_typing.specs.declared.value.ValueOf.TheVariants as v
use Rattle.gno_typing.specs.declared.value.Waits.{Waits}
use Rattle.gno_typing.specs.declared.value.Waits.TheVariants as waits

-- what an operator does with its operands
pub data Sort : Type 0 where
  Arithmetic : Sort
  Shifting : Sort
  Comparing : Sort

abbrev pub sort_of : BinaryOperator → Sort
sort_of b.ShiftLeft = Shifting
sort_of b.ShiftRight = Shifting
sort_of b.Equal = Comparing
sort_of b.NotEqual = Comparing
sort_of b.Less = Comparing
sort_of b.LessEqual = Comparing
sort_of b.Greater = Comparing
sort_of b.GreaterEqual = Comparing
sort_of operator = Arithmetic

abbrev pub is_comparing : BinaryOperator → Bool
is_comparing b.Equal = true
is_comparing b.NotEqual = true
is_comparing b.Less = true
is_comparing b.LessEqual = true
is_comparing b.Greater = true
is_comparing b.GreaterEqual = true
is_comparing operator = false

abbrev pub is_equality : BinaryOperator → Bool
is_equality b.Equal = true
is_equality b.NotEqual = true
is_equality operator = false

abbrev pub divides : BinaryOperator → Bool
divides b.Quo = true
divides b.Rem = true
divides operator = false

-- the operator on constants
abbrev pub fold_of : BinaryOperator → FoldOp
fold_of b.Mul = fold.Mul
fold_of b.Quo = fold.Quo
fold_of b.Rem = fold.Rem
fold_of b.ShiftLeft = fold.Shl
fold_of b.ShiftRight = fold.Shr
fold_of b.And = fold.And
fold_of b.AndNot = fold.AndNot
fold_of b.Add = fold.Add
fold_of b.Sub = fold.Sub
fold_of b.Or = fold.Or
fold_of b.Xor = fold.Xor
fold_of b.Equal = fold.Equal
fold_of b.NotEqual = fold.NotEqual
fold_of b.Less = fold.Less
fold_of b.LessEqual = fold.LessEqual
fold_of b.Greater = fold.Greater
fold_of b.GreaterEqual = fold.GreaterEqual
fold_of b.BothTrue = fold.BothTrue
fold_of b.OneTrue = fold.OneTrue

-- the types on which an operator is defined, but for shifts and equality
abbrev pub is_defined_on : {A : Type 0} → BinaryOperator → TermOf A → Bool
is_defined_on b.Add = is_ordered
is_defined_on b.Less = is_ordered
is_defined_on b.LessEqual = is_ordered
is_defined_on b.Greater = is_ordered
is_defined_on b.GreaterEqual = is_ordered
is_defined_on b.BothTrue = is_boolean
is_defined_on b.OneTrue = is_boolean
is_defined_on operator = is_integer

-- the operator takes operands of these types: where it compares for equality both must compare
abbrev pub allowed_by : Bool → Table → Pos → BinaryOperator → GoType → GoType → GoType → (Verdict (ValueOf GoType) → Type 0) → Verdict (ValueOf GoType) → Type 0
allowed_by true table place operator s t u J = wants (Compares table s × Compares table t) 48 place J
allowed_by false table place operator s t u J = wants (IsOf (is_defined_on operator) table u) 46 place J

abbrev pub untyped_bool : GoType
untyped_bool = type_of t.UntypedBool

-- the type of what an operator gives between constants of a type
abbrev pub folded_type : Bool → GoType → GoType
folded_type true s = untyped_bool
folded_type false s = s

abbrev pub folded : Table → Pos → BinaryOperator → GoType → Constant → Constant → Verdict (ValueOf GoType) → Type 0
folded table place operator s x y = worked_out table place (folded_type (is_comparing operator) s) (exact (fold_of operator) x y)

-- a constant divisor of a value that is no constant
abbrev pub is_zero : Constant → Bool
is_zero (c.Whole n) = int_eq n (pos 0)
is_zero x = false

abbrev pub divides_by_zero : BinaryOperator → ValueOf GoType → Bool
divides_by_zero operator (v.Constant at s x) = divides operator && is_zero x
divides_by_zero operator y = false

abbrev pub form_of : ValueOf GoType → FormOf GoType
form_of (v.Constant at s x) = f.Whole (w.Constant at s x)
form_of (v.Nil at) = f.Whole (w.Nil at (type_of t.UntypedNil))
form_of (v.Typed at s stands calls form) = form
form_of (v.Pending at needs calls form) = f.Whole (w.Nil at (type_of t.UntypedNil))

abbrev pub calls_in : ValueOf GoType → Bool
calls_in (v.Typed at s stands calls form) = calls
calls_in (v.Pending at needs calls form) = calls
calls_in x = false

abbrev pub type_in : ValueOf GoType → GoType
type_in (v.Constant at s x) = s
type_in (v.Typed at s stands calls form) = s
type_in x = type_of t.UntypedNil

abbrev pub pos_in : ValueOf GoType → Pos
pos_in (v.Constant at s x) = at
pos_in (v.Nil at) = at
pos_in (v.Typed at s stands calls form) = at
pos_in (v.Pending at needs calls form) = at

-- ---- operands of types

-- the right operand in the type of both
abbrev pub IsRight : Table → GoType → ValueOf GoType → TypedExprOf GoType → Type 0
IsRight table u r x = (IsBoxed table (type_in r) u × (x ≡ w.Interface u (type_in r) (closed (form_of r)))) ⊎ ((IsBoxed table (type_in r) u → ⊥) × (x ≡ closed (form_of r)))

-- the type of the left one, where it is taken as one of the interface type of both
abbrev pub IsLeft : Table → GoType → ValueOf GoType → Option GoType → Type 0
IsLeft table u l x = (IsBoxed table (type_in l) u × (x ≡ Some (type_in l))) ⊎ ((IsBoxed table (type_in l) u → ⊥) × (x ≡ None))

pub record Compared (table : Table) (place : Pos) (operator : BinaryOperator) (u : GoType) (l r : ValueOf GoType) (y : Verdict (ValueOf GoType)) : Type 0 where
  pub boxed : Option GoType
  pub left : IsLeft table u l boxed
  pub right : TypedExprOf GoType
  pub right_is : IsRight table u r right
  pub verdict : good (v.Pending place waits.Boolean (calls_in l || calls_in r) (p.Comparison place operator u boxed (form_of l) right)) y

-- two values, one of which at least is no constant
abbrev pub composed_by : Bool → Table → Pos → BinaryOperator → GoType → ValueOf GoType → ValueOf GoType → Verdict (ValueOf GoType) → Type 0
composed_by true table place operator u l r = Compared table place operator u l r
composed_by false table place operator u l r = good (v.Typed place u standing.Result (calls_in l || calls_in r) (joined_by u place operator (form_of l) (form_of r)))

abbrev pub composed : Table → Pos → BinaryOperator → GoType → ValueOf GoType → ValueOf GoType → Verdict (ValueOf GoType) → Type 0
composed table place operator u l r = wants (divides_by_zero operator r ≡ false) 44 place (composed_by (is_comparing operator) table place operator u l r)

abbrev pub worked : Table → Pos → BinaryOperator → GoType → ValueOf GoType → ValueOf GoType → Verdict (ValueOf GoType) → Type 0
worked table place operator u (v.Constant at s x) (v.Constant at_right t y) = folded table place operator s x y
worked table place operator u l r = composed table place operator u l r

-- in the type of both
abbrev pub in_type : Table → Pos → BinaryOperator → GoType → ValueOf GoType → ValueOf GoType → Verdict (ValueOf GoType) → Type 0
in_type table place operator u l r = allowed_by (is_equality operator) table place operator (type_in l) (type_in r) u (worked table place operator u l r)

-- operands of different types are compared in that of the right one, if the left one is assignable to it, or else in that of the left one
abbrev pub of_different : Bool → Table → Pos → BinaryOperator → ValueOf GoType → ValueOf GoType → Verdict (ValueOf GoType) → Type 0
of_different false table place operator l r = bad 47 place
of_different true table place operator l r = where_so (Takes table (type_in r) (type_in l)) (in_type table place operator (type_in r) l r)
    (wants (Takes table (type_in l) (type_in r)) 47 place (in_type table place operator (type_in l) l r))

abbrev pub typed_binary : Table → Pos → BinaryOperator → ValueOf GoType → ValueOf GoType → Verdict (ValueOf GoType) → Type 0
typed_binary table place operator l r = where_so (Identical (type_in l) (type_in r)) (in_type table place operator (type_in l) l r) (of_different (is_comparing operator) table place operator l r)

-- ---- one untyped operand

-- `nil` beside a value of a type is compared for equality alone, also where values of the type do not compare
abbrev pub with_nil : Table → Pos → BinaryOperator → GoType → (Verdict (ValueOf GoType) → Type 0) → Verdict (ValueOf GoType) → Type 0
with_nil table place operator u J = wants (IsOf has_nil table u) 47 place (wants (is_equality operator ≡ true) 46 place J)

abbrev pub nil_of : Pos → GoType → ValueOf GoType
nil_of at u = v.Typed at u standing.Result false (f.Whole (w.Nil at u))

-- a constant in the type of the other operand, and what follows
abbrev pub constant_beside : Table → Pos → GoType → Pos → GoType → Constant → (ValueOf GoType → Verdict (ValueOf GoType) → Type 0) → Verdict (ValueOf GoType) → Type 0
constant_beside table place u at s x J = where_so (IsInterface table u)
    (After (After (IsDefaultConstant table at s x) (held table 47 place u)) (λ form. J (v.Typed at u standing.Result false form)))
    (wants (IsOf (fits x) table u) 47 place (wants (IsRepresentable table x u) 43 at (J (v.Constant at u x))))

-- a value of a type on the left, and an untyped one on the right
abbrev pub untyped_right : Table → Pos → BinaryOperator → ValueOf GoType → ValueOf GoType → Verdict (ValueOf GoType) → Type 0
untyped_right table place operator l (v.Constant at s x) = constant_beside table place (type_in l) at s x (typed_binary table place operator l)
untyped_right table place operator l (v.Nil at) = with_nil table place operator (type_in l) (composed table place operator (type_in l) l (nil_of at (type_in l)))
untyped_right table place operator l (v.Pending at needs calls form) = After (pending_given table 47 place (type_in l) needs form) (λ x. typed_binary table place operator l (v.Typed at (type_in l) standing.Result calls x))
untyped_right table place operator l r = typed_binary table place operator l r

abbrev pub untyped_left : Table → Pos → BinaryOperator → ValueOf GoType → ValueOf GoType → Verdict (ValueOf GoType) → Type 0
untyped_left table place operator (v.Constant at s x) r = constant_beside table place (type_in r) at s x (λ l. typed_binary table place operator l r)
untyped_left table place operator (v.Nil at) r = with_nil table place operator (type_in r) (composed table place operator (type_in r) (nil_of at (type_in r)) r)
untyped_left table place operator (v.Pending at needs calls form) r = After (pending_given table 47 place (type_in r) needs form) (λ x. typed_binary table place operator (v.Typed at (type_in r) standing.Result calls x) r)
untyped_left table place operator l r = typed_binary table place operator l r

-- ---- two untyped operands

-- what untyped values are
pub data Untyped : Type 0 where
  Boolean : Untyped
  Whole : Untyped
  Text : Untyped
  Nothing : Untyped

abbrev pub untyped_by_term : {A : Type 0} → TermOf A → Untyped
untyped_by_term t.UntypedBool = Boolean
untyped_by_term t.UntypedWhole = Whole
untyped_by_term t.UntypedRune = Whole
untyped_by_term t.UntypedText = Text
untyped_by_term x = Nothing

abbrev pub untyped_in : ValueOf GoType → Untyped
untyped_in (v.Constant at s x) = untyped_by_term (term_of s)
untyped_in (v.Pending at waits.Boolean calls form) = Boolean
untyped_in (v.Pending at (waits.Integer first) calls form) = Whole
untyped_in x = Nothing

-- the operator is defined on untyped values
abbrev pub is_defined_for : Untyped → BinaryOperator → Bool
is_defined_for Boolean operator = is_equality operator || is_defined_on operator (term_of (basic k.Bool))
is_defined_for Whole operator = is_equality operator || is_defined_on operator (term_of (basic k.Int))
is_defined_for Text operator = is_equality operator || is_defined_on operator (term_of (basic k.Text))
is_defined_for Nothing operator = false

abbrev pub is_rune_term : {A : Type 0} → TermOf A → Bool
is_rune_term t.UntypedRune = true
is_rune_term x = false

abbrev pub is_rune : GoType → Bool
is_rune s = is_rune_term (term_of s)

-- a rune constant and an integer constant give a rune constant
abbrev pub kind_of_both : Bool → GoType → GoType → GoType
kind_of_both true s t = t
kind_of_both false s t = s

abbrev pub pending_in : ValueOf GoType → PendingOf GoType
pending_in (v.Constant at s x) = p.Constant at x (is_rune s)
pending_in (v.Pending at needs calls form) = form
pending_in x = p.Constant (pos_in x) (c.Bool false) false

-- of two untyped operands, one of which waits: the first shift is that of the left one, where it has one
abbrev pub needs_of : ValueOf GoType → Waits → Waits
needs_of (v.Pending at needs calls form) other = needs
needs_of x other = other

abbrev pub needs_in : ValueOf GoType → Waits
needs_in x = needs_of x waits.Boolean

pub record ComparedDefaults (table : Table) (place : Pos) (operator : BinaryOperator) (l r : ValueOf GoType) (y : Verdict (ValueOf GoType)) : Type 0 where
  pub left : Verdict InType
  pub right : Verdict InType
  pub defaults : AreDefaults table (pending_in l) (pending_in r) left right
  pub verdict : AfterBoth (λ a. a ≡ left) (λ a. a ≡ right) (λ a b. wants (Identical a.of b.of) 47 place (good (v.Pending place waits.Boolean (calls_in l || calls_in r) (p.Comparison place operator a.of None a.form (closed b.form))))) y

abbrev pub untyped_by : Bool → Table → Pos → BinaryOperator → ValueOf GoType → ValueOf GoType → Verdict (ValueOf GoType) → Type 0
untyped_by true table place operator l r = ComparedDefaults table place operator l r
untyped_by false table place operator l r = good (v.Pending place (needs_of l (needs_in r)) (calls_in l || calls_in r) (with_pending (pending_in l) (o.Operand place operator (pending_in r))))

abbrev pub untyped_worked : Table → Pos → BinaryOperator → ValueOf GoType → ValueOf GoType → Verdict (ValueOf GoType) → Type 0
untyped_worked table place operator (v.Constant at s x) (v.Constant at_right t y) = folded table place operator (kind_of_both (is_rune t) s t) x y
untyped_worked table place operator l r = wants (divides_by_zero operator r ≡ false) 44 place (untyped_by (is_comparing operator) table place operator l r)

abbrev pub untyped_binary : Table → Pos → BinaryOperator → ValueOf GoType → ValueOf GoType → Verdict (ValueOf GoType) → Type 0
untyped_binary table place operator (v.Nil at) (v.Nil at_right) = bad 46 place
untyped_binary table place operator l r = wants (untyped_in l ≡ untyped_in r) 47 place (wants (is_defined_for (untyped_in l) operator ≡ true) 46 place (untyped_worked table place operator l r))

-- ---- shifts

-- the count of a shift: an integer, or an untyped constant that takes the type `uint`
abbrev pub counted_constant : Bool → Table → Pos → Pos → GoType → Constant → Verdict (TypedExprOf GoType) → Type 0
counted_constant true table place at s x = wants (IsRepresentable table x (basic k.Uint)) 43 at (good (w.Constant at (basic k.Uint) x))
counted_constant false table place at s x = good (w.Constant at s x)

abbrev pub IsNegative : Constant → Type 0
IsNegative (c.Whole n) = n <ℤ pos 0
IsNegative x = ⊥

abbrev pub counted : Table → Pos → ValueOf GoType → Verdict (TypedExprOf GoType) → Type 0
counted table place (v.Constant at s x) = wants (IsOf is_integer table s) 46 place (wants (IsNegative x → ⊥) 45 place (counted_constant (is_untyped (term_of s)) table place at s x))
counted table place (v.Nil at) = bad 46 place
counted table place (v.Typed at s stands calls form) = wants (IsOf is_integer table s) 46 place (good (closed form))
counted table place (v.Pending at waits.Boolean calls form) = bad 46 place
counted table place (v.Pending at (waits.Integer first) calls form) = After (IsGiven table (basic k.Uint) form) (λ x. good (closed x))

abbrev pub constant_shifted : Bool → Pos → BinaryOperator → Pos → GoType → Constant → Bool → TypedExprOf GoType → Verdict (ValueOf GoType) → Type 0
constant_shifted true place operator at s x calls count = good (v.Pending place (waits.Integer place) calls (p.Chain (p.Constant at x (is_rune s)) (o.Count place operator count ∷ [])))
constant_shifted false place operator at s x calls count = good (v.Typed place s standing.Result calls (shifted_by s place operator (f.Whole (w.Constant at s x)) count))

-- a shift by a count
abbrev pub shifted : Table → Pos → BinaryOperator → ValueOf GoType → ValueOf GoType → TypedExprOf GoType → Verdict (ValueOf GoType) → Type 0
shifted table place operator (v.Constant at s x) (v.Constant at_right t y) count = wants (IsOf is_integer table s) 46 place (worked_out table place s (exact (fold_of operator) x y))
shifted table place operator (v.Constant at s x) r count = wants (IsOf is_integer table s) 46 place (constant_shifted (is_untyped (term_of s)) place operator at s x (calls_in r) count)
shifted table place operator (v.Nil at) r count = bad 46 place
shifted table place operator (v.Typed at s stands calls form) r count = wants (IsOf is_integer table s) 46 place (good (v.Typed place s standing.Result (calls || calls_in r) (shifted_by s place operator form count)))
shifted table place operator (v.Pending at waits.Boolean calls form) r count = bad 46 place
shifted table place operator (v.Pending at (waits.Integer first) calls form) r count = good (v.Pending place (waits.Integer first) (calls || calls_in r) (with_pending form (o.Count place operator count)))

abbrev pub shift : Table → Pos → BinaryOperator → ValueOf GoType → ValueOf GoType → Verdict (ValueOf GoType) → Type 0
shift table place operator l r = After (counted table place r) (shifted table place operator l r)

-- ---- all

abbrev pub is_typed : ValueOf GoType → Bool
is_typed (v.Constant at s x) = not (is_untyped (term_of s))
is_typed (v.Nil at) = false
is_typed (v.Typed at s stands calls form) = true
is_typed (v.Pending at needs calls form) = false

abbrev pub by_types : Bool → Bool → Table → Pos → BinaryOperator → ValueOf GoType → ValueOf GoType → Verdict (ValueOf GoType) → Type 0
by_types true true table = typed_binary table
by_types true false table = untyped_right table
by_types false true table = untyped_left table
by_types false false table = untyped_binary table

abbrev pub by_sort : Sort → Table → Pos → BinaryOperator → ValueOf GoType → ValueOf GoType → Verdict (ValueOf GoType) → Type 0
by_sort Shifting table place operator l r = shift table place operator l r
by_sort sort table place operator l r = by_types (is_typed l) (is_typed r) table place operator l r

unfoldable pub binary : Table → Pos → BinaryOperator → ValueOf GoType → ValueOf GoType → Verdict (ValueOf GoType) → Type 0
binary table place operator l r = by_sort (sort_of operator) table place operator l r
