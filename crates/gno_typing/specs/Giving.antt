-- What an untyped value that is no constant becomes in a type, and what a value becomes in its place. Go specification, "Constants", "Operators" and "Assignability"; that
-- a shift takes the type of its place is this project's own.
use Rattle.std.specs.Prelude.{ℕ, ◌≡◌, List, [], ◌∷◌, ◌++◌, Option, Some, None, option_map, Bool, true, false}
use Rattle.gno_base.specs.declared.kind.Kind.{Kind}
use Rattle.gno_base.specs.declared.kind.Kind.TheVariants as k
use Rattle.gno_assignability.specs.Assignability.{IsValue, has_nil}
use Rattle.gno_constants.specs.declared.constant.Constant.{Constant}
use Rattle.gno_scan.specs.declared.token.Pos.{Pos}
use Rattle.gno_terms.specs.declared.term.GoType.{GoType}
use Rattle.gno_terms.specs.Lawful.{is_untyped}
use Rattle.gno_terms.specs.Normal.{Identical}
use Rattle.gno_terms.specs.Tables.{Table}
use Rattle.gno_terms.specs.Terms.{term_of}
use Rattle.gno_tree.specs.declared.operator.BinaryOperator.{BinaryOperator}
use Rattle.gno_tree.specs.declared.operator.BinaryOperator.TheVariants as b
use Rattle.gno_tree.specs.declared.operator.UnaryOperator.{UnaryOperator}
use Rattle.gno_typed.specs.declared.expr.TypedExprOf.{TypedExprOf}
use Rattle.gno_typed.specs.declared.expr.TypedExprOf.TheVariants as w
use Rattle.gno_typed.specs.declared.operation.LogicOperator.TheVariants as l
use Rattle.gno_typing.specs.Classes.{IsOf, IsDefault, IsInterface, IsBoxed, IsRepresentable, Has, Takes, basic, fits, is_boolean, is_integer}
use Rattle.gno_typing.specs.Forms.{closed, with_logic, with_operation}
use Rattle.gno_typing.specs.Verdicts.{Verdict, After, AfterBoth, good, unjudged, wants, where_so}
use Rattle.gno_typing.specs.declared.form.FormOf.{FormOf}
use Rattle.gno_typing.specs.declared.form.FormOf.TheVariants as f
use Rattle.gno_typing.specs.declared.pending.PendingOf.{PendingOf}
use Rattle.gno_typing.specs.declared.pending.PendingOf.TheVariants as p
use Rattle.gno_typing.specs.declared.pending.PendingOperationOf.{PendingOperationOf}
use Rattle.gno_typing.specs.declared.pending.PendingOperationOf.TheVariants as o
use Rattle.gno_typing.specs.declared.value.ValueOf.{ValueOf}
use Rattle.gno_typing.specs.declared.value.ValueOf.TheVariants as v
use Rattle.gno_typing.specs.declared.value.Waits.{Waits}
use Rattle.gno_typing.specs.declared.value.Waits.TheVariants as waits

-- an operator between two forms of one type
abbrev pub joined_by : GoType → Pos → BinaryOperator → FormOf GoType → FormOf GoType → FormOf GoType
joined_by u pos b.BothTrue x y = with_logic u x (record { pos = pos; operator = l.BothTrue; operand = closed y })
joined_by u pos b.OneTrue x y = with_logic u x (record { pos = pos; operator = l.OneTrue; operand = closed y })
joined_by u pos operator x y = with_operation x (record { pos = pos; of = u; operator = operator; operands = u; boxed = None; operand = closed y })

abbrev pub shifted_by : GoType → Pos → BinaryOperator → FormOf GoType → TypedExprOf GoType → FormOf GoType
shifted_by u pos operator x count = with_operation x (record { pos = pos; of = u; operator = operator; operands = u; boxed = None; operand = count })

-- two parts that were judged, and what is made of them
abbrev pub combined : {A B C : Type 0} → (A → B → C) → Option A → Option B → Option C
combined go (Some a) (Some b) = Some (go a b)
combined go _ _ = None

abbrev pub both : {A B C : Type 0} → (A → B → C) → Verdict A → Verdict B → Verdict C
both go x y = record { form = combined go x.form y.form; faults = x.faults ++ y.faults }

-- what is made of a part
abbrev pub made : {A B : Type 0} → (A → B) → Verdict A → Verdict B
made go x = record { form = option_map go x.form; faults = x.faults }

-- a value that waits, in a type that is given
mutual
  pub data IsGiven (table : Table) (u : GoType) : PendingOf GoType → Verdict (FormOf GoType) → Type 0 where
    comparison : {x : PendingOf GoType} {y : Verdict (FormOf GoType)} (pos : Pos) (operator : BinaryOperator) (operands : GoType) (boxed : Option GoType) (left : FormOf GoType) (right : TypedExprOf GoType) → x ≡ p.Comparison pos operator operands boxed left right → good (with_operation left (record { pos = pos; of = u; operator = operator; operands = operands; boxed = boxed; operand = right })) y → IsGiven table u x y
    constant : {x : PendingOf GoType} {y : Verdict (FormOf GoType)} (pos : Pos) (value : Constant) (rune : Bool) → x ≡ p.Constant pos value rune → wants (IsRepresentable table value u) 43 pos (good (f.Whole (w.Constant pos u value))) y → IsGiven table u x y
    unary : {x : PendingOf GoType} {y : Verdict (FormOf GoType)} (pos : Pos) (operator : UnaryOperator) (operand : PendingOf GoType) → x ≡ p.Unary pos operator operand → (z : Verdict (FormOf GoType)) → IsGiven table u operand z → y ≡ made (λ a. f.Whole (w.Unary pos u operator (closed a))) z → IsGiven table u x y
    chain : {x : PendingOf GoType} {y : Verdict (FormOf GoType)} (first : PendingOf GoType) (rest : List (PendingOperationOf GoType)) → x ≡ p.Chain first rest → (z : Verdict (FormOf GoType)) → IsGiven table u first z → AreGiven table u z rest y → IsGiven table u x y

  -- operators behind what was given
  pub data AreGiven (table : Table) (u : GoType) : Verdict (FormOf GoType) → List (PendingOperationOf GoType) → Verdict (FormOf GoType) → Type 0 where
    none : {x y : Verdict (FormOf GoType)} → y ≡ x → AreGiven table u x [] y
    operand : {x y : Verdict (FormOf GoType)} {os : List (PendingOperationOf GoType)} (pos : Pos) (operator : BinaryOperator) (right : PendingOf GoType) (z : Verdict (FormOf GoType)) → IsGiven table u right z → AreGiven table u (both (joined_by u pos operator) x z) os y → AreGiven table u x (o.Operand pos operator right ∷ os) y
    count : {x y : Verdict (FormOf GoType)} {os : List (PendingOperationOf GoType)} (pos : Pos) (operator : BinaryOperator) (count : TypedExprOf GoType) → AreGiven table u (made (λ a. shifted_by u pos operator a count) x) os y → AreGiven table u x (o.Count pos operator count ∷ os) y

-- a form, and the type that it took
pub record InType : Type 0 where
  pub of : GoType
  pub form : FormOf GoType

abbrev pub in_type : GoType → FormOf GoType → InType
in_type of form = record { of = of; form = form }

-- the default type of an untyped constant beside no other operand
abbrev pub default_kind_of : Bool → Kind
default_kind_of true = k.Int32
default_kind_of false = k.Int

abbrev pub default_of : Bool → GoType
default_of rune = basic (default_kind_of rune)

-- both operands took a type
abbrev pub in_one_type : Pos → BinaryOperator → InType → InType → Verdict InType → Type 0
in_one_type pos operator x y = wants (Identical x.of y.of) 47 pos (good (in_type x.of (joined_by x.of pos operator x.form y.form)))

-- A value that waits, where its place names no type. A constant takes the type of the operand beside it.
mutual
  pub data IsDefaulted (table : Table) : PendingOf GoType → Verdict InType → Type 0 where
    comparison : {x : PendingOf GoType} {y : Verdict InType} (pos : Pos) (operator : BinaryOperator) (operands : GoType) (boxed : Option GoType) (left : FormOf GoType) (right : TypedExprOf GoType) → x ≡ p.Comparison pos operator operands boxed left right → (z : Verdict (FormOf GoType)) → IsGiven table (basic k.Bool) x z → y ≡ made (in_type (basic k.Bool)) z → IsDefaulted table x y
    unary : {x : PendingOf GoType} {y : Verdict InType} (pos : Pos) (operator : UnaryOperator) (operand : PendingOf GoType) → x ≡ p.Unary pos operator operand → (z : Verdict InType) → IsDefaulted table operand z → y ≡ made (λ a. in_type a.of (f.Whole (w.Unary pos a.of operator (closed a.form)))) z → IsDefaulted table x y
    chain : {x : PendingOf GoType} {y : Verdict InType} (first : PendingOf GoType) (rest : List (PendingOperationOf GoType)) → x ≡ p.Chain first rest → (z : Verdict InType) → IsDefaulted table first z → AreDefaulted table z rest y → IsDefaulted table x y
    -- a shift of a constant
    shifted : {x : PendingOf GoType} {y : Verdict InType} (first_pos : Pos) (value : Constant) (rune : Bool) (pos : Pos) (operator : BinaryOperator) (count : TypedExprOf GoType) (rest : List (PendingOperationOf GoType)) → x ≡ p.Chain (p.Constant first_pos value rune) (o.Count pos operator count ∷ rest) → (z : Verdict (FormOf GoType)) → IsGiven table (default_of rune) (p.Constant first_pos value rune) z → AreDefaulted table (made (λ a. in_type (default_of rune) (shifted_by (default_of rune) pos operator a count)) z) rest y → IsDefaulted table x y
    -- a constant on the left of a value that waits
    beside : {x : PendingOf GoType} {y : Verdict InType} (first_pos : Pos) (value : Constant) (rune : Bool) (pos : Pos) (operator : BinaryOperator) (right : PendingOf GoType) (rest : List (PendingOperationOf GoType)) → x ≡ p.Chain (p.Constant first_pos value rune) (o.Operand pos operator right ∷ rest) → (z : Verdict InType) → IsDefaulted table right z → (left : Verdict InType) → IsBeside table (p.Constant first_pos value rune) z.form left → AreDefaulted table (both (λ a c. in_type c.of (joined_by c.of pos operator a.form c.form)) left z) rest y → IsDefaulted table x y

  pub data AreDefaulted (table : Table) : Verdict InType → List (PendingOperationOf GoType) → Verdict InType → Type 0 where
    none : {x y : Verdict InType} → y ≡ x → AreDefaulted table x [] y
    constant : {x y : Verdict InType} {os : List (PendingOperationOf GoType)} (pos : Pos) (operator : BinaryOperator) (right_pos : Pos) (value : Constant) (rune : Bool) (z : Verdict InType) → IsBeside table (p.Constant right_pos value rune) x.form z → AreDefaulted table (both (λ a c. in_type a.of (joined_by a.of pos operator a.form c.form)) x z) os y → AreDefaulted table x (o.Operand pos operator (p.Constant right_pos value rune) ∷ os) y
    operand : {x y : Verdict InType} {os : List (PendingOperationOf GoType)} (pos : Pos) (operator : BinaryOperator) (right : PendingOf GoType) (z : Verdict InType) → IsDefaulted table right z → (next : Verdict InType) → AfterBoth (λ a. a ≡ x) (λ a. a ≡ z) (in_one_type pos operator) next → AreDefaulted table next os y → AreDefaulted table x (o.Operand pos operator right ∷ os) y
    count : {x y : Verdict InType} {os : List (PendingOperationOf GoType)} (pos : Pos) (operator : BinaryOperator) (count : TypedExprOf GoType) → AreDefaulted table (made (λ a. in_type a.of (shifted_by a.of pos operator a.form count)) x) os y → AreDefaulted table x (o.Count pos operator count ∷ os) y

  -- a constant in the type of the operand beside it, where that took one
  pub data IsBeside (table : Table) : PendingOf GoType → Option InType → Verdict InType → Type 0 where
    unknown : {x : PendingOf GoType} {y : Verdict InType} → unjudged y → IsBeside table x None y
    known : {x : PendingOf GoType} {y : Verdict InType} (other : InType) (z : Verdict (FormOf GoType)) → IsGiven table other.of x z → y ≡ made (in_type other.of) z → IsBeside table x (Some other) y

-- two operands, of which one at least waits, where no place names a type
pub data AreDefaults (table : Table) : PendingOf GoType → PendingOf GoType → Verdict InType → Verdict InType → Type 0 where
  constant_left : {l r : PendingOf GoType} {x y : Verdict InType} (pos : Pos) (value : Constant) (rune : Bool) → l ≡ p.Constant pos value rune → IsDefaulted table r y → IsBeside table l y.form x → AreDefaults table l r x y
  constant_right : {l r : PendingOf GoType} {x y : Verdict InType} (pos : Pos) (value : Constant) (rune : Bool) → r ≡ p.Constant pos value rune → IsDefaulted table l x → IsBeside table r x.form y → AreDefaults table l r x y
  neither : {l r : PendingOf GoType} {x y : Verdict InType} → IsDefaulted table l x → IsDefaulted table r y → AreDefaults table l r x y

-- an untyped constant in its default type
pub record IsDefaultConstant (table : Table) (pos : Pos) (s : GoType) (x : Constant) (y : Verdict InType) : Type 0 where
  pub kind : Kind
  pub default : IsDefault s kind
  pub verdict : wants (IsValue x kind) 43 pos (good (in_type (basic kind) (f.Whole (w.Constant pos (basic kind) x)))) y

-- ---- values in their places. `code` at the place `at` says that a value is not assignable

-- a value of a type
abbrev pub typed_given : Table → ℕ → Pos → GoType → GoType → FormOf GoType → Verdict (FormOf GoType) → Type 0
typed_given table code at u s form = wants (Takes table u s) code at (where_so (IsBoxed table s u) (good (f.Whole (w.Interface u s (closed form)))) (good form))

-- as a value of an interface type that holds it
abbrev pub held : Table → ℕ → Pos → GoType → InType → Verdict (FormOf GoType) → Type 0
held table code at u x = wants (Has table x.of u) code at (good (f.Whole (w.Interface u x.of (closed x.form))))

abbrev pub constant_given : Table → ℕ → Pos → GoType → Pos → GoType → Constant → Verdict (FormOf GoType) → Type 0
constant_given table code at u pos s x = where_so (IsInterface table u)
    (After (IsDefaultConstant table pos s x) (held table code at u))
    (wants (IsOf (fits x) table u) code at (wants (IsRepresentable table x u) 43 pos (good (f.Whole (w.Constant pos u x)))))

abbrev pub pending_given : Table → ℕ → Pos → GoType → Waits → PendingOf GoType → Verdict (FormOf GoType) → Type 0
pending_given table code at u waits.Boolean x = where_so (IsInterface table u) (After (IsDefaulted table x) (held table code at u)) (wants (IsOf is_boolean table u) code at (IsGiven table u x))
pending_given table code at u (waits.Integer shift) x = where_so (IsInterface table u) (After (IsDefaulted table x) (held table code at u)) (wants (IsOf is_integer table u) 46 shift (IsGiven table u x))

abbrev pub constant_of : Bool → Table → ℕ → Pos → GoType → Pos → GoType → Constant → Verdict (FormOf GoType) → Type 0
constant_of true table code at u pos s x = constant_given table code at u pos s x
constant_of false table code at u pos s x = typed_given table code at u s (f.Whole (w.Constant pos s x))

-- a value that is given to a place of a type
abbrev pub given : Table → ℕ → Pos → GoType → ValueOf GoType → Verdict (FormOf GoType) → Type 0
given table code at u (v.Constant pos s x) = constant_of (is_untyped (term_of s)) table code at u pos s x
given table code at u (v.Nil pos) = wants (IsOf has_nil table u) code at (good (f.Whole (w.Nil pos u)))
given table code at u (v.Typed pos s stands calls form) = typed_given table code at u s form
given table code at u (v.Pending pos waits calls form) = pending_given table code at u waits form
