-- `*x` and `&x`. Go specification, "Address operators".
use Rattle.std.specs.Prelude.{◌≡◌}
use Rattle.gno_scan.specs.declared.token.Pos.{Pos}
use Rattle.gno_terms.specs.declared.term.GoType.{GoType}
use Rattle.gno_terms.specs.declared.term.TermOf.TheVariants as t
use Rattle.gno_terms.specs.Tables.{Table, Underlying}
use Rattle.gno_terms.specs.Terms.{term_of, type_of}
use Rattle.gno_typed.specs.declared.expr.TypedExprOf.TheVariants as w
use Rattle.gno_typed.specs.declared.expr.Addressed.TheVariants as a
use Rattle.gno_typing.specs.Forms.{closed}
use Rattle.gno_typing.specs.Operands.{as_value}
use Rattle.gno_typing.specs.Verdicts.{Verdict, After, good, bad, wants_some}
use Rattle.gno_typing.specs.declared.form.FormOf.TheVariants as f
use Rattle.gno_typing.specs.declared.operand.OperandOf.{OperandOf}
use Rattle.gno_typing.specs.declared.operand.OperandOf.TheVariants as o
use Rattle.gno_typing.specs.declared.value.Standing.TheVariants as st
use Rattle.gno_typing.specs.declared.value.ValueOf.{ValueOf}
use Rattle.gno_typing.specs.declared.value.ValueOf.TheVariants as v

abbrev pub pointer_to : GoType → GoType
pointer_to s = type_of (t.Pointer s)

-- the underlying type points at a type
pub record PointsAt (table : Table) (s u : GoType) : Type 0 where
  pub underlying : GoType
  pub by : Underlying table s underlying
  pub is : term_of underlying ≡ t.Pointer u

-- what a pointer points at is a place
abbrev pub pointed : Table → Pos → ValueOf GoType → Verdict (ValueOf GoType) → Type 0
pointed table place (v.Typed at s stands calls form) = wants_some (PointsAt table s) 57 place (λ u. good (v.Typed place u st.Place calls (f.Whole (w.Dereference place u (closed form)))))
pointed table place x = bad 57 place

abbrev pub of_value : OperandOf GoType → (ValueOf GoType → Verdict (ValueOf GoType) → Type 0) → Verdict (OperandOf GoType) → Type 0
of_value x go = After (After (as_value x) go) (λ y. good (o.Value y))

-- `*x`: of a type, the type of pointers to it
unfoldable pub dereference : Table → Pos → OperandOf GoType → Verdict (OperandOf GoType) → Type 0
dereference table place (o.Type at s) = good (o.Type place (pointer_to s))
dereference table place x = of_value x (pointed table place)

-- the address of a place, or of a new variable that a composite literal gives its value
abbrev pub addressed : Pos → ValueOf GoType → Verdict (ValueOf GoType) → Type 0
addressed place (v.Typed at s st.Place calls form) = good (v.Typed place (pointer_to s) st.Result calls (f.Whole (w.Address place (pointer_to s) (closed form) a.Place)))
addressed place (v.Typed at s st.Literal calls form) = good (v.Typed place (pointer_to s) st.Result calls (f.Whole (w.Address place (pointer_to s) (closed form) a.Literal)))
addressed place x = bad 56 place

-- `&x`
unfoldable pub address : Pos → OperandOf GoType → Verdict (OperandOf GoType) → Type 0
address place x = of_value x (addressed place)
