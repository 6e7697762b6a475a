-- What an expression stands for, where a value is wanted. This project's own.
use Rattle.std.specs.Prelude.{ℕ, Bool, true, false}
use Rattle.gno_scan.specs.declared.token.Pos.{Pos}
use Rattle.gno_terms.specs.declared.term.GoType.{GoType}
use Rattle.gno_terms.specs.Lawful.{is_untyped}
use Rattle.gno_terms.specs.Tables.{Table}
use Rattle.gno_terms.specs.Terms.{term_of}
use Rattle.gno_constants.specs.declared.constant.Constant.{Constant}
use Rattle.gno_typed.specs.declared.expr.TypedExprOf.TheVariants as w
use Rattle.gno_typed.specs.declared.step.TypedStepOf.TheVariants as step
use Rattle.gno_typing.specs.Forms.{with_step}
use Rattle.gno_typing.specs.Giving.{InType, IsDefaultConstant, IsDefaulted, in_type}
use Rattle.gno_typing.specs.Verdicts.{Verdict, good, bad}
use Rattle.gno_typing.specs.declared.form.FormOf.TheVariants as f
use Rattle.gno_typing.specs.declared.operand.OperandOf.{OperandOf}
use Rattle.gno_typing.specs.declared.operand.OperandOf.TheVariants as o
use Rattle.gno_typing.specs.declared.value.Standing.TheVariants as st
use Rattle.gno_typing.specs.declared.value.ValueOf.{ValueOf}
use Rattle.gno_typing.specs.declared.value.ValueOf.TheVariants as v

-- where one value is wanted
unfoldable pub as_value : OperandOf GoType → Verdict (ValueOf GoType) → Type 0
as_value (o.Value x) = good x
as_value (o.Method at of calls form bound) = good (v.Typed at of st.Result calls (with_step form (step.Bound at of bound)))
as_value (o.Crossing at of code) = bad 63 at
as_value (o.Results at of form) = bad 50 at
as_value (o.Type at of) = bad 41 at
as_value (o.OpenArray at element) = bad 41 at
as_value (o.Package at path) = bad 41 at
as_value (o.Builtin at name) = bad 41 at
as_value (o.Cross at) = bad 63 at
as_value (o.Realm at) = bad 63 at

abbrev pub settled_constant : Bool → Table → Pos → GoType → Constant → Verdict InType → Type 0
settled_constant true table at s x = IsDefaultConstant table at s x
settled_constant false table at s x = good (in_type s (f.Whole (w.Constant at s x)))

-- a value in its own type, or in its default type; `nil` has neither
abbrev pub settled : Table → ℕ → Pos → ValueOf GoType → Verdict InType → Type 0
settled table code place (v.Constant at s x) = settled_constant (is_untyped (term_of s)) table at s x
settled table code place (v.Nil at) = bad code place
settled table code place (v.Typed at s stands calls form) = good (in_type s form)
settled table code place (v.Pending at needs calls form) = IsDefaulted table form
