-- Operators before their operand. Go specification, "Operators", "Arithmetic operators", "Logical operators" and "Constant expressions".
use Rattle.std.specs.Prelude.{◌≡◌, ◌^◌, ◌-◌, ℤ, pos, negsuc, Bool, true, false}
use Rattle.gno_base.specs.declared.kind.Kind.{Kind}
use Rattle.gno_base.specs.declared.kind.Kind.TheVariants as k
use Rattle.gno_constants.specs.declared.constant.Constant.{Constant}
use Rattle.gno_constants.specs.declared.constant.Constant.TheVariants as c
use Rattle.gno_constants.specs.declared.operator.FoldOp.TheVariants as fold
use Rattle.gno_constants.specs.Exact.{Exact, IsTooWide, exact}
use Rattle.gno_constants.specs.Exact.Exact.{Value, NoQuotient, NoShift, NotDefined}
use Rattle.gno_scan.specs.declared.token.Pos.{Pos}
use Rattle.gno_terms.specs.declared.term.GoType.{GoType}
use Rattle.gno_terms.specs.declared.term.TermOf.{TermOf}
use Rattle.gno_terms.specs.declared.term.TermOf.TheVariants as t
use Rattle.gno_terms.specs.Tables.{Table, Underlying}
use Rattle.gno_terms.specs.Terms.{term_of}
use Rattle.gno_tree.specs.declared.operator.UnaryOperator.{UnaryOperator}
use Rattle.gno_tree.specs.declared.operator.UnaryOperator.TheVariants as u
use Rattle.gno_typed.specs.declared.expr.TypedExprOf.TheVariants as w
use Rattle.gno_typing.specs.Classes.{IsOf, MayBe, is_boolean, is_integer}
use Rattle.gno_typing.specs.Forms.{closed}
use Rattle.gno_typing.specs.Verdicts.{Verdict, good, bad, wants}
use Rattle.gno_typing.specs.declared.form.FormOf.TheVariants as f
use Rattle.gno_typing.specs.declared.pending.PendingOf.TheVariants as p
use Rattle.gno_typing.specs.declared.value.Standing.TheVariants as standing
use Rattle.gno_typing.specs.declared.value.ValueOf.{ValueOf}
use Rattle.gno_typing.specs.declared.value.ValueOf.TheVariants as v
use Rattle.gno_typing.specs.declared.value.Waits.{Waits}
use Rattle.gno_typing.specs.declared.value.Waits.TheVariants as waits

-- the types whose values an operator takes: `!` takes booleans, and `+`, `-` and `^` take integers
abbrev pub takes : UnaryOperator → TermOf GoType → Bool
takes u.Not = is_boolean
takes operator = is_integer

-- and of untyped values
abbrev pub takes_waiting : UnaryOperator → Waits → Bool
takes_waiting u.Not waits.Boolean = true
takes_waiting u.Not (waits.Integer shift) = false
takes_waiting operator waits.Boolean = false
takes_waiting operator (waits.Integer shift) = true

-- the greatest value of an unsigned kind
abbrev pub ones_of_kind : Kind → ℤ
ones_of_kind k.Uint = pos (2 ^ 64 - 1)
ones_of_kind k.Uint8 = pos (2 ^ 8 - 1)
ones_of_kind k.Uint16 = pos (2 ^ 16 - 1)
ones_of_kind k.Uint32 = pos (2 ^ 32 - 1)
ones_of_kind k.Uint64 = pos (2 ^ 64 - 1)
ones_of_kind kind = negsuc 0

-- the number all of whose bits are 1: the greatest value of an unsigned type, and else -1
abbrev pub ones : TermOf GoType → ℤ
ones (t.Basic kind) = ones_of_kind kind
ones x = negsuc 0

-- `-x` is `0 - x`, `^x` is `x` with all its bits turned, `!x` is `x == false`
abbrev pub unary_exact : UnaryOperator → TermOf GoType → Constant → Exact
unary_exact u.Plus s x = Value x
unary_exact u.Minus s x = exact fold.Sub (c.Whole (pos 0)) x
unary_exact u.Complement s x = exact fold.Xor (c.Whole (ones s)) x
unary_exact u.Not s x = exact fold.Equal x (c.Bool false)
unary_exact operator s x = NotDefined

-- a constant that was worked out exactly, in a type
abbrev pub worked_out : Table → Pos → GoType → Exact → Verdict (ValueOf GoType) → Type 0
worked_out table place s (Value x) = wants (IsTooWide (Value x) → ⊥) 42 place (wants (MayBe table x s) 43 place (good (v.Constant place s x)))
worked_out table place s NoQuotient = bad 44 place
worked_out table place s NoShift = bad 45 place
worked_out table place s NotDefined = bad 46 place

pub record UnaryConstant (table : Table) (place : Pos) (operator : UnaryOperator) (s : GoType) (x : Constant) (y : Verdict (ValueOf GoType)) : Type 0 where
  pub underlying : GoType
  pub by : Underlying table s underlying
  pub verdict : worked_out table place s (unary_exact operator (term_of underlying) x) y

unfoldable pub unary : Table → Pos → UnaryOperator → ValueOf GoType → Verdict (ValueOf GoType) → Type 0
unary table place operator (v.Constant at s x) = wants (IsOf (takes operator) table s) 46 place (UnaryConstant table place operator s x)
unary table place operator (v.Nil at) = bad 46 place
unary table place operator (v.Typed at s stands calls form) = wants (IsOf (takes operator) table s) 46 place (good (v.Typed place s standing.Result calls (f.Whole (w.Unary place s operator (closed form)))))
unary table place operator (v.Pending at needs calls form) = wants (takes_waiting operator needs ≡ true) 46 place (good (v.Pending place needs calls (p.Unary place operator form)))
