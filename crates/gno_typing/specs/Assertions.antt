-- `x.(T)`. Go specification, "Type assertions".
use Rattle.gno_scan.specs.declared.token.Pos.{Pos}
use Rattle.gno_terms.specs.declared.term.GoType.{GoType}
use Rattle.gno_terms.specs.Tables.{Table}
use Rattle.gno_typed.specs.declared.step.TypedStepOf.TheVariants as step
use Rattle.gno_typing.specs.Classes.{Has, IsInterface}
use Rattle.gno_typing.specs.Forms.{with_step}
use Rattle.gno_typing.specs.Operands.{as_value}
use Rattle.gno_typing.specs.Verdicts.{Verdict, After, good, bad, wants}
use Rattle.gno_typing.specs.declared.operand.OperandOf.{OperandOf}
use Rattle.gno_typing.specs.declared.operand.OperandOf.TheVariants as o
use Rattle.gno_typing.specs.declared.value.Standing.TheVariants as st
use Rattle.gno_typing.specs.declared.value.ValueOf.{ValueOf}
use Rattle.gno_typing.specs.declared.value.ValueOf.TheVariants as v

-- a value of this type may be held: an interface type asks when it runs
abbrev pub MayHold : Table → GoType → GoType → Type 0
MayHold table s u = (IsInterface table u → ⊥) → Has table u s

abbrev pub asserted : Table → Pos → GoType → ValueOf GoType → Verdict (ValueOf GoType) → Type 0
asserted table place u (v.Typed at s stands calls form) = wants (IsInterface table s) 59 place (wants (MayHold table s u) 59 place (good (v.Typed place u st.Result calls (with_step form (step.Assertion place u)))))
asserted table place u x = bad 59 place

-- `x.(u)`
unfoldable pub assertion : Table → Pos → OperandOf GoType → GoType → Verdict (OperandOf GoType) → Type 0
assertion table place x u = After (After (as_value x) (asserted table place u)) (λ y. good (o.Value y))
