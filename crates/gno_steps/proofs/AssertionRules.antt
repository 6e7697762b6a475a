-- What the rule on type assertions says.
use Rattle.std.proofs.Common.{◌≡◌, ℕ, [], ◌∷◌, Bool, Option, Some, None}
use Rattle.gno_judging.proofs.Answers.{fails, gives, holds, refuses}
use Rattle.gno_judging.specs.Answers.{Answers}
use Rattle.gno_judging.specs.Found.{FormStands, TypeStands, ValueStands}
use Rattle.gno_judging.specs.Found.{ValueStands as value}
use Rattle.gno_judging.specs.Noting.{noted}
use Rattle.gno_scan.specs.declared.token.Pos.{Pos}
use Rattle.gno_seen.proofs.Others.{NotTyped, by_no_typed}
use Rattle.gno_terms.specs.Tables.{Table}
use Rattle.gno_terms.specs.declared.term.GoType.{GoType}
use Rattle.gno_terms.specs.declared.term.TypeRef.{TypeRef}
use Rattle.gno_typing.specs.Assertions.{asserted, assertion}
use Rattle.gno_typing.specs.Operands.{as_value}
use Rattle.gno_typing.specs.Verdicts.{After, Verdict, good}
use Rattle.gno_typing.specs.declared.fault.Fault.{Fault}
use Rattle.gno_typing.specs.declared.operand.OperandOf.{OperandOf}
use Rattle.gno_typing.specs.declared.operand.OperandOf.TheVariants as o
use Rattle.gno_typing.specs.declared.value.ValueOf.{ValueOf}

module _ {A : Type 0} (R : A → OperandOf GoType → Type 0) (rules : Table) (place : Pos) (y : OperandOf GoType) (u : GoType) (old new : Option Fault) (r : Option A) where
  pub the_assertion : Answers (After (After (as_value y) (asserted rules place u)) (λ y. good (o.Value y))) R old new r → Answers (assertion rules place y u) R old new r
  unfolding assertion
  the_assertion h = h

pub asserted_other : (table rules : Table) (place : Pos) (u : GoType) (x : ValueOf TypeRef) (y : ValueOf GoType) (old new : Option Fault) → ValueStands table x y → NotTyped x → new ≡ noted old (record { code = 59; pos = place } ∷ []) → Answers (asserted rules place u y) (ValueStands table) old new None
asserted_other table rules place u x y old new h other e = by_no_typed (λ y. Answers (asserted rules place u y) (ValueStands table) old new None) table x y h other
    (λ at s c. refuses (ValueStands table) 59 place old new e) (λ at. refuses (ValueStands table) 59 place old new e) (λ at waits calls form. refuses (ValueStands table) 59 place old new e)
