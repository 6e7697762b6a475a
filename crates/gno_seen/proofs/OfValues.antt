-- What is found of an operand that stands for a value.
use Rattle.std.proofs.Common.{◌≡◌, sym, subst, Option, Some, None}
use Rattle.std.specs.Prelude.{option_map}
use Rattle.gno_judging.proofs.Answers.{after, after_none, gives}
use Rattle.gno_judging.specs.Answers.{Answers}
use Rattle.gno_judging.specs.Found.{OperandStands, ValueStands}
use Rattle.gno_judging.specs.Found.{OperandStands as operand}
use Rattle.gno_terms.specs.Tables.{Table}
use Rattle.gno_terms.specs.declared.term.GoType.{GoType}
use Rattle.gno_terms.specs.declared.term.TypeRef.{TypeRef}
use Rattle.gno_typing.specs.Operands.{as_value}
use Rattle.gno_typing.specs.Verdicts.{After, Verdict, good}
use Rattle.gno_typing.specs.declared.fault.Fault.{Fault}
use Rattle.gno_typing.specs.declared.operand.OperandOf.{OperandOf}
use Rattle.gno_typing.specs.declared.operand.OperandOf.TheVariants as o
use Rattle.gno_typing.specs.declared.value.ValueOf.{ValueOf}

-- what is found as a value is an operand
module _ (table : Table) (J : Verdict (ValueOf GoType) → Type 0) (old new : Option Fault) where
  operand_of : (r : Option (ValueOf TypeRef)) → Answers J (ValueStands table) old new r → Answers (After J (λ y. good (o.Value y))) (OperandStands table) old new (option_map o.Value r)
  operand_of (Some a) h = after (ValueStands table) (OperandStands table) J (λ y. good (o.Value y)) old new new (Some (o.Value a)) a h (λ b is. gives (OperandStands table) new _ _ (operand.value is))
  operand_of None h = after_none (ValueStands table) (OperandStands table) J (λ y. good (o.Value y)) old new h

  pub as_operand : (r : Option (ValueOf TypeRef)) (x : Option (OperandOf TypeRef)) → x ≡ option_map o.Value r → Answers J (ValueStands table) old new r → Answers (After J (λ y. good (o.Value y))) (OperandStands table) old new x
  as_operand r x e h = subst (λ (x : Option (OperandOf TypeRef)). Answers (After J (λ y. good (o.Value y))) (OperandStands table) old new x) (sym e) (operand_of r h)

  pub no_operand : Answers J (ValueStands table) old new None → Answers (After J (λ y. good (o.Value y))) (OperandStands table) old new None
  no_operand h = operand_of None h

module _ (table later : Table) (y : OperandOf GoType) (go : ValueOf GoType → Verdict (ValueOf GoType) → Type 0) where
  -- what is judged of the value
  pub of_it : (old mid new : Option Fault) (a : ValueOf TypeRef) (r : Option (ValueOf TypeRef)) (x : Option (OperandOf TypeRef)) → Answers (as_value y) (ValueStands table) old mid (Some a) → ((b : ValueOf GoType) → ValueStands table a b → Answers (go b) (ValueStands later) mid new r) → x ≡ option_map o.Value r
      → Answers (After (After (as_value y) go) (λ y. good (o.Value y))) (OperandStands later) old new x
  of_it old mid new a r x h k e = as_operand later (After (as_value y) go) old new r x e (after (ValueStands table) (ValueStands later) (as_value y) go old mid new r a h k)

  pub of_none : (old new : Option Fault) → Answers (as_value y) (ValueStands table) old new None → Answers (After (After (as_value y) go) (λ y. good (o.Value y))) (OperandStands later) old new None
  of_none old new h = no_operand later (After (as_value y) go) old new (after_none (ValueStands table) (ValueStands later) (as_value y) go old new h)
