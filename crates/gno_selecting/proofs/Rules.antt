-- What the rules say of each operand and of each value.
use Rattle.std.proofs.Common.{◌≡◌, refl, ℕ, List, Bool}
use Rattle.gno_judging.specs.Found.{OperandStands, ValueStands}
use Rattle.gno_judging.specs.Found.{OperandStands as operand, ValueStands as value}
use Rattle.gno_scan.specs.declared.token.Pos.{Pos}
use Rattle.gno_selecting.specs.Members.{settled_selected}
use Rattle.gno_terms.specs.declared.term.GoType.{GoType}
use Rattle.gno_terms.specs.declared.term.TypeRef.{TypeRef}
use Rattle.gno_terms.specs.Tables.{Table}
use Rattle.gno_typing.specs.Names.{Meaning, exported}
use Rattle.gno_typing.specs.Operands.{as_value}
use Rattle.gno_typing.specs.Selectors.{selected, selector}
use Rattle.gno_typing.specs.Verdicts.{Verdict, After, bad}
use Rattle.gno_typing.specs.declared.form.FormOf.{FormOf}
use Rattle.gno_typing.specs.declared.operand.OperandOf.{OperandOf}
use Rattle.gno_typing.specs.declared.operand.OperandOf.TheVariants as o
use Rattle.gno_typing.specs.declared.value.Standing.{Standing}
use Rattle.gno_typing.specs.declared.value.ValueOf.{ValueOf}
use Rattle.gno_typing.specs.declared.value.ValueOf.TheVariants as v

-- `rules`: what the rules see of the table
module _ (P : (Verdict (OperandOf GoType) → Type 0) → Type 0) (rules : Table) (place : Pos) (path name : List ℕ) where
  pub other_value : (table : Table) (x : ValueOf TypeRef) (y : ValueOf GoType) → ValueStands table x y → ((at : Pos) (r : TypeRef) (stands : Standing) (calls : Bool) (form : FormOf TypeRef) → x ≡ v.Typed at r stands calls form → ⊥)
      → P (settled_selected rules place path name y) → P (selected rules place path name y)
  other_value table _ _ (value.constant at x is) not_typed h = h
  other_value table _ _ (value.nil at) not_typed h = h
  other_value table _ _ (value.typed at stands calls is form) not_typed h = absurd (not_typed _ _ _ _ _ refl)
  other_value table _ _ (value.waiting at waits calls form fits) not_typed h = h

  pub of_package : (packages : List ℕ → List Meaning) (at : Pos) (of : List ℕ) → P (exported (packages of) place name) → P (selector packages path rules place name (o.Package at of))
  unfolding selector
  of_package packages at of h = h

  pub of_type : (packages : List ℕ → List Meaning) (at : Pos) (s : GoType) → P (bad 52 place) → P (selector packages path rules place name (o.Type at s))
  unfolding selector
  of_type packages at s h = h

  pub other_operand : (packages : List ℕ → List Meaning) (table : Table) (x : OperandOf TypeRef) (y : OperandOf GoType) → OperandStands table x y → ((at : Pos) (of : List ℕ) → x ≡ o.Package at of → ⊥) → ((at : Pos) (r : TypeRef) → x ≡ o.Type at r → ⊥)
      → P (After (as_value y) (selected rules place path name)) → P (selector packages path rules place name y)
  unfolding selector
  other_operand packages table _ _ (operand.value is) not_package not_type h = h
  other_operand packages table _ _ (operand.method at calls is form method) not_package not_type h = h
  other_operand packages table _ _ (operand.crossing at code is) not_package not_type h = h
  other_operand packages table _ _ (operand.results at of form) not_package not_type h = h
  other_operand packages table _ _ (operand.type at is) not_package not_type h = absurd (not_type _ _ refl)
  other_operand packages table _ _ (operand.open_array at is) not_package not_type h = h
  other_operand packages table _ _ (operand.imported at of) not_package not_type h = absurd (not_package _ _ refl)
  other_operand packages table _ _ (operand.builtin at of) not_package not_type h = h
  other_operand packages table _ _ (operand.cross at) not_package not_type h = h
  other_operand packages table _ _ (operand.realm at) not_package not_type h = h
