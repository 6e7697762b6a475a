-- What the rules say of what a name selects.
use Rattle.std.proofs.Common.{◌≡◌, sym, subst, ℕ, List, [], ◌∷◌, Bool, true, false, Option, Some, None, Result, Ok, Err, inl, inr}
use Rattle.std.specs.Prelude.{IfOk}
use Rattle.gno_judging.specs.Answers.{Answers}
use Rattle.gno_judging.specs.Found.{OperandStands}
use Rattle.gno_judging.specs.Noting.{noted}
use Rattle.gno_judging.proofs.Answers.{finds, finds_none, holds, refuses}
use Rattle.gno_scan.specs.declared.token.Pos.{Pos}
use Rattle.gno_terms.specs.declared.term.GoType.{GoType}
use Rattle.gno_terms.specs.declared.term.TypeRef.{TypeRef}
use Rattle.gno_terms.specs.Tables.{Table}
use Rattle.gno_typing.specs.Selectors.{FieldFound, HasHolder, Holder, IsFieldFound, IsMethodFound, MethodFound, asked, field_selected, member_selected, method_selected, methods_by, selected_in, selected_of}
use Rattle.gno_typing.specs.Verdicts.{Verdict, wants}
use Rattle.gno_typing.specs.declared.fault.Fault.{Fault}
use Rattle.gno_typing.specs.declared.form.FormOf.{FormOf}
use Rattle.gno_typing.specs.declared.operand.OperandOf.{OperandOf}
use Rattle.gno_typing.specs.declared.value.Standing.{Standing}

-- the type whose members count
pub a_holder : (rules table : Table) (place : Pos) (path name : List ℕ) (s : GoType) (stands : Standing) (calls : Bool) (y : FormOf GoType) (old new : Option Fault) {E : Type 0} (res : Result (Option (OperandOf TypeRef)) E) (h : Holder) → HasHolder rules s h
    → IfOk res (λ r. Answers (selected_of rules place path name s stands calls y h) (OperandStands table) old new r) → IfOk res (λ r. Answers (selected_in rules place path name s stands calls y) (OperandStands table) old new r)
a_holder rules table place path name s stands calls y old new (Ok r) h has a = finds (OperandStands table) _ 52 place _ old new r h has a
a_holder rules table place path name s stands calls y old new (Err e) h has a = tt

module _ {A B : Type 0} (R : A → B → Type 0) (P : Type 0) (code : ℕ) (at : Pos) (J : Verdict B → Type 0) (old new : Option Fault) {E : Type 0} where
  pub holds_ok : (res : Result (Option A) E) → P → IfOk res (λ r. Answers J R old new r) → IfOk res (λ r. Answers (wants P code at J) R old new r)
  holds_ok (Ok r) p a = holds R P code at J old new r p a
  holds_ok (Err e) p a = tt

-- `rules`: what the rules see of the table
module _ (rules table : Table) (place : Pos) (path name : List ℕ) (s : GoType) (stands : Standing) (calls : Bool) (y : FormOf GoType) (h : Holder) (old new : Option Fault) where
  pub a_field : (r : Option (OperandOf TypeRef)) (x : FieldFound) → IsFieldFound rules h.of name (asked path name) x → Answers (field_selected place s stands calls y h x) (OperandStands table) old new r → Answers (member_selected rules place path name s stands calls y h) (OperandStands table) old new r
  a_field r x is a = record { verdict = a.verdict; judged = inl (x, is, a.judged); stands = a.stands; notes = a.notes }

  pub no_field : (r : Option (OperandOf TypeRef)) → ((x : FieldFound) → IsFieldFound rules h.of name (asked path name) x → ⊥) → Answers (methods_by h.fields_alone rules place path name s stands calls y h) (OperandStands table) old new r → Answers (member_selected rules place path name s stands calls y h) (OperandStands table) old new r
  no_field r none a = record { verdict = a.verdict; judged = inr (none, a.judged); stands = a.stands; notes = a.notes }

  no_method_by : (b : Bool) → ((x : MethodFound) → IsMethodFound rules h.of name (asked path name) x → ⊥) → new ≡ noted old (record { code = 52; pos = place } ∷ []) → Answers (methods_by b rules place path name s stands calls y h) (OperandStands table) old new None
  no_method_by true none e = refuses (OperandStands table) 52 place old new e
  no_method_by false none e = finds_none (OperandStands table) _ 52 place _ old new none e

  -- nothing has the name
  pub nothing : ((x : FieldFound) → IsFieldFound rules h.of name (asked path name) x → ⊥) → ((x : MethodFound) → IsMethodFound rules h.of name (asked path name) x → ⊥) → new ≡ noted old (record { code = 52; pos = place } ∷ []) → Answers (member_selected rules place path name s stands calls y h) (OperandStands table) old new None
  nothing fields methods e = no_field None fields (no_method_by h.fields_alone methods e)

  pub fields_alone : (b : Bool) → b ≡ true → new ≡ noted old (record { code = 52; pos = place } ∷ []) → Answers (methods_by b rules place path name s stands calls y h) (OperandStands table) old new None
  fields_alone b t e = subst (λ b. Answers (methods_by b rules place path name s stands calls y h) (OperandStands table) old new None) (sym t) (refuses (OperandStands table) 52 place old new e)

  pub a_method : (b : Bool) → b ≡ false → (r : Option (OperandOf TypeRef)) (x : MethodFound) → IsMethodFound rules h.of name (asked path name) x → Answers (method_selected rules place s stands calls y h x) (OperandStands table) old new r → Answers (methods_by b rules place path name s stands calls y h) (OperandStands table) old new r
  a_method b e r x is a = subst (λ b. Answers (methods_by b rules place path name s stands calls y h) (OperandStands table) old new r) (sym e) (finds (OperandStands table) _ 52 place _ old new r x is a)

  -- the same of what may fail for want of memory
  pub no_field_ok : {E : Type 0} (res : Result (Option (OperandOf TypeRef)) E) → ((x : FieldFound) → IsFieldFound rules h.of name (asked path name) x → ⊥) → IfOk res (λ r. Answers (methods_by h.fields_alone rules place path name s stands calls y h) (OperandStands table) old new r) → IfOk res (λ r. Answers (member_selected rules place path name s stands calls y h) (OperandStands table) old new r)
  no_field_ok (Ok r) none a = no_field r none a
  no_field_ok (Err e) none a = tt
