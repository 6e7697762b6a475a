-- What the rule on index expressions says.
use Rattle.std.proofs.Common.{ℕ, ◌≡◌, [], ◌∷◌, Bool, Option, None, inl, inr}
use Rattle.gno_judging.proofs.Answers.{refuses}
use Rattle.gno_judging.specs.Answers.{Answers}
use Rattle.gno_judging.specs.Found.{ValueStands}
use Rattle.gno_judging.specs.Noting.{noted}
use Rattle.gno_scan.specs.declared.token.Pos.{Pos}
use Rattle.gno_seen.proofs.Others.{NotConstant, NotTyped, by_neither}
use Rattle.gno_indexing.specs.Indexing.{map_indexed}
use Rattle.gno_terms.specs.Tables.{Table}
use Rattle.gno_terms.specs.declared.term.GoType.{GoType}
use Rattle.gno_terms.specs.declared.term.TypeRef.{TypeRef}
use Rattle.gno_typing.specs.Indexes.{HasElements, HasKeys, index, indexed, indexed_by, indexed_typed}
use Rattle.gno_typing.specs.Operands.{as_value}
use Rattle.gno_typing.specs.Verdicts.{After, AfterBoth, Verdict, good, wants_some}
use Rattle.gno_typing.specs.declared.fault.Fault.{Fault}
use Rattle.gno_typing.specs.declared.form.FormOf.{FormOf}
use Rattle.gno_typing.specs.declared.operand.OperandOf.{OperandOf}
use Rattle.gno_typing.specs.declared.operand.OperandOf.TheVariants as o
use Rattle.gno_typing.specs.declared.value.Standing.{Standing}
use Rattle.gno_typing.specs.declared.value.ValueOf.{ValueOf}

module _ {A : Type 0} (R : A → OperandOf GoType → Type 0) (rules : Table) (place : Pos) (y j : OperandOf GoType) (old new : Option Fault) (r : Option A) where
  pub the_index : Answers (After (AfterBoth (as_value y) (as_value j) (indexed rules place)) (λ y. good (o.Value y))) R old new r → Answers (index rules place y j) R old new r
  unfolding index
  the_index h = h

pub indexed_other : (table rules : Table) (place : Pos) (x : ValueOf TypeRef) (y j : ValueOf GoType) (old new : Option Fault) → ValueStands table x y → NotConstant x → NotTyped x → new ≡ noted old (record { code = 54; pos = place } ∷ []) → Answers (indexed rules place y j) (ValueStands table) old new None
indexed_other table rules place x y j old new h absent no_type e = by_neither (λ y. Answers (indexed rules place y j) (ValueStands table) old new None) table x y h absent no_type (λ at. refuses (ValueStands table) 54 place old new e) (λ at waits calls form. refuses (ValueStands table) 54 place old new e)

module _ {A : Type 0} (R : A → ValueOf GoType → Type 0) (rules : Table) (place : Pos) (s : GoType) (stands : Standing) (calls : Bool) (form : FormOf GoType) (index : ValueOf GoType) (old new : Option Fault) (r : Option A) where
  pub a_map : (key value : GoType) → HasKeys rules s key value → Answers (map_indexed rules place calls form index key value) R old new r → Answers (indexed_typed rules place s stands calls form index) R old new r
  a_map key value keys h = record { verdict = h.verdict; judged = inl (key, value, keys, h.judged); stands = h.stands; notes = h.notes }

  pub no_map : ((key value : GoType) → HasKeys rules s key value → ⊥) → Answers (wants_some (HasElements rules s) 54 place (indexed_by rules place stands calls form index)) R old new r → Answers (indexed_typed rules place s stands calls form index) R old new r
  no_map absent h = record { verdict = h.verdict; judged = inr (absent, h.judged); stands = h.stands; notes = h.notes }
