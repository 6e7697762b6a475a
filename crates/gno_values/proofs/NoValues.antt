-- What the rule says of operands that are no values.
use Rattle.std.proofs.Common.{ℕ, ◌≡◌, List, [], ◌∷◌, Option, None}
use Rattle.gno_judging.proofs.Answers.{refuses}
use Rattle.gno_judging.proofs.Inversions.{by_builtin, by_cross, by_crossing, by_open_array, by_package, by_realm, by_results, by_type}
use Rattle.gno_judging.specs.Answers.{Answers}
use Rattle.gno_judging.specs.Found.{OperandStands, ValueStands}
use Rattle.gno_judging.specs.Noting.{noted}
use Rattle.gno_scan.specs.declared.token.Pos.{Pos}
use Rattle.gno_terms.specs.Tables.{Table}
use Rattle.gno_terms.specs.declared.term.GoType.{GoType}
use Rattle.gno_terms.specs.declared.term.TypeRef.{TypeRef}
use Rattle.gno_typed.specs.declared.code.CodeId.{CodeId}
use Rattle.gno_typing.specs.Operands.{as_value}
use Rattle.gno_typing.specs.declared.fault.Fault.{Fault}
use Rattle.gno_typing.specs.declared.form.FormOf.{FormOf}
use Rattle.gno_typing.specs.declared.operand.OperandOf.{OperandOf}
use Rattle.gno_typing.specs.declared.operand.OperandOf.TheVariants as o

module _ (table : Table) (old new : Option Fault) where
  abbrev Refused : OperandOf GoType → Type 0
  Refused y = Answers (as_value y) (ValueStands table) old new None

  module _ (at : Pos) where
    of_crossing : new ≡ noted old (record { code = 63; pos = at } ∷ []) → (s : GoType) (code : CodeId) → Refused (o.Crossing at s code)
    unfolding as_value
    of_crossing e s code = refuses (ValueStands table) 63 at old new e

    of_cross : new ≡ noted old (record { code = 63; pos = at } ∷ []) → Refused (o.Cross at)
    unfolding as_value
    of_cross e = refuses (ValueStands table) 63 at old new e

    of_realm : new ≡ noted old (record { code = 63; pos = at } ∷ []) → Refused (o.Realm at)
    unfolding as_value
    of_realm e = refuses (ValueStands table) 63 at old new e

    of_results : new ≡ noted old (record { code = 50; pos = at } ∷ []) → (ss : List GoType) (form : FormOf GoType) → Refused (o.Results at ss form)
    unfolding as_value
    of_results e ss form = refuses (ValueStands table) 50 at old new e

    of_type : new ≡ noted old (record { code = 41; pos = at } ∷ []) → (s : GoType) → Refused (o.Type at s)
    unfolding as_value
    of_type e s = refuses (ValueStands table) 41 at old new e

    of_open_array : new ≡ noted old (record { code = 41; pos = at } ∷ []) → (s : GoType) → Refused (o.OpenArray at s)
    unfolding as_value
    of_open_array e s = refuses (ValueStands table) 41 at old new e

    of_package : new ≡ noted old (record { code = 41; pos = at } ∷ []) → (path : List ℕ) → Refused (o.Package at path)
    unfolding as_value
    of_package e path = refuses (ValueStands table) 41 at old new e

    of_builtin : new ≡ noted old (record { code = 41; pos = at } ∷ []) → (name : List ℕ) → Refused (o.Builtin at name)
    unfolding as_value
    of_builtin e name = refuses (ValueStands table) 41 at old new e

  module _ (x : OperandOf TypeRef) (y : OperandOf GoType) (is : OperandStands table x y) (at : Pos) where
    pub crossing : (r : TypeRef) (code : CodeId) → x ≡ o.Crossing at r code → new ≡ noted old (record { code = 63; pos = at } ∷ []) → Refused y
    crossing r code e n = by_crossing Refused table at r code x y e is (λ s _. of_crossing at n s code)

    pub cross : x ≡ o.Cross at → new ≡ noted old (record { code = 63; pos = at } ∷ []) → Refused y
    cross e n = by_cross Refused table at x y e is (of_cross at n)

    pub realm : x ≡ o.Realm at → new ≡ noted old (record { code = 63; pos = at } ∷ []) → Refused y
    realm e n = by_realm Refused table at x y e is (of_realm at n)

    pub results : (rs : List TypeRef) (form : FormOf TypeRef) → x ≡ o.Results at rs form → new ≡ noted old (record { code = 50; pos = at } ∷ []) → Refused y
    results rs form e n = by_results Refused table at rs form x y e is (λ ss b _ _. of_results at n ss b)

    pub type : (r : TypeRef) → x ≡ o.Type at r → new ≡ noted old (record { code = 41; pos = at } ∷ []) → Refused y
    type r e n = by_type Refused table at r x y e is (λ s _. of_type at n s)

    pub open_array : (r : TypeRef) → x ≡ o.OpenArray at r → new ≡ noted old (record { code = 41; pos = at } ∷ []) → Refused y
    open_array r e n = by_open_array Refused table at r x y e is (λ s _. of_open_array at n s)

    pub «package» : (path : List ℕ) → x ≡ o.Package at path → new ≡ noted old (record { code = 41; pos = at } ∷ []) → Refused y
    «package» path e n = by_package Refused table at path x y e is (of_package at n path)

    pub builtin : (name : List ℕ) → x ≡ o.Builtin at name → new ≡ noted old (record { code = 41; pos = at } ∷ []) → Refused y
    builtin name e n = by_builtin Refused table at name x y e is (of_builtin at n name)
