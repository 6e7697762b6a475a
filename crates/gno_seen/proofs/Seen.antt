-- What is seen of a value is seen of what it stands for.
use Rattle.std.proofs.Common.{◌≡◌, refl, Bool, true, false, None}
use Rattle.gno_constants.specs.declared.constant.Constant.{Constant}
use Rattle.gno_judging.specs.Found.{ValueStands}
use Rattle.gno_judging.specs.Found.{ValueStands as value}
use Rattle.gno_seen.specs.Seen.{constant_in}
use Rattle.gno_scan.specs.declared.token.Pos.{Pos}
use Rattle.gno_terms.specs.declared.term.GoType.{GoType}
use Rattle.gno_terms.specs.declared.term.TypeRef.{TypeRef}
use Rattle.gno_terms.specs.Tables.{Table}
use Rattle.gno_typing.specs.Binary.{calls_in, is_typed}
use Rattle.gno_typing.specs.declared.form.FormOf.{FormOf}
use Rattle.gno_typing.specs.declared.pending.PendingOf.{PendingOf}
use Rattle.gno_typing.specs.declared.value.Standing.{Standing}
use Rattle.gno_typing.specs.declared.value.ValueOf.{ValueOf}
use Rattle.gno_typing.specs.declared.value.ValueOf.TheVariants as v
use Rattle.gno_typing.specs.declared.value.Waits.{Waits}

pub constant_seen : (table : Table) (x : ValueOf TypeRef) (y : ValueOf GoType) → ValueStands table x y → constant_in x ≡ constant_in y
constant_seen table _ _ (value.constant at x is) = refl
constant_seen table _ _ (value.nil at) = refl
constant_seen table _ _ (value.typed at standing calls is h) = refl
constant_seen table _ _ (value.waiting at waits calls h w) = refl

pub no_constant : (x : ValueOf TypeRef) → ((at : Pos) (r : TypeRef) (c : Constant) → x ≡ v.Constant at r c → ⊥) → constant_in x ≡ None
no_constant (v.Constant at r c) h = absurd (h at r c refl)
no_constant (v.Nil at) h = refl
no_constant (v.Typed at r standing calls form) h = refl
no_constant (v.Pending at waits calls form) h = refl

module _ (table : Table) where
  pub no_calls : (x : ValueOf TypeRef) (y : ValueOf GoType) → ValueStands table x y → ((at : Pos) (r : TypeRef) (standing : Standing) (calls : Bool) (form : FormOf TypeRef) → x ≡ v.Typed at r standing calls form → ⊥) → ((at : Pos) (waits : Waits) (calls : Bool) (form : PendingOf TypeRef) → x ≡ v.Pending at waits calls form → ⊥) → false ≡ calls_in y
  no_calls _ _ (value.constant at x is) n m = refl
  no_calls _ _ (value.nil at) n m = refl
  no_calls _ _ (value.typed at standing calls is h) n m = absurd (n at _ standing calls _ refl)
  no_calls _ _ (value.waiting at waits calls h w) n m = absurd (m at waits calls _ refl)

  pub not_typed : (x : ValueOf TypeRef) (y : ValueOf GoType) → ValueStands table x y → ((at : Pos) (r : TypeRef) (c : Constant) → x ≡ v.Constant at r c → ⊥) → ((at : Pos) (r : TypeRef) (standing : Standing) (calls : Bool) (form : FormOf TypeRef) → x ≡ v.Typed at r standing calls form → ⊥) → is_typed y ≡ false
  not_typed _ _ (value.constant at x is) n m = absurd (n at _ x refl)
  not_typed _ _ (value.nil at) n m = refl
  not_typed _ _ (value.typed at standing calls is h) n m = absurd (m at _ standing calls _ refl)
  not_typed _ _ (value.waiting at waits calls h w) n m = refl
