-- What is seen of a value is seen of what it stands for.
use Rattle.std.proofs.Common.{◌≡◌, refl, Bool, false}
use Rattle.gno_constants.specs.declared.constant.Constant.{Constant}
use Rattle.gno_judging.specs.Found.{ValueStands}
use Rattle.gno_judging.specs.Found.{ValueStands as value}
use Rattle.gno_scan.specs.declared.token.Pos.{Pos}
use Rattle.gno_terms.specs.declared.term.GoType.{GoType}
use Rattle.gno_terms.specs.declared.term.TypeRef.{TypeRef}
use Rattle.gno_terms.specs.Tables.{Table}
use Rattle.gno_tree.specs.declared.operator.BinaryOperator.{BinaryOperator}
use Rattle.gno_typing.specs.Binary.{divides_by_zero, needs_of}
use Rattle.gno_typing.specs.declared.pending.PendingOf.{PendingOf}
use Rattle.gno_typing.specs.declared.value.ValueOf.{ValueOf}
use Rattle.gno_typing.specs.declared.value.ValueOf.TheVariants as v
use Rattle.gno_typing.specs.declared.value.Waits.{Waits}

module _ (table : Table) where
  pub no_division : (operator : BinaryOperator) (x : ValueOf TypeRef) (y : ValueOf GoType) → ValueStands table x y → ((at : Pos) (r : TypeRef) (c : Constant) → x ≡ v.Constant at r c → ⊥) → false ≡ divides_by_zero operator y
  no_division operator _ _ (value.constant at x is) n = absurd (n at _ x refl)
  no_division operator _ _ (value.nil at) n = refl
  no_division operator _ _ (value.typed at standing calls is h) n = refl
  no_division operator _ _ (value.waiting at waits calls h w) n = refl

  pub no_needs : (other : Waits) (x : ValueOf TypeRef) (y : ValueOf GoType) → ValueStands table x y → ((at : Pos) (waits : Waits) (calls : Bool) (form : PendingOf TypeRef) → x ≡ v.Pending at waits calls form → ⊥) → other ≡ needs_of y other
  no_needs other _ _ (value.constant at x is) n = refl
  no_needs other _ _ (value.nil at) n = refl
  no_needs other _ _ (value.typed at standing calls is h) n = refl
  no_needs other _ _ (value.waiting at waits calls h w) n = absurd (n at waits calls _ refl)
