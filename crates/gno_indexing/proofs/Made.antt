-- Values that were made.
use Rattle.std.proofs.Common.{◌≡◌, sym, subst, Bool}
use Rattle.gno_judging.specs.Found.{FormStands, TypeStands, ValueStands}
use Rattle.gno_judging.specs.Found.{ValueStands as value}
use Rattle.gno_scan.specs.declared.token.Pos.{Pos}
use Rattle.gno_terms.specs.Tables.{Table}
use Rattle.gno_terms.specs.declared.term.GoType.{GoType}
use Rattle.gno_terms.specs.declared.term.TypeRef.{TypeRef}
use Rattle.gno_typing.specs.declared.form.FormOf.{FormOf}
use Rattle.gno_typing.specs.declared.value.Standing.{Standing}
use Rattle.gno_typing.specs.declared.value.ValueOf.{ValueOf}
use Rattle.gno_typing.specs.declared.value.ValueOf.TheVariants as v

pub typed_as : (table : Table) (at : Pos) (r : TypeRef) (s : GoType) (k l : Standing) (b c : Bool) (x : FormOf TypeRef) (y : FormOf GoType) → k ≡ l → b ≡ c → TypeStands table r s → FormStands table x y → ValueStands table (v.Typed at r k b x) (v.Typed at s l c y)
typed_as table at r s k l b c x y e d is h =
    subst (λ (k : Standing). ValueStands table (v.Typed at r k b x) (v.Typed at s l c y)) (sym e) (subst (λ (b : Bool). ValueStands table (v.Typed at r l b x) (v.Typed at s l c y)) (sym d) (value.typed at l c is h))
