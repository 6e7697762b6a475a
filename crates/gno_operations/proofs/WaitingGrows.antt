-- A value that waits still waits when it grows.
use Rattle.std.proofs.Common.{◌≡◌, refl, sym, ap, ◌∙◌, List, [], ◌∷◌, ◌++◌, Bool, true, false, None}
use Rattle.gno_constants.specs.declared.constant.Constant.{Constant}
use Rattle.gno_judging.specs.Found.{ValueStands}
use Rattle.gno_judging.specs.Found.{ValueStands as value}
use Rattle.gno_judging.specs.Waiting.{IsWaiting, MayFollow}
use Rattle.gno_judging.specs.Waiting.{IsWaiting as waiting, MayFollow as follow}
use Rattle.gno_pending.specs.Defaults.{OneWaits}
use Rattle.gno_pending.specs.Defaults.{OneWaits as one}
use Rattle.gno_operations.specs.Folding.{FoldsTo}
use Rattle.gno_operations.proofs.Pendings.{chain_layer, comparison_layer, constant_layer, unary_layer, with_pending_is}
use Rattle.gno_scan.specs.declared.token.Pos.{Pos}
use Rattle.gno_terms.specs.declared.term.GoType.{GoType}
use Rattle.gno_terms.specs.declared.term.TypeRef.{TypeRef}
use Rattle.gno_terms.specs.Tables.{Table}
use Rattle.gno_tree.specs.declared.operator.BinaryOperator.{BinaryOperator}
use Rattle.gno_typing.specs.Binary.{Untyped, is_defined_for, is_rune, pending_in, untyped_in}
use Rattle.gno_typing.specs.Binary.Untyped.{Nothing}
use Rattle.gno_typing.specs.Forms.{with_pending}
use Rattle.gno_typing.specs.declared.pending.PendingOf.{PendingOf, out-PendingOf}
use Rattle.gno_typing.specs.declared.pending.PendingOf.TheVariants as p
use Rattle.gno_typing.specs.declared.pending.PendingOperationOf.{PendingOperationOf}
use Rattle.gno_typing.specs.declared.pending.PendingOperationOf.TheVariants as po
use Rattle.gno_typing.specs.declared.value.ValueOf.{ValueOf}

follow_more : (xs ys : List (PendingOperationOf GoType)) → MayFollow xs → MayFollow ys → MayFollow (xs ++ ys)
follow_more _ ys follow.none more = more
follow_more _ ys (follow.constant pos operator at value rune e hs) more = follow.constant pos operator at value rune e (follow_more _ ys hs more)
follow_more _ ys (follow.operand pos operator right e h hs) more = follow.operand pos operator right e h (follow_more _ ys hs more)
follow_more _ ys (follow.count pos operator count e hs) more = follow.count pos operator count e (follow_more _ ys hs more)

pub waiting_grows : (x : PendingOf GoType) (o : PendingOperationOf GoType) → IsWaiting x → MayFollow (o ∷ []) → IsWaiting (with_pending x o)
waiting_grows x o (waiting.comparison pos operator operands boxed left right is) more =
    waiting.chain x (o ∷ []) (with_pending_is x o _ (ap (out-PendingOf GoType) is ∙ comparison_layer GoType pos operator operands boxed left right)) (waiting.comparison pos operator operands boxed left right is) more
waiting_grows x o (waiting.unary pos operator operand is h) more =
    waiting.chain x (o ∷ []) (with_pending_is x o _ (ap (out-PendingOf GoType) is ∙ unary_layer GoType pos operator operand)) (waiting.unary pos operator operand is h) more
waiting_grows x o (waiting.chain front rest is h hs) more =
    waiting.chain front (rest ++ o ∷ []) (with_pending_is x o _ (ap (out-PendingOf GoType) is ∙ chain_layer GoType front rest)) h (follow_more rest (o ∷ []) hs more)
waiting_grows x o (waiting.shifted at value rune pos operator count rest is hs) more =
    waiting.shifted at value rune pos operator count (rest ++ o ∷ []) (with_pending_is x o _ (ap (out-PendingOf GoType) is ∙ chain_layer GoType (p.Constant at value rune) (po.Count pos operator count ∷ rest))) (follow_more rest (o ∷ []) hs more)
waiting_grows x o (waiting.beside at value rune pos operator right rest is h hs) more =
    waiting.beside at value rune pos operator right (rest ++ o ∷ []) (with_pending_is x o _ (ap (out-PendingOf GoType) is ∙ chain_layer GoType (p.Constant at value rune) (po.Operand pos operator right ∷ rest))) h (follow_more rest (o ∷ []) hs more)

-- a constant, of two operands one of which waits
constant_grows : (x right : PendingOf GoType) (pos : Pos) (operator : BinaryOperator) (at : Pos) (value : Constant) (rune : Bool) → x ≡ p.Constant at value rune → IsWaiting right → IsWaiting (with_pending x (po.Operand pos operator right))
constant_grows x right pos operator at value rune is h =
    waiting.beside at value rune pos operator right [] (with_pending_is x (po.Operand pos operator right) _ (ap (out-PendingOf GoType) is ∙ constant_layer GoType at value rune) ∙ ap (λ x. p.Chain x (po.Operand pos operator right ∷ [])) is) h follow.none

pub one_grows : (x right : PendingOf GoType) (pos : Pos) (operator : BinaryOperator) → OneWaits x right → IsWaiting (with_pending x (po.Operand pos operator right))
one_grows x right pos operator (one.left_constant at value rune is h) = constant_grows x right pos operator at value rune is h
one_grows x right pos operator (one.right_constant at value rune h is) = waiting_grows x (po.Operand pos operator right) h (follow.constant pos operator at value rune (ap (λ right. po.Operand pos operator right) is) follow.none)
one_grows x right pos operator (one.both h k) = waiting_grows x (po.Operand pos operator right) h (follow.operand pos operator right refl k follow.none)

-- of two untyped values of a class, which are not both constants, one waits
module _ (table : Table) (operator : BinaryOperator) where
  no_class : {P : Type 0} (class : Untyped) → class ≡ Nothing → is_defined_for class operator ≡ true → P
  no_class class is h = let e : false ≡ true = sym (ap (λ class. is_defined_for class operator) is) ∙ h in absurd cc

  pub one_waits : (a b : ValueOf TypeRef) (l r : ValueOf GoType) → ValueStands table a l → ValueStands table b r → FoldsTo operator None l r → untyped_in l ≡ untyped_in r → is_defined_for (untyped_in l) operator ≡ true → OneWaits (pending_in l) (pending_in r)
  one_waits _ _ _ _ (value.constant at x is) (value.constant behind y is_too) n e h = absurd n
  one_waits _ _ _ _ (value.constant at x is) (value.nil behind) n e h = no_class _ e h
  one_waits _ _ _ _ (value.constant at x is) (value.typed behind standing calls is_too form) n e h = no_class _ e h
  one_waits _ _ _ _ (value.constant {s = s} at x is) (value.waiting behind waits calls form w) n e h = one.left_constant at x (is_rune s) refl w
  one_waits _ _ _ _ (value.nil at) right n e h = no_class Nothing refl h
  one_waits _ _ _ _ (value.typed at standing calls is form) right n e h = no_class Nothing refl h
  one_waits _ _ _ _ (value.waiting at waits calls form w) (value.constant {s = s} behind y is) n e h = one.right_constant behind y (is_rune s) w refl
  one_waits _ _ _ _ (value.waiting at waits calls form w) (value.nil behind) n e h = no_class _ e h
  one_waits _ _ _ _ (value.waiting at waits calls form w) (value.typed behind standing calls_too is h_too) n e h = no_class _ e h
  one_waits _ _ _ _ (value.waiting at waits calls form w) (value.waiting behind waits_too calls_too form_too u) n e h = one.both w u
