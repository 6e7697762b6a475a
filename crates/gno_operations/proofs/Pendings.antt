-- What stands for a value that waits stands for it when it grows.
use Rattle.std.proofs.Common.{◌≡◌, refl, sym, ap, ◌∙◌, subst, List, [], ◌∷◌, ◌++◌, Bool, Option}
use Rattle.gno_constants.specs.declared.constant.Constant.{Constant}
use Rattle.gno_judging.specs.Found.{PendingStands, PendingsStand}
use Rattle.gno_judging.specs.Found.{PendingStands as pending, PendingsStand as pendings}
use Rattle.gno_scan.specs.declared.token.Pos.{Pos}
use Rattle.gno_terms.specs.declared.term.GoType.{GoType}
use Rattle.gno_terms.specs.declared.term.TypeRef.{TypeRef}
use Rattle.gno_terms.specs.Tables.{Table}
use Rattle.gno_tree.specs.declared.operator.BinaryOperator.{BinaryOperator}
use Rattle.gno_tree.specs.declared.operator.UnaryOperator.{UnaryOperator}
use Rattle.gno_typed.specs.declared.expr.TypedExprOf.{TypedExprOf}
use Rattle.gno_typing.specs.Forms.{with_pending}
use Rattle.gno_typing.specs.declared.form.FormOf.{FormOf}
use Rattle.gno_typing.specs.declared.pending.PendingOf.{PendingOf, out-PendingOf, out-roll-PendingOf}
use Rattle.gno_typing.specs.declared.pending.PendingOf.TheOpen.{PendingOf-F}
use Rattle.gno_typing.specs.declared.pending.PendingOf.TheVariants as p
use Rattle.gno_typing.specs.declared.pending.PendingOperationOf.{PendingOperationOf}

-- the outermost layer of a value that waits
module _ (A : Type 0) where
  abbrev pub Layer : Type 0
  Layer = PendingOf-F A (PendingOf A) (PendingOperationOf A)

  pub comparison_layer : (at : Pos) (operator : BinaryOperator) (operands : A) (boxed : Option A) (left : FormOf A) (right : TypedExprOf A) → out-PendingOf A (p.Comparison at operator operands boxed left right) ≡ PendingOf-F.Comparison at operator operands boxed left right
  comparison_layer at operator operands boxed left right = ap (out-PendingOf A) (sym (p.rolls-Comparison at operator operands boxed left right)) ∙ out-roll-PendingOf A _

  pub constant_layer : (at : Pos) (value : Constant) (rune : Bool) → out-PendingOf A (p.Constant at value rune) ≡ PendingOf-F.Constant at value rune
  constant_layer at value rune = ap (out-PendingOf A) (sym (p.rolls-Constant at value rune)) ∙ out-roll-PendingOf A _

  pub unary_layer : (at : Pos) (operator : UnaryOperator) (operand : PendingOf A) → out-PendingOf A (p.Unary at operator operand) ≡ PendingOf-F.Unary at operator operand
  unary_layer at operator operand = ap (out-PendingOf A) (sym (p.rolls-Unary at operator operand)) ∙ out-roll-PendingOf A _

  pub chain_layer : (first : PendingOf A) (rest : List (PendingOperationOf A)) → out-PendingOf A (p.Chain first rest) ≡ PendingOf-F.Chain first rest
  chain_layer first rest = ap (out-PendingOf A) (sym (p.rolls-Chain first rest)) ∙ out-roll-PendingOf A _

-- an operation behind each layer
abbrev pub behind_layer : PendingOf GoType → PendingOperationOf GoType → Layer GoType → PendingOf GoType
behind_layer x o l = elim l [ PendingOf-F.Chain first rest ↦ p.Chain first (rest ++ o ∷ []) | _ ↦ p.Chain x (o ∷ []) ]

pub with_pending_is : (x : PendingOf GoType) (o : PendingOperationOf GoType) (l : Layer GoType) → out-PendingOf GoType x ≡ l → with_pending x o ≡ behind_layer x o l
with_pending_is x o l e = ap (behind_layer x o) e

pub behind_constant : (at : Pos) (value : Constant) (rune : Bool) (o : PendingOperationOf GoType) → with_pending (p.Constant at value rune) o ≡ p.Chain (p.Constant at value rune) (o ∷ [])
behind_constant at value rune o = with_pending_is (p.Constant at value rune) o _ (constant_layer GoType at value rune)

module _ (table : Table) where
  more_pending : (xs : List (PendingOperationOf TypeRef)) (ys : List (PendingOperationOf GoType)) (os : List (PendingOperationOf TypeRef)) (ps : List (PendingOperationOf GoType)) → PendingsStand table xs ys → PendingsStand table os ps → PendingsStand table (xs ++ os) (ys ++ ps)
  more_pending _ _ os ps pendings.none more = more
  more_pending _ _ os ps (pendings.operand at operator e d h hs) more = pendings.operand at operator e d h (more_pending _ _ os ps hs more)
  more_pending _ _ os ps (pendings.count at operator e d h hs) more = pendings.count at operator e d h (more_pending _ _ os ps hs more)

  -- behind a value that is no chain
  pub new_chain : (x : PendingOf TypeRef) (y : PendingOf GoType) (o : PendingOperationOf TypeRef) (q : PendingOperationOf GoType) → PendingStands table x y → ((a : PendingOf TypeRef) (ps : List (PendingOperationOf TypeRef)) → x ≡ p.Chain a ps → ⊥) → PendingsStand table (o ∷ []) (q ∷ []) → PendingStands table (p.Chain x (o ∷ [])) (with_pending y q)
  new_chain x y o q (pending.comparison {s = s} {to = to} {b = b} {d = d} at operator is y_is operands boxed left right) not more =
      pending.chain refl (with_pending_is y q _ (ap (out-PendingOf GoType) y_is ∙ comparison_layer GoType at operator s to b d)) (pending.comparison at operator is y_is operands boxed left right) more
  new_chain x y o q (pending.constant at value rune is y_is) not more =
      pending.chain refl (with_pending_is y q _ (ap (out-PendingOf GoType) y_is ∙ constant_layer GoType at value rune)) (pending.constant at value rune is y_is) more
  new_chain x y o q (pending.unary {b = b} at operator is y_is h) not more =
      pending.chain refl (with_pending_is y q _ (ap (out-PendingOf GoType) y_is ∙ unary_layer GoType at operator b)) (pending.unary at operator is y_is h) more
  new_chain x y o q (pending.chain {a = a} {ps = ps} is y_is h hs) not more = absurd (not a ps is)

  -- behind a chain
  pub longer_chain : (a : PendingOf TypeRef) (ps : List (PendingOperationOf TypeRef)) (x : PendingOf TypeRef) (y : PendingOf GoType) (o : PendingOperationOf TypeRef) (q : PendingOperationOf GoType) → x ≡ p.Chain a ps → PendingStands table x y → PendingsStand table (o ∷ []) (q ∷ []) → PendingStands table (p.Chain a (ps ++ o ∷ [])) (with_pending y q)
  longer_chain a ps x y o q e (pending.comparison {r = r} {from = from} {a = b} {c = c} at operator is y_is operands boxed left right) more =
      let l = sym (comparison_layer TypeRef at operator r from b c) ∙ ap (out-PendingOf TypeRef) (sym is ∙ e) ∙ chain_layer TypeRef a ps in absurd cc
  longer_chain a ps x y o q e (pending.constant at value rune is y_is) more =
      let l = sym (constant_layer TypeRef at value rune) ∙ ap (out-PendingOf TypeRef) (sym is ∙ e) ∙ chain_layer TypeRef a ps in absurd cc
  longer_chain a ps x y o q e (pending.unary {a = b} at operator is y_is h) more =
      let l = sym (unary_layer TypeRef at operator b) ∙ ap (out-PendingOf TypeRef) (sym is ∙ e) ∙ chain_layer TypeRef a ps in absurd cc
  longer_chain a ps x y o q e (pending.chain {a = b} {b = c} {ps = rs} {qs = qs} is y_is h hs) more =
      let l = sym (chain_layer TypeRef b rs) ∙ ap (out-PendingOf TypeRef) (sym is ∙ e) ∙ chain_layer TypeRef a ps in
      let first : b ≡ a = cc in
      let rest : rs ≡ ps = cc in
      pending.chain refl (with_pending_is y q _ (ap (out-PendingOf GoType) y_is ∙ chain_layer GoType c qs)) (subst (λ b. PendingStands table b c) first h) (subst (λ rs. PendingsStand table (rs ++ o ∷ []) (qs ++ q ∷ [])) rest (more_pending rs qs (o ∷ []) (q ∷ []) hs more))
