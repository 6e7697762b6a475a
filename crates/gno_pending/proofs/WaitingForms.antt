-- What a value that waits is made of.
use Rattle.std.proofs.Common.{◌≡◌, refl, sym, ap, ◌∙◌, subst, List, [], ◌∷◌, Bool, Option, inl, inr, ◌⊎◌}
use Rattle.std.specs.Prelude.{⊤}
use Rattle.gno_constants.specs.declared.constant.Constant.{Constant}
use Rattle.gno_judging.specs.Found.{PendingStands}
use Rattle.gno_judging.specs.Found.{PendingStands as pending}
use Rattle.gno_judging.specs.Waiting.{IsWaiting, MayFollow}
use Rattle.gno_judging.specs.Waiting.{IsWaiting as waiting, MayFollow as follow}
use Rattle.gno_scan.specs.declared.token.Pos.{Pos}
use Rattle.gno_terms.specs.declared.term.GoType.{GoType}
use Rattle.gno_terms.specs.declared.term.TypeRef.{TypeRef}
use Rattle.gno_terms.specs.Tables.{Table}
use Rattle.gno_tree.specs.declared.operator.BinaryOperator.{BinaryOperator}
use Rattle.gno_tree.specs.declared.operator.UnaryOperator.{UnaryOperator}
use Rattle.gno_typed.specs.declared.expr.TypedExprOf.{TypedExprOf}
use Rattle.gno_typing.specs.declared.form.FormOf.{FormOf}
use Rattle.gno_typing.specs.declared.pending.PendingOf.{PendingOf, out-PendingOf, out-roll-PendingOf}
use Rattle.gno_typing.specs.declared.pending.PendingOf.TheOpen.{PendingOf-F}
use Rattle.gno_typing.specs.declared.pending.PendingOf.TheVariants as p
use Rattle.gno_typing.specs.declared.pending.PendingOperationOf.{PendingOperationOf}
use Rattle.gno_typing.specs.declared.pending.PendingOperationOf.TheVariants as o

abbrev Layer : Type 0
Layer = PendingOf-F GoType (PendingOf GoType) (PendingOperationOf GoType)

abbrev layer : PendingOf GoType → Layer
layer x = out-PendingOf GoType x

comparison_layer : (at : Pos) (operator : BinaryOperator) (operands : GoType) (boxed : Option GoType) (left : FormOf GoType) (right : TypedExprOf GoType) → layer (p.Comparison at operator operands boxed left right) ≡ PendingOf-F.Comparison at operator operands boxed left right
comparison_layer at operator operands boxed left right = ap layer (sym (p.rolls-Comparison at operator operands boxed left right)) ∙ out-roll-PendingOf GoType _

constant_layer : (at : Pos) (value : Constant) (rune : Bool) → layer (p.Constant at value rune) ≡ PendingOf-F.Constant at value rune
constant_layer at value rune = ap layer (sym (p.rolls-Constant at value rune)) ∙ out-roll-PendingOf GoType _

unary_layer : (at : Pos) (operator : UnaryOperator) (operand : PendingOf GoType) → layer (p.Unary at operator operand) ≡ PendingOf-F.Unary at operator operand
unary_layer at operator operand = ap layer (sym (p.rolls-Unary at operator operand)) ∙ out-roll-PendingOf GoType _

chain_layer : (front : PendingOf GoType) (rest : List (PendingOperationOf GoType)) → layer (p.Chain front rest) ≡ PendingOf-F.Chain front rest
chain_layer front rest = ap layer (sym (p.rolls-Chain front rest)) ∙ out-roll-PendingOf GoType _

abbrev IsConstant : Layer → Type 0
IsConstant (PendingOf-F.Constant at value rune) = ⊤
IsConstant _ = ⊥

constant_here : {x : PendingOf GoType} (at : Pos) (value : Constant) (rune : Bool) → x ≡ p.Constant at value rune → IsConstant (layer x)
constant_here at value rune is = subst IsConstant (sym (ap layer is ∙ constant_layer at value rune)) tt

-- behind a constant that is the first operand
abbrev pub FollowsConstant : List (PendingOperationOf GoType) → Type 0
FollowsConstant [] = ⊥
FollowsConstant (o.Operand at operator right ∷ rest) = IsWaiting right × MayFollow rest
FollowsConstant (o.Count at operator count ∷ rest) = MayFollow rest

abbrev WaitsBy : Layer → Type 0
WaitsBy (PendingOf-F.Comparison at operator operands boxed left right) = ⊤
WaitsBy (PendingOf-F.Constant at value rune) = ⊥
WaitsBy (PendingOf-F.Unary at operator operand) = IsWaiting operand
WaitsBy (PendingOf-F.Chain front rest) = (IsWaiting front × MayFollow rest) ⊎ (IsConstant (layer front) × FollowsConstant rest)

waits_by : {x : PendingOf GoType} → IsWaiting x → WaitsBy (layer x)
waits_by (waiting.comparison at operator operands boxed left right is) = subst WaitsBy (sym (ap layer is ∙ comparison_layer at operator operands boxed left right)) tt
waits_by (waiting.unary at operator operand is h) = subst WaitsBy (sym (ap layer is ∙ unary_layer at operator operand)) h
waits_by (waiting.chain front rest is h follows) = subst WaitsBy (sym (ap layer is ∙ chain_layer front rest)) (inl (h, follows))
waits_by (waiting.shifted front_at value rune at operator count rest is follows) = subst WaitsBy (sym (ap layer is ∙ chain_layer (p.Constant front_at value rune) (o.Count at operator count ∷ rest))) (inr (constant_here front_at value rune refl, follows))
waits_by (waiting.beside front_at value rune at operator right rest is h follows) = subst WaitsBy (sym (ap layer is ∙ chain_layer (p.Constant front_at value rune) (o.Operand at operator right ∷ rest))) (inr (constant_here front_at value rune refl, (h, follows)))

waits_at : {x : PendingOf GoType} (l : Layer) → layer x ≡ l → IsWaiting x → WaitsBy l
waits_at l is h = subst WaitsBy is (waits_by h)

-- a constant alone does not wait
pub no_constant : {x : PendingOf GoType} (at : Pos) (value : Constant) (rune : Bool) → x ≡ p.Constant at value rune → IsWaiting x → ⊥
no_constant at value rune is h = waits_at (PendingOf-F.Constant at value rune) (ap layer is ∙ constant_layer at value rune) h

pub operand_waits : {x : PendingOf GoType} (at : Pos) (operator : UnaryOperator) (operand : PendingOf GoType) → x ≡ p.Unary at operator operand → IsWaiting x → IsWaiting operand
operand_waits at operator operand is h = waits_at (PendingOf-F.Unary at operator operand) (ap layer is ∙ unary_layer at operator operand) h

chain_waits : {x : PendingOf GoType} (front : PendingOf GoType) (rest : List (PendingOperationOf GoType)) → x ≡ p.Chain front rest → IsWaiting x → (IsWaiting front × MayFollow rest) ⊎ (IsConstant (layer front) × FollowsConstant rest)
chain_waits front rest is h = waits_at (PendingOf-F.Chain front rest) (ap layer is ∙ chain_layer front rest) h

-- a chain that begins with a constant
pub behind_constant : {x : PendingOf GoType} (at : Pos) (value : Constant) (rune : Bool) (rest : List (PendingOperationOf GoType)) → x ≡ p.Chain (p.Constant at value rune) rest → IsWaiting x → FollowsConstant rest
behind_constant at value rune rest is h = elim (chain_waits (p.Constant at value rune) rest is h) [ inl it ↦ absurd (no_constant at value rune refl it.0) | inr it ↦ it.1 ]

-- what stands for a constant is one
module _ (table : Table) where
  constant_at : {x : PendingOf TypeRef} {y : PendingOf GoType} → PendingStands table x y → IsConstant (layer y) → (at : Pos) × (value : Constant) × (rune : Bool) × (x ≡ p.Constant at value rune)
  constant_at (pending.constant at value rune is y_is) constant = (at, value, rune, is)
  constant_at (pending.comparison {r = r} {s = s} {from = from} {to = to} {a = a} {b = b} {c = c} {d = d} at operator is y_is operands boxed left right) constant = absurd (subst IsConstant (ap layer y_is ∙ comparison_layer at operator s to b d) constant)
  constant_at (pending.unary {a = a} {b = b} at operator is y_is h) constant = absurd (subst IsConstant (ap layer y_is ∙ unary_layer at operator b) constant)
  constant_at (pending.chain {a = a} {b = b} {ps = ps} {qs = qs} is y_is h hs) constant = absurd (subst IsConstant (ap layer y_is ∙ chain_layer b qs) constant)

  pub no_constant_stands : {x : PendingOf TypeRef} {y : PendingOf GoType} → PendingStands table x y → ((at : Pos) (value : Constant) (rune : Bool) → x ≡ p.Constant at value rune → ⊥) → (at : Pos) (value : Constant) (rune : Bool) → y ≡ p.Constant at value rune → ⊥
  no_constant_stands h not at value rune is = let k = constant_at h (constant_here at value rune is) in not k.0 k.1 k.2 k.3

  -- a chain that begins otherwise
  pub front_waits : {x : PendingOf TypeRef} {z : PendingOf GoType} (y : PendingOf GoType) (rest : List (PendingOperationOf GoType)) → y ≡ p.Chain z rest → IsWaiting y → PendingStands table x z → ((at : Pos) (value : Constant) (rune : Bool) → x ≡ p.Constant at value rune → ⊥) → IsWaiting z × MayFollow rest
  front_waits {x} {z} y rest is h stands not = elim (chain_waits z rest is h) [ inl it ↦ it | inr it ↦ (let k = constant_at stands it.0 in absurd (not k.0 k.1 k.2 k.3)) ]

  -- an operand on the right that is no constant
  pub right_waits : {x : PendingOf TypeRef} {right : PendingOf GoType} {operation : PendingOperationOf GoType} {rest : List (PendingOperationOf GoType)} (at : Pos) (operator : BinaryOperator) → operation ≡ o.Operand at operator right → MayFollow (operation ∷ rest) → PendingStands table x right → ((at : Pos) (value : Constant) (rune : Bool) → x ≡ p.Constant at value rune → ⊥) → IsWaiting right
  right_waits {right = right} at operator is (follow.constant at' operator' right_at value rune e hs) stands not =
      let same : right ≡ p.Constant right_at value rune = cc in
      let k = constant_at stands (constant_here right_at value rune same) in
      absurd (not k.0 k.1 k.2 k.3)
  right_waits {right = right} at operator is (follow.operand at' operator' right' e h hs) stands not = let same : right' ≡ right = cc in subst IsWaiting same h
  right_waits at operator is (follow.count at' operator' count e hs) stands not = absurd (cc)

-- the operations behind the first one
pub more_follow : {operation : PendingOperationOf GoType} {rest : List (PendingOperationOf GoType)} → MayFollow (operation ∷ rest) → MayFollow rest
more_follow (follow.constant at operator right_at value rune e hs) = hs
more_follow (follow.operand at operator right e h hs) = hs
more_follow (follow.count at operator count e hs) = hs
