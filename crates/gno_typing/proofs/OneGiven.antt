-- Each value that is given to a place has one verdict.
use Rattle.std.proofs.Common.{◌≡◌, sym, ap, ◌∙◌, subst, ℕ, List, [], ◌∷◌, Option, Some, None, Bool, true, false, inl, inr, ◌⊎◌}
use Rattle.std.specs.Prelude.{⊤}
use Rattle.gno_base.specs.declared.kind.Kind.{Kind}
use Rattle.gno_base.specs.declared.kind.Kind.TheVariants as k
use Rattle.gno_scan.specs.declared.token.Pos.{Pos}
use Rattle.gno_terms.specs.declared.term.GoType.{GoType}
use Rattle.gno_terms.specs.Lawful.{is_untyped}
use Rattle.gno_terms.specs.Terms.{term_of}
use Rattle.gno_terms.specs.Tables.{Table}
use Rattle.gno_constants.specs.declared.constant.Constant.{Constant}
use Rattle.gno_tree.specs.declared.operator.BinaryOperator.{BinaryOperator}
use Rattle.gno_tree.specs.declared.operator.UnaryOperator.{UnaryOperator}
use Rattle.gno_typed.specs.declared.expr.TypedExprOf.{TypedExprOf}
use Rattle.gno_typed.specs.declared.expr.TypedExprOf.TheVariants as w
use Rattle.gno_assignability.specs.Assignability.{IsValue}
use Rattle.gno_typing.specs.Classes.{IsRepresentable, basic}
use Rattle.gno_typing.specs.Forms.{closed, with_operation}
use Rattle.gno_typing.specs.Giving.{InType, AreDefaulted, AreDefaults, AreGiven, IsBeside, IsDefaultConstant, IsDefaulted, IsGiven, both, constant_given, constant_of, default_of, given, held, in_one_type, in_type, joined_by, made, pending_given, shifted_by, typed_given}
use Rattle.gno_typing.specs.Giving.{IsGiven as g}
use Rattle.gno_typing.specs.Giving.{AreGiven as gs}
use Rattle.gno_typing.specs.Giving.{IsDefaulted as d}
use Rattle.gno_typing.specs.Giving.{AreDefaulted as ds}
use Rattle.gno_typing.specs.Giving.{IsBeside as i}
use Rattle.gno_typing.specs.Giving.{AreDefaults as two}
use Rattle.gno_typing.specs.Laws.{HasOne}
use Rattle.gno_typing.specs.Verdicts.{Verdict, After, AfterBoth, good, unjudged, wants}
use Rattle.gno_typing.specs.declared.form.FormOf.{FormOf}
use Rattle.gno_typing.specs.declared.form.FormOf.TheVariants as f
use Rattle.gno_typing.specs.declared.pending.PendingOf.{PendingOf, out-PendingOf, out-roll-PendingOf}
use Rattle.gno_typing.specs.declared.pending.PendingOf.TheOpen.{PendingOf-F}
use Rattle.gno_typing.specs.declared.pending.PendingOf.TheVariants as p
use Rattle.gno_typing.specs.declared.pending.PendingOperationOf.{PendingOperationOf}
use Rattle.gno_typing.specs.declared.pending.PendingOperationOf.TheVariants as o
use Rattle.gno_typing.specs.declared.value.ValueOf.{ValueOf}
use Rattle.gno_typing.specs.declared.value.ValueOf.TheVariants as v
use Rattle.gno_typing.specs.declared.value.Waits.{Waits}
use Rattle.gno_typing.specs.declared.value.Waits.TheVariants as waits
use Rattle.gno_typing.proofs.OneParts.{after_both_one, after_one, good_one, wants_one, where_one}

-- ---- what a value that waits is made of

abbrev Layer : Type 0
Layer = PendingOf-F GoType (PendingOf GoType) (PendingOperationOf GoType)

abbrev layer : PendingOf GoType → Layer
layer x = out-PendingOf GoType x

comparison_layer : (pos : Pos) (operator : BinaryOperator) (operands : GoType) (boxed : Option GoType) (left : FormOf GoType) (right : TypedExprOf GoType) → layer (p.Comparison pos operator operands boxed left right) ≡ PendingOf-F.Comparison pos operator operands boxed left right
comparison_layer pos operator operands boxed left right = ap layer (sym (p.rolls-Comparison pos operator operands boxed left right)) ∙ out-roll-PendingOf GoType _

constant_layer : (pos : Pos) (value : Constant) (rune : Bool) → layer (p.Constant pos value rune) ≡ PendingOf-F.Constant pos value rune
constant_layer pos value rune = ap layer (sym (p.rolls-Constant pos value rune)) ∙ out-roll-PendingOf GoType _

unary_layer : (pos : Pos) (operator : UnaryOperator) (operand : PendingOf GoType) → layer (p.Unary pos operator operand) ≡ PendingOf-F.Unary pos operator operand
unary_layer pos operator operand = ap layer (sym (p.rolls-Unary pos operator operand)) ∙ out-roll-PendingOf GoType _

chain_layer : (first : PendingOf GoType) (rest : List (PendingOperationOf GoType)) → layer (p.Chain first rest) ≡ PendingOf-F.Chain first rest
chain_layer first rest = ap layer (sym (p.rolls-Chain first rest)) ∙ out-roll-PendingOf GoType _

abbrev IsConstant : Layer → Type 0
IsConstant (PendingOf-F.Constant pos value rune) = ⊤
IsConstant _ = ⊥

-- it is what it is equal to
pub same_one : {A : Type 0} (x : A) (v w : A) → v ≡ x → w ≡ x → v ≡ w
same_one x v w is also = is ∙ sym also

module _ (table : Table) where
  -- ---- in a type that is given

  abbrev GivenBy : GoType → Layer → Verdict (FormOf GoType) → Type 0
  GivenBy u (PendingOf-F.Comparison pos operator operands boxed left right) y = good (with_operation left (record { pos = pos; of = u; operator = operator; operands = operands; boxed = boxed; operand = right })) y
  GivenBy u (PendingOf-F.Constant pos value rune) y = wants (IsRepresentable table value u) 43 pos (good (f.Whole (w.Constant pos u value))) y
  GivenBy u (PendingOf-F.Unary pos operator operand) y = (z : Verdict (FormOf GoType)) × IsGiven table u operand z × (y ≡ made (λ a. f.Whole (w.Unary pos u operator (closed a))) z)
  GivenBy u (PendingOf-F.Chain first rest) y = (z : Verdict (FormOf GoType)) × IsGiven table u first z × AreGiven table u z rest y

  given_by : {u : GoType} {x : PendingOf GoType} {y : Verdict (FormOf GoType)} → IsGiven table u x y → GivenBy u (layer x) y
  given_by {u} {x} {y} (g.comparison pos operator operands boxed left right is judged) = subst (λ l. GivenBy u l y) (sym (ap layer is ∙ comparison_layer pos operator operands boxed left right)) judged
  given_by {u} {x} {y} (g.constant pos value rune is judged) = subst (λ l. GivenBy u l y) (sym (ap layer is ∙ constant_layer pos value rune)) judged
  given_by {u} {x} {y} (g.unary pos operator operand is z inner y_is) = subst (λ l. GivenBy u l y) (sym (ap layer is ∙ unary_layer pos operator operand)) (z, inner, y_is)
  given_by {u} {x} {y} (g.chain first rest is z inner behind) = subst (λ l. GivenBy u l y) (sym (ap layer is ∙ chain_layer first rest)) (z, inner, behind)

  given_at : {u : GoType} {x : PendingOf GoType} {y : Verdict (FormOf GoType)} (l : Layer) → layer x ≡ l → IsGiven table u x y → GivenBy u l y
  given_at {u} {x} {y} l is it = subst (λ m. GivenBy u m y) is (given_by it)

  abbrev AreGivenBy : GoType → Verdict (FormOf GoType) → List (PendingOperationOf GoType) → Verdict (FormOf GoType) → Type 0
  AreGivenBy u x [] y = y ≡ x
  AreGivenBy u x (o.Operand pos operator right ∷ os) y = (z : Verdict (FormOf GoType)) × IsGiven table u right z × AreGiven table u (both (joined_by u pos operator) x z) os y
  AreGivenBy u x (o.Count pos operator count ∷ os) y = AreGiven table u (made (λ a. shifted_by u pos operator a count) x) os y

  are_given_by : {u : GoType} {x y : Verdict (FormOf GoType)} {os : List (PendingOperationOf GoType)} → AreGiven table u x os y → AreGivenBy u x os y
  are_given_by (gs.none y_is) = y_is
  are_given_by (gs.operand pos operator right z inner more) = (z, inner, more)
  are_given_by (gs.count pos operator count more) = more

  mutual
    pub given_once : {u : GoType} {x : PendingOf GoType} {y z : Verdict (FormOf GoType)} → IsGiven table u x y → IsGiven table u x z → y ≡ z
    given_once {u} (g.comparison pos operator operands boxed left right is judged) other = judged ∙ sym (given_at {u = u} (PendingOf-F.Comparison pos operator operands boxed left right) (ap layer is ∙ comparison_layer pos operator operands boxed left right) other)
    given_once {u} (g.constant pos value rune is judged) other = wants_one _ 43 pos _ (good_one _) _ _ judged (given_at {u = u} (PendingOf-F.Constant pos value rune) (ap layer is ∙ constant_layer pos value rune) other)
    given_once {u} (g.unary pos operator operand is z inner y_is) other =
        let it = given_at {u = u} (PendingOf-F.Unary pos operator operand) (ap layer is ∙ unary_layer pos operator operand) other in
        y_is ∙ ap (made (λ a. f.Whole (w.Unary pos u operator (closed a)))) (given_once inner it.1) ∙ sym it.2
    given_once {u} (g.chain first rest is z inner behind) other =
        let it = given_at {u = u} (PendingOf-F.Chain first rest) (ap layer is ∙ chain_layer first rest) other in
        are_given_once behind (given_once inner it.1) it.2

    pub are_given_once : {u : GoType} {x y v z : Verdict (FormOf GoType)} {os : List (PendingOperationOf GoType)} → AreGiven table u x os y → x ≡ v → AreGiven table u v os z → y ≡ z
    are_given_once (gs.none y_is) same other = y_is ∙ same ∙ sym (are_given_by other)
    are_given_once {u} {x} {y} {v} (gs.operand pos operator right z inner more) same other =
        let it = are_given_by other in
        are_given_once more (ap (λ a. both (joined_by u pos operator) a z) same ∙ ap (both (joined_by u pos operator) v) (given_once inner it.1)) it.2
    are_given_once {u} (gs.count pos operator count more) same other = are_given_once more (ap (made (λ a. shifted_by u pos operator a count)) same) (are_given_by other)

  -- ---- in no type that is given

  abbrev BesideBy : PendingOf GoType → Option InType → Verdict InType → Type 0
  BesideBy x None y = unjudged y
  BesideBy x (Some other) y = (z : Verdict (FormOf GoType)) × IsGiven table other.of x z × (y ≡ made (in_type other.of) z)

  beside_by : {x : PendingOf GoType} {other : Option InType} {y : Verdict InType} → IsBeside table x other y → BesideBy x other y
  beside_by (i.unknown judged) = judged
  beside_by (i.known other z inner y_is) = (z, inner, y_is)

  beside_cases : (x : PendingOf GoType) (other : Option InType) → HasOne (BesideBy x other)
  beside_cases x None y z is also = is ∙ sym also
  beside_cases x (Some other) y z is also = is.2 ∙ ap (made (in_type other.of)) (given_once is.1 also.1) ∙ sym also.2

  beside_once : {x : PendingOf GoType} {other : Option InType} {y z : Verdict InType} → IsBeside table x other y → IsBeside table x other z → y ≡ z
  beside_once {x} {other} is also = beside_cases x other _ _ (beside_by is) (beside_by also)

  -- beside the same
  beside_same : {x : PendingOf GoType} {a b : Verdict InType} {y z : Verdict InType} → a ≡ b → IsBeside table x a.form y → IsBeside table x b.form z → y ≡ z
  beside_same {x} {a} {b} {y} same is also = beside_once (subst (λ c. IsBeside table x c.form y) same is) also

  -- a shift of a constant, or a constant on the left of a value that waits
  abbrev ConstantBy : PendingOf GoType → Layer → List (PendingOperationOf GoType) → Verdict InType → Type 0
  ConstantBy first (PendingOf-F.Constant first_pos value rune) (o.Count pos operator count ∷ rest) y = (z : Verdict (FormOf GoType)) × IsGiven table (default_of rune) first z × AreDefaulted table (made (λ a. in_type (default_of rune) (shifted_by (default_of rune) pos operator a count)) z) rest y
  ConstantBy first (PendingOf-F.Constant first_pos value rune) (o.Operand pos operator right ∷ rest) y = (z : Verdict InType) × IsDefaulted table right z × (left : Verdict InType) × IsBeside table first z.form left × AreDefaulted table (both (λ a c. in_type c.of (joined_by c.of pos operator a.form c.form)) left z) rest y
  ConstantBy first l rest y = ⊥

  is_constant : (first : PendingOf GoType) (l : Layer) (rest : List (PendingOperationOf GoType)) (y : Verdict InType) → ConstantBy first l rest y → IsConstant l
  is_constant first (PendingOf-F.Constant first_pos value rune) rest y it = tt
  is_constant first (PendingOf-F.Comparison pos operator operands boxed left right) rest y it = it
  is_constant first (PendingOf-F.Unary pos operator operand) rest y it = it
  is_constant first (PendingOf-F.Chain first_of rest_of) rest y it = it

  abbrev DefaultedBy : PendingOf GoType → Layer → Verdict InType → Type 0
  DefaultedBy x (PendingOf-F.Comparison pos operator operands boxed left right) y = (z : Verdict (FormOf GoType)) × IsGiven table (basic k.Bool) x z × (y ≡ made (in_type (basic k.Bool)) z)
  DefaultedBy x (PendingOf-F.Constant pos value rune) y = ⊥
  DefaultedBy x (PendingOf-F.Unary pos operator operand) y = (z : Verdict InType) × IsDefaulted table operand z × (y ≡ made (λ a. in_type a.of (f.Whole (w.Unary pos a.of operator (closed a.form)))) z)
  DefaultedBy x (PendingOf-F.Chain first rest) y = ((z : Verdict InType) × IsDefaulted table first z × AreDefaulted table z rest y) ⊎ ConstantBy first (layer first) rest y

  defaulted_by : {x : PendingOf GoType} {y : Verdict InType} → IsDefaulted table x y → DefaultedBy x (layer x) y
  defaulted_by {x} {y} (d.comparison pos operator operands boxed left right is z inner y_is) = subst (λ l. DefaultedBy x l y) (sym (ap layer is ∙ comparison_layer pos operator operands boxed left right)) (z, inner, y_is)
  defaulted_by {x} {y} (d.unary pos operator operand is z inner y_is) = subst (λ l. DefaultedBy x l y) (sym (ap layer is ∙ unary_layer pos operator operand)) (z, inner, y_is)
  defaulted_by {x} {y} (d.chain first rest is z inner behind) = subst (λ l. DefaultedBy x l y) (sym (ap layer is ∙ chain_layer first rest)) (inl (z, inner, behind))
  defaulted_by {x} {y} (d.shifted first_pos value rune pos operator count rest is z inner behind) =
      let first = p.Constant first_pos value rune in
      let more = o.Count pos operator count ∷ rest in
      subst (λ l. DefaultedBy x l y) (sym (ap layer is ∙ chain_layer first more)) (inr (subst (λ l. ConstantBy first l more y) (sym (constant_layer first_pos value rune)) (z, inner, behind)))
  defaulted_by {x} {y} (d.beside first_pos value rune pos operator right rest is z inner left beside behind) =
      let first = p.Constant first_pos value rune in
      let more = o.Operand pos operator right ∷ rest in
      subst (λ l. DefaultedBy x l y) (sym (ap layer is ∙ chain_layer first more)) (inr (subst (λ l. ConstantBy first l more y) (sym (constant_layer first_pos value rune)) (z, inner, left, beside, behind)))

  defaulted_at : {x : PendingOf GoType} {y : Verdict InType} (l : Layer) → layer x ≡ l → IsDefaulted table x y → DefaultedBy x l y
  defaulted_at {x} {y} l is it = subst (λ m. DefaultedBy x m y) is (defaulted_by it)

  -- a constant alone takes no default here
  no_constant_at : (x : PendingOf GoType) (l : Layer) (y : Verdict InType) → DefaultedBy x l y → IsConstant l → ⊥
  no_constant_at x (PendingOf-F.Constant pos value rune) y it constant = it
  no_constant_at x (PendingOf-F.Comparison pos operator operands boxed left right) y it constant = constant
  no_constant_at x (PendingOf-F.Unary pos operator operand) y it constant = constant
  no_constant_at x (PendingOf-F.Chain first rest) y it constant = constant

  no_constant : {x : PendingOf GoType} {y : Verdict InType} → IsDefaulted table x y → IsConstant (layer x) → ⊥
  no_constant {x} {y} it constant = no_constant_at x (layer x) y (defaulted_by it) constant

  constant_here : (pos : Pos) (value : Constant) (rune : Bool) → IsConstant (layer (p.Constant pos value rune))
  constant_here pos value rune = subst IsConstant (sym (constant_layer pos value rune)) tt

  constant_is : {x : PendingOf GoType} (pos : Pos) (value : Constant) (rune : Bool) → x ≡ p.Constant pos value rune → IsConstant (layer x)
  constant_is pos value rune is = subst (λ a. IsConstant (layer a)) (sym is) (constant_here pos value rune)

  abbrev AreDefaultedBy : Verdict InType → List (PendingOperationOf GoType) → Verdict InType → Type 0
  AreDefaultedBy x [] y = y ≡ x
  AreDefaultedBy x (o.Count pos operator count ∷ os) y = AreDefaulted table (made (λ a. in_type a.of (shifted_by a.of pos operator a.form count)) x) os y
  AreDefaultedBy x (o.Operand pos operator right ∷ os) y =
      (IsConstant (layer right) × (z : Verdict InType) × IsBeside table right x.form z × AreDefaulted table (both (λ a c. in_type a.of (joined_by a.of pos operator a.form c.form)) x z) os y)
      ⊎ ((z : Verdict InType) × IsDefaulted table right z × (next : Verdict InType) × AfterBoth (λ a. a ≡ x) (λ a. a ≡ z) (in_one_type pos operator) next × AreDefaulted table next os y)

  are_defaulted_by : {x y : Verdict InType} {os : List (PendingOperationOf GoType)} → AreDefaulted table x os y → AreDefaultedBy x os y
  are_defaulted_by (ds.none y_is) = y_is
  are_defaulted_by (ds.constant pos operator right_pos value rune z beside behind) = inl (constant_here right_pos value rune, z, beside, behind)
  are_defaulted_by (ds.operand pos operator right z inner next made_next behind) = inr (z, inner, next, made_next, behind)
  are_defaulted_by (ds.count pos operator count behind) = behind

  next_once : (pos : Pos) (operator : BinaryOperator) {x v z y next after : Verdict InType} → x ≡ v → z ≡ y → AfterBoth (λ a. a ≡ x) (λ a. a ≡ z) (in_one_type pos operator) next → AfterBoth (λ a. a ≡ v) (λ a. a ≡ y) (in_one_type pos operator) after → next ≡ after
  next_once pos operator {x} {v} {z} {y} {next} {after} same also it other =
      after_both_one (λ a. a ≡ v) (λ a. a ≡ y) (in_one_type pos operator) (same_one v) (same_one y) (λ a b. wants_one _ 47 pos _ (good_one _)) next after
      (subst (λ c. AfterBoth (λ a. a ≡ v) (λ a. a ≡ c) (in_one_type pos operator) next) also (subst (λ c. AfterBoth (λ a. a ≡ c) (λ a. a ≡ z) (in_one_type pos operator) next) same it)) other

  mutual
    pub defaulted_once : {x : PendingOf GoType} {y z : Verdict InType} → IsDefaulted table x y → IsDefaulted table x z → y ≡ z
    defaulted_once (d.comparison pos operator operands boxed left right is z inner y_is) other =
        let it = defaulted_at (PendingOf-F.Comparison pos operator operands boxed left right) (ap layer is ∙ comparison_layer pos operator operands boxed left right) other in
        y_is ∙ ap (made (in_type (basic k.Bool))) (given_once inner it.1) ∙ sym it.2
    defaulted_once (d.unary pos operator operand is z inner y_is) other =
        let it = defaulted_at (PendingOf-F.Unary pos operator operand) (ap layer is ∙ unary_layer pos operator operand) other in
        y_is ∙ ap (made (λ a. in_type a.of (f.Whole (w.Unary pos a.of operator (closed a.form))))) (defaulted_once inner it.1) ∙ sym it.2
    defaulted_once (d.chain first rest is z inner behind) other =
        elim (defaulted_at (PendingOf-F.Chain first rest) (ap layer is ∙ chain_layer first rest) other) [
          | inl it ↦ are_defaulted_once behind (defaulted_once inner it.1) it.2
          | inr it ↦ absurd (no_constant inner (is_constant first (layer first) rest _ it))
        ]
    defaulted_once {x} {y} {z} (d.shifted first_pos value rune pos operator count rest is shift inner behind) other =
        let first = p.Constant first_pos value rune in
        let more = o.Count pos operator count ∷ rest in
        elim (defaulted_at (PendingOf-F.Chain first more) (ap layer is ∙ chain_layer first more) other) [
          | inl it ↦ absurd (no_constant it.1 (constant_here first_pos value rune))
          | inr it ↦ (let also = subst (λ l. ConstantBy first l more z) (constant_layer first_pos value rune) it in
              are_defaulted_once behind (ap (made (λ a. in_type (default_of rune) (shifted_by (default_of rune) pos operator a count))) (given_once inner also.1)) also.2)
        ]
    defaulted_once {x} {y} {z} (d.beside first_pos value rune pos operator right rest is other_side inner left beside behind) other =
        let first = p.Constant first_pos value rune in
        let more = o.Operand pos operator right ∷ rest in
        elim (defaulted_at (PendingOf-F.Chain first more) (ap layer is ∙ chain_layer first more) other) [
          | inl it ↦ absurd (no_constant it.1 (constant_here first_pos value rune))
          | inr it ↦ (let also = subst (λ l. ConstantBy first l more z) (constant_layer first_pos value rune) it in
              let same = defaulted_once inner also.1 in
              are_defaulted_once behind (ap (λ b. both (λ a c. in_type c.of (joined_by c.of pos operator a.form c.form)) left b) same ∙ ap (λ b. both (λ a c. in_type c.of (joined_by c.of pos operator a.form c.form)) b also.0) (beside_same same beside also.3)) also.4)
        ]

    pub are_defaulted_once : {x y v z : Verdict InType} {os : List (PendingOperationOf GoType)} → AreDefaulted table x os y → x ≡ v → AreDefaulted table v os z → y ≡ z
    are_defaulted_once (ds.none y_is) same other = y_is ∙ same ∙ sym (are_defaulted_by other)
    are_defaulted_once {x} {y} {v} (ds.constant pos operator right_pos value rune z beside behind) same other =
        elim (are_defaulted_by other) [
          | inl it ↦ are_defaulted_once behind (ap (λ b. both (λ a c. in_type a.of (joined_by a.of pos operator a.form c.form)) b z) same ∙ ap (both (λ a c. in_type a.of (joined_by a.of pos operator a.form c.form)) v) (beside_same same beside it.2)) it.3
          | inr it ↦ absurd (no_constant it.1 (constant_here right_pos value rune))
        ]
    are_defaulted_once (ds.operand pos operator right z inner next made_next behind) same other =
        elim (are_defaulted_by other) [
          | inl it ↦ absurd (no_constant inner it.0)
          | inr it ↦ are_defaulted_once behind (next_once pos operator same (defaulted_once inner it.1) made_next it.3) it.4
        ]
    are_defaulted_once (ds.count pos operator count behind) same other = are_defaulted_once behind (ap (made (λ a. in_type a.of (shifted_by a.of pos operator a.form count))) same) (are_defaulted_by other)

  pub defaults_once : {l r : PendingOf GoType} {x y v z : Verdict InType} → AreDefaults table l r x y → AreDefaults table l r v z → (x ≡ v) × (y ≡ z)
  defaults_once (two.constant_left pos value rune is right beside) (two.constant_left pos' value' rune' is' right' beside') = let same = defaulted_once right right' in (beside_same same beside beside', same)
  defaults_once (two.constant_left pos value rune is right beside) (two.constant_right pos' value' rune' is' left' beside') = absurd (no_constant left' (constant_is pos value rune is))
  defaults_once (two.constant_left pos value rune is right beside) (two.neither left' right') = absurd (no_constant left' (constant_is pos value rune is))
  defaults_once (two.constant_right pos value rune is left beside) (two.constant_left pos' value' rune' is' right' beside') = absurd (no_constant right' (constant_is pos value rune is))
  defaults_once (two.constant_right pos value rune is left beside) (two.constant_right pos' value' rune' is' left' beside') = let same = defaulted_once left left' in (same, beside_same same beside beside')
  defaults_once (two.constant_right pos value rune is left beside) (two.neither left' right') = absurd (no_constant right' (constant_is pos value rune is))
  defaults_once (two.neither left right) (two.constant_left pos' value' rune' is' right' beside') = absurd (no_constant left (constant_is pos' value' rune' is'))
  defaults_once (two.neither left right) (two.constant_right pos' value' rune' is' left' beside') = absurd (no_constant right (constant_is pos' value' rune' is'))
  defaults_once (two.neither left right) (two.neither left' right') = (defaulted_once left left', defaulted_once right right')

  pub given_as : (u : GoType) (x : PendingOf GoType) → HasOne (IsGiven table u x)
  given_as u x y z it also = given_once it also

  pub defaulted_as : (x : PendingOf GoType) → HasOne (IsDefaulted table x)
  defaulted_as x y z it also = defaulted_once it also

  -- ---- values in their places

  typed_one : (code : ℕ) (at : Pos) (u s : GoType) (form : FormOf GoType) → HasOne (typed_given table code at u s form)
  typed_one code at u s form = wants_one _ code at _ (where_one _ _ _ (good_one _) (good_one _))

  pub held_one : (code : ℕ) (at : Pos) (u : GoType) (x : InType) → HasOne (held table code at u x)
  held_one code at u x = wants_one _ code at _ (good_one _)

  same_kind : {a b : Kind} → Some a ≡ Some b → a ≡ b
  same_kind e = cc

  pub default_one : (pos : Pos) (s : GoType) (x : Constant) → HasOne (IsDefaultConstant table pos s x)
  default_one pos s x v z it also =
      let same = same_kind (sym it.default ∙ also.default) in
      wants_one _ 43 pos _ (good_one _) v z (subst (λ (kind : Kind). wants (IsValue x kind) 43 pos (good (in_type (basic kind) (f.Whole (w.Constant pos (basic kind) x)))) v) same it.verdict) also.verdict

  pub held_constant_one : (code : ℕ) (at : Pos) (u : GoType) (pos : Pos) (s : GoType) (x : Constant) → HasOne (After (IsDefaultConstant table pos s x) (held table code at u))
  held_constant_one code at u pos s x = after_one _ _ (default_one pos s x) (held_one code at u)

  constant_one : (code : ℕ) (at : Pos) (u : GoType) (pos : Pos) (s : GoType) (x : Constant) → HasOne (constant_given table code at u pos s x)
  constant_one code at u pos s x = where_one _ _ _ (held_constant_one code at u pos s x) (wants_one _ code at _ (wants_one _ 43 pos _ (good_one _)))

  pub pending_one : (code : ℕ) (at : Pos) (u : GoType) (needs : Waits) (x : PendingOf GoType) → HasOne (pending_given table code at u needs x)
  pending_one code at u waits.Boolean x = where_one _ _ _ (after_one _ _ (defaulted_as x) (held_one code at u)) (wants_one _ code at _ (given_as u x))
  pending_one code at u (waits.Integer shift) x = where_one _ _ _ (after_one _ _ (defaulted_as x) (held_one code at u)) (wants_one _ 46 shift _ (given_as u x))

  by_untyped : (untyped : Bool) (code : ℕ) (at : Pos) (u : GoType) (pos : Pos) (s : GoType) (x : Constant) → HasOne (constant_of untyped table code at u pos s x)
  by_untyped true code at u pos s x = constant_one code at u pos s x
  by_untyped false code at u pos s x = typed_one code at u s _

  pub given_one : (code : ℕ) (at : Pos) (u : GoType) (x : ValueOf GoType) → HasOne (given table code at u x)
  given_one code at u (v.Constant pos s x) = by_untyped (is_untyped (term_of s)) code at u pos s x
  given_one code at u (v.Nil pos) = wants_one _ code at _ (good_one _)
  given_one code at u (v.Typed pos s stands calls form) = typed_one code at u s form
  given_one code at u (v.Pending pos needs calls form) = pending_one code at u needs form
