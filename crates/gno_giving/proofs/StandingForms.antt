-- What stands for a form stands for it when it grows.
use Rattle.std.proofs.Common.{◌≡◌, refl, sym, ap, ◌∙◌, subst, List, [], ◌∷◌, ◌++◌}
use Rattle.gno_judging.specs.Found.{FormStands}
use Rattle.gno_judging.specs.Found.{FormStands as form}
use Rattle.gno_judging.specs.Stands.{LogicStands, OperationsStand, StepStands, StepsStand, Stands}
use Rattle.gno_judging.specs.Stands.{LogicStands as logic, OperationsStand as operations, StepsStand as steps, Stands as stands}
use Rattle.gno_terms.specs.Tables.{Is, Table}
use Rattle.gno_terms.specs.declared.term.GoType.{GoType}
use Rattle.gno_terms.specs.declared.term.TypeRef.{TypeRef}
use Rattle.gno_typed.specs.declared.expr.TypedExprOf.{TypedExprOf}
use Rattle.gno_typed.specs.declared.operation.LogicOperationOf.{LogicOperationOf}
use Rattle.gno_typed.specs.declared.operation.OperationOf.{OperationOf}
use Rattle.gno_typed.specs.declared.step.TypedStepOf.{TypedStepOf}
use Rattle.gno_typing.specs.Forms.{closed, with_logic, with_operation, with_step}
use Rattle.gno_typing.specs.declared.form.FormOf.{FormOf}
use Rattle.gno_typing.specs.declared.form.FormOf.TheVariants as f

module _ (table : Table) where
  more_operations : (xs : List (OperationOf TypeRef)) (ys : List (OperationOf GoType)) (os : List (OperationOf TypeRef)) (ps : List (OperationOf GoType)) → OperationsStand table xs ys → OperationsStand table os ps → OperationsStand table (xs ++ os) (ys ++ ps)
  more_operations _ _ os ps operations.no_operation more = more
  more_operations _ _ os ps (operations.one_operation at of operator operands boxed h hs) more = operations.one_operation at of operator operands boxed h (more_operations _ _ os ps hs more)

  more_logic : (xs : List (LogicOperationOf TypeRef)) (ys : List (LogicOperationOf GoType)) (os : List (LogicOperationOf TypeRef)) (ps : List (LogicOperationOf GoType)) → LogicStands table xs ys → LogicStands table os ps → LogicStands table (xs ++ os) (ys ++ ps)
  more_logic _ _ os ps logic.no_logic more = more
  more_logic _ _ os ps (logic.one_logic at operator h hs) more = logic.one_logic at operator h (more_logic _ _ os ps hs more)

  more_steps : (xs : List (TypedStepOf TypeRef)) (ys : List (TypedStepOf GoType)) (os : List (TypedStepOf TypeRef)) (ps : List (TypedStepOf GoType)) → StepsStand table xs ys → StepsStand table os ps → StepsStand table (xs ++ os) (ys ++ ps)
  more_steps _ _ os ps steps.no_step more = more
  more_steps _ _ os ps (steps.one_step h hs) more = steps.one_step h (more_steps _ _ os ps hs more)

  pub closed_stands : (x : FormOf TypeRef) (y : FormOf GoType) → FormStands table x y → Stands table (closed x) (closed y)
  closed_stands _ _ (form.whole h) = h
  closed_stands _ _ (form.primary h hs) = stands.primary h hs
  closed_stands _ _ (form.binary h hs) = stands.binary h hs
  closed_stands _ _ (form.logic is h hs) = stands.logic is h hs

  pub with_operation_stands : (x : FormOf TypeRef) (y : FormOf GoType) (o : OperationOf TypeRef) (p : OperationOf GoType) → FormStands table x y → OperationsStand table (o ∷ []) (p ∷ []) → FormStands table (with_operation x o) (with_operation y p)
  with_operation_stands _ _ o p (form.whole h) more = form.binary h more
  with_operation_stands _ _ o p (form.primary h hs) more = form.binary (stands.primary h hs) more
  with_operation_stands _ _ o p (form.binary h hs) more = form.binary h (more_operations _ _ (o ∷ []) (p ∷ []) hs more)
  with_operation_stands _ _ o p (form.logic is h hs) more = form.binary (stands.logic is h hs) more

  pub with_logic_stands : (r : TypeRef) (s : GoType) (x : FormOf TypeRef) (y : FormOf GoType) (o : LogicOperationOf TypeRef) (p : LogicOperationOf GoType) → Is table r s → FormStands table x y → LogicStands table (o ∷ []) (p ∷ []) → FormStands table (with_logic r x o) (with_logic s y p)
  with_logic_stands r s _ _ o p it (form.whole h) more = form.logic it h more
  with_logic_stands r s _ _ o p it (form.primary h hs) more = form.logic it (stands.primary h hs) more
  with_logic_stands r s _ _ o p it (form.binary h hs) more = form.logic it (stands.binary h hs) more
  with_logic_stands r s _ _ o p it (form.logic is h hs) more = form.logic is h (more_logic _ _ (o ∷ []) (p ∷ []) hs more)

  pub with_step_stands : (x : FormOf TypeRef) (y : FormOf GoType) (o : TypedStepOf TypeRef) (p : TypedStepOf GoType) → FormStands table x y → StepStands table o p → FormStands table (with_step x o) (with_step y p)
  with_step_stands _ _ o p (form.whole h) more = form.primary h (steps.one_step more steps.no_step)
  with_step_stands _ _ o p (form.primary h hs) more = form.primary h (more_steps _ _ (o ∷ []) (p ∷ []) hs (steps.one_step more steps.no_step))
  with_step_stands _ _ o p (form.binary h hs) more = form.primary (stands.binary h hs) (steps.one_step more steps.no_step)
  with_step_stands _ _ o p (form.logic is h hs) more = form.primary (stands.logic is h hs) (steps.one_step more steps.no_step)

  -- of what is equal to it
  pub closed_by : (x : FormOf TypeRef) (r : TypedExprOf TypeRef) → r ≡ closed x → (y : FormOf GoType) → FormStands table x y → Stands table r (closed y)
  closed_by x r e y h = subst (λ z. Stands table z (closed y)) (sym e) (closed_stands x y h)

  pub with_operation_by : (x : FormOf TypeRef) (o : OperationOf TypeRef) (r : FormOf TypeRef) → r ≡ with_operation x o → (y : FormOf GoType) (p : OperationOf GoType) → FormStands table x y → OperationsStand table (o ∷ []) (p ∷ []) → FormStands table r (with_operation y p)
  with_operation_by x o r e y p h more = subst (λ z. FormStands table z (with_operation y p)) (sym e) (with_operation_stands x y o p h more)

  pub with_logic_by : (q : TypeRef) (x : FormOf TypeRef) (o : LogicOperationOf TypeRef) (r : FormOf TypeRef) → r ≡ with_logic q x o → (s : GoType) (y : FormOf GoType) (p : LogicOperationOf GoType) → Is table q s → FormStands table x y → LogicStands table (o ∷ []) (p ∷ []) → FormStands table r (with_logic s y p)
  with_logic_by q x o r e s y p is h more = subst (λ z. FormStands table z (with_logic s y p)) (sym e) (with_logic_stands q s x y o p is h more)

  pub with_step_by : (x : FormOf TypeRef) (o : TypedStepOf TypeRef) (r : FormOf TypeRef) → r ≡ with_step x o → (y : FormOf GoType) (p : TypedStepOf GoType) → FormStands table x y → StepStands table o p → FormStands table r (with_step y p)
  with_step_by x o r e y p h more = subst (λ z. FormStands table z (with_step y p)) (sym e) (with_step_stands x y o p h more)

-- forms that end otherwise
module _ {A : Type 0} where
  other_operation : (x : FormOf A) (o : OperationOf A) → ((first : TypedExprOf A) (rest : List (OperationOf A)) → x ≡ f.Binary first rest → ⊥) → f.Binary (closed x) (o ∷ []) ≡ with_operation x o
  other_operation (f.Binary first rest) o not = absurd (not first rest refl)
  other_operation (f.Whole x) o not = refl
  other_operation (f.Primary x xs) o not = refl
  other_operation (f.Logic of x xs) o not = refl

  other_logic : (of : A) (x : FormOf A) (o : LogicOperationOf A) → ((s : A) (first : TypedExprOf A) (rest : List (LogicOperationOf A)) → x ≡ f.Logic s first rest → ⊥) → f.Logic of (closed x) (o ∷ []) ≡ with_logic of x o
  other_logic of (f.Logic s first rest) o not = absurd (not s first rest refl)
  other_logic of (f.Whole x) o not = refl
  other_logic of (f.Primary x xs) o not = refl
  other_logic of (f.Binary x xs) o not = refl

  other_step : (x : FormOf A) (o : TypedStepOf A) → ((operand : TypedExprOf A) (steps : List (TypedStepOf A)) → x ≡ f.Primary operand steps → ⊥) → f.Primary (closed x) (o ∷ []) ≡ with_step x o
  other_step (f.Primary operand rest) o not = absurd (not operand rest refl)
  other_step (f.Whole x) o not = refl
  other_step (f.Binary x xs) o not = refl
  other_step (f.Logic of x xs) o not = refl

  pub new_operation : (x : FormOf A) (o : OperationOf A) (first : TypedExprOf A) (before rest : List (OperationOf A)) → ((first : TypedExprOf A) (rest : List (OperationOf A)) → x ≡ f.Binary first rest → ⊥) → first ≡ closed x → before ≡ [] → rest ≡ before ++ o ∷ [] → f.Binary first rest ≡ with_operation x o
  new_operation x o first before rest not c b r = ap (λ y. f.Binary y rest) c ∙ ap (f.Binary (closed x)) (r ∙ ap (λ l. l ++ o ∷ []) b) ∙ other_operation x o not

  pub new_logic : (of : A) (x : FormOf A) (o : LogicOperationOf A) (first : TypedExprOf A) (before rest : List (LogicOperationOf A)) → ((s : A) (first : TypedExprOf A) (rest : List (LogicOperationOf A)) → x ≡ f.Logic s first rest → ⊥) → first ≡ closed x → before ≡ [] → rest ≡ before ++ o ∷ [] → f.Logic of first rest ≡ with_logic of x o
  new_logic of x o first before rest not c b r = ap (λ y. f.Logic of y rest) c ∙ ap (f.Logic of (closed x)) (r ∙ ap (λ l. l ++ o ∷ []) b) ∙ other_logic of x o not

  pub new_step : (x : FormOf A) (o : TypedStepOf A) (operand : TypedExprOf A) (before rest : List (TypedStepOf A)) → ((operand : TypedExprOf A) (rest : List (TypedStepOf A)) → x ≡ f.Primary operand rest → ⊥) → operand ≡ closed x → before ≡ [] → rest ≡ before ++ o ∷ [] → f.Primary operand rest ≡ with_step x o
  new_step x o operand before rest not c b r = ap (λ y. f.Primary y rest) c ∙ ap (f.Primary (closed x)) (r ∙ ap (λ l. l ++ o ∷ []) b) ∙ other_step x o not
