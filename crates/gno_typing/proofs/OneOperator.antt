-- Each operator on values has one verdict.
use Rattle.std.proofs.Common.{◌≡◌, sym, ◌∙◌, subst, Bool, true, false, ◌||◌, Option, None, inl, inr}
use Rattle.gno_constants.specs.declared.constant.Constant.{Constant}
use Rattle.gno_constants.specs.Exact.{Exact}
use Rattle.gno_constants.specs.Exact.Exact.{Value, NoQuotient, NoShift, NotDefined}
use Rattle.gno_scan.specs.declared.token.Pos.{Pos}
use Rattle.gno_terms.specs.declared.term.GoType.{GoType}
use Rattle.gno_terms.specs.Lawful.{is_untyped}
use Rattle.gno_terms.specs.Normal.{Identical}
use Rattle.gno_terms.specs.Tables.{Table}
use Rattle.gno_terms.specs.Terms.{term_of}
use Rattle.gno_tree.specs.declared.operator.BinaryOperator.{BinaryOperator}
use Rattle.gno_tree.specs.declared.operator.UnaryOperator.{UnaryOperator}
use Rattle.gno_typed.specs.declared.expr.TypedExprOf.{TypedExprOf}
use Rattle.gno_embedding.specs.Walking.{HasOneDefinition}
use Rattle.gno_typing.specs.Laws.{HasOne}
use Rattle.gno_typing.specs.Forms.{closed}
use Rattle.gno_typing.specs.Giving.{InType}
use Rattle.gno_typing.specs.Verdicts.{Verdict, AfterBoth, good, wants}
use Rattle.gno_typing.specs.declared.pending.PendingOf.TheVariants as p
use Rattle.gno_typing.specs.Unary.{UnaryConstant, unary, unary_exact, worked_out}
use Rattle.gno_typing.specs.Binary.{Sort, ComparedDefaults, Compared, IsLeft, IsRight, calls_in, form_of, allowed_by, binary, by_sort, by_types, composed, composed_by, constant_beside, constant_shifted, counted, counted_constant, in_type, of_different, shift, shifted, typed_binary, untyped_binary, untyped_by, untyped_left, untyped_right, untyped_worked, with_nil, worked, is_comparing, is_equality, is_defined_for, is_typed, sort_of, type_in, untyped_in}
use Rattle.gno_typing.specs.Binary.Sort.{Arithmetic, Shifting, Comparing}
use Rattle.gno_typing.specs.declared.value.ValueOf.{ValueOf}
use Rattle.gno_typing.specs.declared.value.ValueOf.TheVariants as v
use Rattle.gno_typing.specs.declared.value.Waits.TheVariants as waits
use Rattle.gno_typing.proofs.OneParts.{after_both_one, after_one, bad_one, good_one, wants_one, where_one}
use Rattle.gno_typing.proofs.OneGiven.{defaults_once, given_as, held_constant_one, pending_one, same_one}
use Rattle.gno_typing.proofs.OneTypes.{underlying_once}

abbrev Rule : Type 1
Rule = Verdict (ValueOf GoType) → Type 0

module _ (table : Table) (place : Pos) where
  worked_out_one : (s : GoType) (x : Exact) → HasOne (worked_out table place s x)
  worked_out_one s (Value x) = wants_one _ 42 place _ (wants_one _ 43 place _ (good_one _))
  worked_out_one s NoQuotient = bad_one 44 place
  worked_out_one s NoShift = bad_one 45 place
  worked_out_one s NotDefined = bad_one 46 place

  module _ (one : HasOneDefinition table) where
    unary_constant_one : (operator : UnaryOperator) (s : GoType) (x : Constant) → HasOne (UnaryConstant table place operator s x)
    unary_constant_one operator s x y z it also =
        let same = underlying_once table one s it.underlying also.underlying it.by also.by in
        worked_out_one s _ y z (subst (λ u. worked_out table place s (unary_exact operator (term_of u) x) y) same it.verdict) also.verdict

    pub unary_one : (operator : UnaryOperator) (x : ValueOf GoType) → HasOne (unary table place operator x)
    unfolding unary
    unary_one operator (v.Constant at s x) = wants_one _ 46 place _ (unary_constant_one operator s x)
    unary_one operator (v.Nil at) = bad_one 46 place
    unary_one operator (v.Typed at s stands calls form) = wants_one _ 46 place _ (good_one _)
    unary_one operator (v.Pending at needs calls form) = wants_one _ 46 place _ (good_one _)

  module _ (operator : BinaryOperator) where
    allowed_one : (equality : Bool) (s t u : GoType) (J : Rule) → HasOne J → HasOne (allowed_by equality table place operator s t u J)
    allowed_one true s t u J h = wants_one _ 48 place J h
    allowed_one false s t u J h = wants_one _ 46 place J h

    right_once : (u : GoType) (r : ValueOf GoType) (x y : TypedExprOf GoType) → IsRight table u r x → IsRight table u r y → x ≡ y
    right_once u r x y (inl it) (inl also) = it.1 ∙ sym also.1
    right_once u r x y (inl it) (inr also) = absurd (also.0 it.0)
    right_once u r x y (inr it) (inl also) = absurd (it.0 also.0)
    right_once u r x y (inr it) (inr also) = it.1 ∙ sym also.1

    left_once : (u : GoType) (l : ValueOf GoType) (x y : Option GoType) → IsLeft table u l x → IsLeft table u l y → x ≡ y
    left_once u l x y (inl it) (inl also) = it.1 ∙ sym also.1
    left_once u l x y (inl it) (inr also) = absurd (also.0 it.0)
    left_once u l x y (inr it) (inl also) = absurd (it.0 also.0)
    left_once u l x y (inr it) (inr also) = it.1 ∙ sym also.1

    compared_values_one : (u : GoType) (l r : ValueOf GoType) → HasOne (Compared table place operator u l r)
    compared_values_one u l r y z it also =
        let left = left_once u l it.boxed also.boxed it.left also.left in
        let right = right_once u r it.right also.right it.right_is also.right_is in
        let made = λ (boxed : Option GoType) (x : TypedExprOf GoType). v.Pending place waits.Boolean (calls_in l || calls_in r) (p.Comparison place operator u boxed (form_of l) x) in
        good_one (made also.boxed also.right) y z (subst (λ b. good (made b also.right) y) left (subst (λ x. good (made it.boxed x) y) right it.verdict)) also.verdict

    composed_by_one : (comparing : Bool) (u : GoType) (l r : ValueOf GoType) → HasOne (composed_by comparing table place operator u l r)
    composed_by_one true u l r = compared_values_one u l r
    composed_by_one false u l r = good_one _

    composed_one : (u : GoType) (l r : ValueOf GoType) → HasOne (composed table place operator u l r)
    composed_one u l r = wants_one _ 44 place _ (composed_by_one (is_comparing operator) u l r)

    worked_one : (u : GoType) (l r : ValueOf GoType) → HasOne (worked table place operator u l r)
    worked_one u (v.Constant at s x) (v.Constant at_right t y) = worked_out_one _ _
    worked_one u (v.Constant at s x) (v.Nil a) = composed_one u _ _
    worked_one u (v.Constant at s x) (v.Typed a t stands calls form) = composed_one u _ _
    worked_one u (v.Constant at s x) (v.Pending a needs calls form) = composed_one u _ _
    worked_one u (v.Nil a) r = composed_one u _ _
    worked_one u (v.Typed a t stands calls form) r = composed_one u _ _
    worked_one u (v.Pending a needs calls form) r = composed_one u _ _

    in_type_one : (u : GoType) (l r : ValueOf GoType) → HasOne (in_type table place operator u l r)
    in_type_one u l r = allowed_one (is_equality operator) _ _ u _ (worked_one u l r)

    different_one : (comparing : Bool) (l r : ValueOf GoType) → HasOne (of_different comparing table place operator l r)
    different_one false l r = bad_one 47 place
    different_one true l r = where_one _ _ _ (in_type_one _ l r) (wants_one _ 47 place _ (in_type_one _ l r))

    typed_one : (l r : ValueOf GoType) → HasOne (typed_binary table place operator l r)
    typed_one l r = where_one _ _ _ (in_type_one _ l r) (different_one (is_comparing operator) l r)

    nil_one : (u : GoType) (J : Rule) → HasOne J → HasOne (with_nil table place operator u J)
    nil_one u J h = wants_one _ 47 place _ (wants_one _ 46 place J h)

    beside_one : (u : GoType) (at : Pos) (s : GoType) (x : Constant) (J : ValueOf GoType → Rule) → ((y : ValueOf GoType) → HasOne (J y)) → HasOne (constant_beside table place u at s x J)
    beside_one u at s x J h = where_one _ _ _ (after_one _ _ (held_constant_one table 47 place u at s x) (λ form. h _)) (wants_one _ 47 place _ (wants_one _ 43 at _ (h _)))

    right_one : (l r : ValueOf GoType) → HasOne (untyped_right table place operator l r)
    right_one l (v.Constant at s x) = beside_one _ at s x _ (λ y. typed_one l y)
    right_one l (v.Nil at) = nil_one _ _ (composed_one _ _ _)
    right_one l (v.Pending at needs calls form) = after_one _ _ (pending_one table 47 place (type_in l) needs form) (λ x. typed_one _ _)
    right_one l (v.Typed at s stands calls form) = typed_one _ _

    left_one : (l r : ValueOf GoType) → HasOne (untyped_left table place operator l r)
    left_one (v.Constant at s x) r = beside_one _ at s x _ (λ y. typed_one y r)
    left_one (v.Nil at) r = nil_one _ _ (composed_one _ _ _)
    left_one (v.Pending at needs calls form) r = after_one _ _ (pending_one table 47 place (type_in r) needs form) (λ x. typed_one _ _)
    left_one (v.Typed at s stands calls form) r = typed_one _ _

    compared_one : (l r : ValueOf GoType) → HasOne (ComparedDefaults table place operator l r)
    compared_one l r y z it also =
        let same = defaults_once table it.defaults also.defaults in
        let go = λ (a b : InType). wants (Identical a.of b.of) 47 place (good (v.Pending place waits.Boolean (calls_in l || calls_in r) (p.Comparison place operator a.of None a.form (closed b.form)))) in
        after_both_one (λ a. a ≡ also.left) (λ a. a ≡ also.right) go (same_one also.left) (same_one also.right) (λ a b. wants_one _ 47 place _ (good_one _)) y z
        (subst (λ x. AfterBoth (λ a. a ≡ also.left) (λ a. a ≡ x) go y) same.1 (subst (λ x. AfterBoth (λ a. a ≡ x) (λ a. a ≡ it.right) go y) same.0 it.verdict)) also.verdict

    untyped_by_one : (comparing : Bool) (l r : ValueOf GoType) → HasOne (untyped_by comparing table place operator l r)
    untyped_by_one true l r = compared_one l r
    untyped_by_one false l r = good_one _

    untyped_worked_one : (l r : ValueOf GoType) → HasOne (untyped_worked table place operator l r)
    untyped_worked_one (v.Constant at s x) (v.Constant at_right t y) = worked_out_one _ _
    untyped_worked_one (v.Constant at s x) (v.Nil a) = wants_one _ 44 place _ (untyped_by_one (is_comparing operator) _ _)
    untyped_worked_one (v.Constant at s x) (v.Typed a t stands calls form) = wants_one _ 44 place _ (untyped_by_one (is_comparing operator) _ _)
    untyped_worked_one (v.Constant at s x) (v.Pending a needs calls form) = wants_one _ 44 place _ (untyped_by_one (is_comparing operator) _ _)
    untyped_worked_one (v.Nil a) r = wants_one _ 44 place _ (untyped_by_one (is_comparing operator) _ _)
    untyped_worked_one (v.Typed a t stands calls form) r = wants_one _ 44 place _ (untyped_by_one (is_comparing operator) _ _)
    untyped_worked_one (v.Pending a needs calls form) r = wants_one _ 44 place _ (untyped_by_one (is_comparing operator) _ _)

    of_one_class : (l r : ValueOf GoType) → HasOne (wants (untyped_in l ≡ untyped_in r) 47 place (wants (is_defined_for (untyped_in l) operator ≡ true) 46 place (untyped_worked table place operator l r)))
    of_one_class l r = wants_one _ 47 place _ (wants_one _ 46 place _ (untyped_worked_one l r))

    untyped_one : (l r : ValueOf GoType) → HasOne (untyped_binary table place operator l r)
    untyped_one (v.Nil at) (v.Nil at_right) = bad_one 46 place
    untyped_one (v.Nil at) (v.Constant a s x) = of_one_class (v.Nil at) (v.Constant a s x)
    untyped_one (v.Nil at) (v.Typed a s stands calls form) = of_one_class (v.Nil at) (v.Typed a s stands calls form)
    untyped_one (v.Nil at) (v.Pending a needs calls form) = of_one_class (v.Nil at) (v.Pending a needs calls form)
    untyped_one (v.Constant a s x) r = of_one_class (v.Constant a s x) r
    untyped_one (v.Typed a s stands calls form) r = of_one_class (v.Typed a s stands calls form) r
    untyped_one (v.Pending a needs calls form) r = of_one_class (v.Pending a needs calls form) r

    counted_constant_one : (untyped : Bool) (at : Pos) (s : GoType) (x : Constant) → HasOne (counted_constant untyped table place at s x)
    counted_constant_one true at s x = wants_one _ 43 at _ (good_one _)
    counted_constant_one false at s x = good_one _

    counted_one : (r : ValueOf GoType) → HasOne (counted table place r)
    counted_one (v.Constant at s x) = wants_one _ 46 place _ (wants_one _ 45 place _ (counted_constant_one (is_untyped (term_of s)) at s x))
    counted_one (v.Nil at) = bad_one 46 place
    counted_one (v.Typed at s stands calls form) = wants_one _ 46 place _ (good_one _)
    counted_one (v.Pending at waits.Boolean calls form) = bad_one 46 place
    counted_one (v.Pending at (waits.Integer first) calls form) = after_one _ _ (given_as table _ _) (λ x. good_one _)

    constant_shifted_one : (untyped : Bool) (at : Pos) (s : GoType) (x : Constant) (calls : Bool) (count : TypedExprOf GoType) → HasOne (constant_shifted untyped place operator at s x calls count)
    constant_shifted_one true at s x calls count = good_one _
    constant_shifted_one false at s x calls count = good_one _

    shifted_one : (l r : ValueOf GoType) (count : TypedExprOf GoType) → HasOne (shifted table place operator l r count)
    shifted_one (v.Constant at s x) (v.Constant at_right t y) count = wants_one _ 46 place _ (worked_out_one _ _)
    shifted_one (v.Constant at s x) (v.Nil a) count = wants_one _ 46 place _ (constant_shifted_one (is_untyped (term_of s)) at s x _ count)
    shifted_one (v.Constant at s x) (v.Typed a t stands calls form) count = wants_one _ 46 place _ (constant_shifted_one (is_untyped (term_of s)) at s x _ count)
    shifted_one (v.Constant at s x) (v.Pending a needs calls form) count = wants_one _ 46 place _ (constant_shifted_one (is_untyped (term_of s)) at s x _ count)
    shifted_one (v.Nil at) r count = bad_one 46 place
    shifted_one (v.Typed at s stands calls form) r count = wants_one _ 46 place _ (good_one _)
    shifted_one (v.Pending at waits.Boolean calls form) r count = bad_one 46 place
    shifted_one (v.Pending at (waits.Integer first) calls form) r count = good_one _

    shift_one : (l r : ValueOf GoType) → HasOne (shift table place operator l r)
    shift_one l r = after_one _ _ (counted_one r) (shifted_one l r)

    by_types_one : (left right : Bool) (l r : ValueOf GoType) → HasOne (by_types left right table place operator l r)
    by_types_one true true l r = typed_one l r
    by_types_one true false l r = right_one l r
    by_types_one false true l r = left_one l r
    by_types_one false false l r = untyped_one l r

    by_sort_one : (sort : Sort) (l r : ValueOf GoType) → HasOne (by_sort sort table place operator l r)
    by_sort_one Arithmetic l r = by_types_one (is_typed l) (is_typed r) l r
    by_sort_one Shifting l r = shift_one l r
    by_sort_one Comparing l r = by_types_one (is_typed l) (is_typed r) l r

    pub binary_one : (l r : ValueOf GoType) → HasOne (binary table place operator l r)
    unfolding binary
    binary_one l r = by_sort_one (sort_of operator) l r
