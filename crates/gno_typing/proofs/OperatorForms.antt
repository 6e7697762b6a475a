-- Each operator on values gives a form, or has a fault.
use Rattle.std.proofs.Common.{◌≡◌, sym, subst, Bool, true, false, []}
use Rattle.gno_constants.specs.declared.constant.Constant.{Constant}
use Rattle.gno_constants.specs.Exact.{Exact}
use Rattle.gno_constants.specs.Exact.Exact.{Value, NoQuotient, NoShift, NotDefined}
use Rattle.gno_scan.specs.declared.token.Pos.{Pos}
use Rattle.gno_terms.specs.declared.term.GoType.{GoType}
use Rattle.gno_terms.specs.Lawful.{is_untyped}
use Rattle.gno_terms.specs.Tables.{Table}
use Rattle.gno_terms.specs.Terms.{term_of}
use Rattle.gno_tree.specs.declared.operator.BinaryOperator.{BinaryOperator}
use Rattle.gno_tree.specs.declared.operator.UnaryOperator.{UnaryOperator}
use Rattle.gno_typed.specs.declared.expr.TypedExprOf.{TypedExprOf}
use Rattle.gno_typing.specs.Laws.{HasForm}
use Rattle.gno_typing.specs.Verdicts.{Verdict, wants}
use Rattle.gno_typing.specs.Unary.{UnaryConstant, unary, worked_out}
use Rattle.gno_typing.specs.Binary.{Sort, ComparedDefaults, allowed_by, binary, by_sort, by_types, composed, composed_by, constant_beside, constant_shifted, counted, counted_constant, in_type, of_different, shift, shifted, typed_binary, untyped_binary, untyped_by, untyped_left, untyped_right, untyped_worked, with_nil, worked, is_comparing, is_equality, is_defined_for, is_typed, sort_of, type_in, untyped_in}
use Rattle.gno_typing.specs.Binary.Sort.{Arithmetic, Shifting, Comparing}
use Rattle.gno_typing.specs.declared.value.ValueOf.{ValueOf}
use Rattle.gno_typing.specs.declared.value.ValueOf.TheVariants as v
use Rattle.gno_typing.specs.declared.value.Waits.TheVariants as waits
use Rattle.gno_typing.proofs.Parts.{Formed, after_both_whole, after_form, bad_form, good_form, wants_form, where_form}
use Rattle.gno_typing.proofs.GivenForms.{are_defaults_formed, given_whole, held_constant, pending_form}

abbrev Rule : Type 1
Rule = Verdict (ValueOf GoType) → Type 0

module _ (table : Table) (place : Pos) where
  worked_out_form : (s : GoType) (x : Exact) → HasForm (worked_out table place s x)
  worked_out_form s (Value x) = wants_form _ 42 place _ (wants_form _ 43 place _ (good_form _))
  worked_out_form s NoQuotient = bad_form 44 place
  worked_out_form s NoShift = bad_form 45 place
  worked_out_form s NotDefined = bad_form 46 place

  unary_constant_form : (operator : UnaryOperator) (s : GoType) (x : Constant) → HasForm (UnaryConstant table place operator s x)
  unary_constant_form operator s x y it = worked_out_form s _ y it.verdict

  pub unary_form : (operator : UnaryOperator) (x : ValueOf GoType) → HasForm (unary table place operator x)
  unfolding unary
  unary_form operator (v.Constant at s x) = wants_form _ 46 place _ (unary_constant_form operator s x)
  unary_form operator (v.Nil at) = bad_form 46 place
  unary_form operator (v.Typed at s stands calls form) = wants_form _ 46 place _ (good_form _)
  unary_form operator (v.Pending at needs calls form) = wants_form _ 46 place _ (good_form _)

  module _ (operator : BinaryOperator) where
    allowed_form : (equality : Bool) (s t u : GoType) (J : Rule) → HasForm J → HasForm (allowed_by equality table place operator s t u J)
    allowed_form true s t u J h = wants_form _ 48 place J h
    allowed_form false s t u J h = wants_form _ 46 place J h

    composed_by_form : (comparing : Bool) (u : GoType) (l r : ValueOf GoType) → HasForm (composed_by comparing table place operator u l r)
    composed_by_form true u l r = λ y it. good_form _ y it.verdict
    composed_by_form false u l r = good_form _

    composed_form : (u : GoType) (l r : ValueOf GoType) → HasForm (composed table place operator u l r)
    composed_form u l r = wants_form _ 44 place _ (composed_by_form (is_comparing operator) u l r)

    worked_form : (u : GoType) (l r : ValueOf GoType) → HasForm (worked table place operator u l r)
    worked_form u (v.Constant at s x) (v.Constant at_right t y) = worked_out_form _ _
    worked_form u (v.Constant at s x) (v.Nil a) = composed_form u _ _
    worked_form u (v.Constant at s x) (v.Typed a t stands calls form) = composed_form u _ _
    worked_form u (v.Constant at s x) (v.Pending a needs calls form) = composed_form u _ _
    worked_form u (v.Nil a) r = composed_form u _ _
    worked_form u (v.Typed a t stands calls form) r = composed_form u _ _
    worked_form u (v.Pending a needs calls form) r = composed_form u _ _

    in_type_form : (u : GoType) (l r : ValueOf GoType) → HasForm (in_type table place operator u l r)
    in_type_form u l r = allowed_form (is_equality operator) _ _ u _ (worked_form u l r)

    different_form : (comparing : Bool) (l r : ValueOf GoType) → HasForm (of_different comparing table place operator l r)
    different_form false l r = bad_form 47 place
    different_form true l r = where_form _ _ _ (in_type_form _ l r) (wants_form _ 47 place _ (in_type_form _ l r))

    typed_form : (l r : ValueOf GoType) → HasForm (typed_binary table place operator l r)
    typed_form l r = where_form _ _ _ (in_type_form _ l r) (different_form (is_comparing operator) l r)

    nil_form : (u : GoType) (J : Rule) → HasForm J → HasForm (with_nil table place operator u J)
    nil_form u J h = wants_form _ 47 place _ (wants_form _ 46 place J h)

    beside_form : (u : GoType) (at : Pos) (s : GoType) (x : Constant) (J : ValueOf GoType → Rule) → ((y : ValueOf GoType) → HasForm (J y)) → HasForm (constant_beside table place u at s x J)
    beside_form u at s x J h = where_form _ _ _ (after_form _ _ (held_constant table 47 place u at s x) (λ form. h _)) (wants_form _ 47 place _ (wants_form _ 43 at _ (h _)))

    right_form : (l r : ValueOf GoType) → HasForm (untyped_right table place operator l r)
    right_form l (v.Constant at s x) = beside_form _ at s x _ (λ y. typed_form l y)
    right_form l (v.Nil at) = nil_form _ _ (composed_form _ _ _)
    right_form l (v.Pending at needs calls form) = after_form _ _ (pending_form table 47 place (type_in l) needs form) (λ x. typed_form _ _)
    right_form l (v.Typed at s stands calls form) = typed_form _ _

    left_form : (l r : ValueOf GoType) → HasForm (untyped_left table place operator l r)
    left_form (v.Constant at s x) r = beside_form _ at s x _ (λ y. typed_form y r)
    left_form (v.Nil at) r = nil_form _ _ (composed_form _ _ _)
    left_form (v.Pending at needs calls form) r = after_form _ _ (pending_form table 47 place (type_in r) needs form) (λ x. typed_form _ _)
    left_form (v.Typed at s stands calls form) r = typed_form _ _

    compared_form : (l r : ValueOf GoType) → HasForm (ComparedDefaults table place operator l r)
    compared_form l r y it = let is = it.verdict in
        after_both_whole _ _ _ y is (λ n o.
        let h = are_defaults_formed table it.defaults (subst (λ x. x.faults ≡ []) is.left_judged n) (subst (λ x. x.faults ≡ []) is.right_judged o) in
        (subst (λ x. Formed x.form) (sym is.left_judged) h.0, subst (λ x. Formed x.form) (sym is.right_judged) h.1)) (λ a b. wants_form _ 47 place _ (good_form _))

    untyped_by_form : (comparing : Bool) (l r : ValueOf GoType) → HasForm (untyped_by comparing table place operator l r)
    untyped_by_form true l r = compared_form l r
    untyped_by_form false l r = good_form _

    untyped_worked_form : (l r : ValueOf GoType) → HasForm (untyped_worked table place operator l r)
    untyped_worked_form (v.Constant at s x) (v.Constant at_right t y) = worked_out_form _ _
    untyped_worked_form (v.Constant at s x) (v.Nil a) = wants_form _ 44 place _ (untyped_by_form (is_comparing operator) _ _)
    untyped_worked_form (v.Constant at s x) (v.Typed a t stands calls form) = wants_form _ 44 place _ (untyped_by_form (is_comparing operator) _ _)
    untyped_worked_form (v.Constant at s x) (v.Pending a needs calls form) = wants_form _ 44 place _ (untyped_by_form (is_comparing operator) _ _)
    untyped_worked_form (v.Nil a) r = wants_form _ 44 place _ (untyped_by_form (is_comparing operator) _ _)
    untyped_worked_form (v.Typed a t stands calls form) r = wants_form _ 44 place _ (untyped_by_form (is_comparing operator) _ _)
    untyped_worked_form (v.Pending a needs calls form) r = wants_form _ 44 place _ (untyped_by_form (is_comparing operator) _ _)

    of_one_class : (l r : ValueOf GoType) → HasForm (wants (untyped_in l ≡ untyped_in r) 47 place (wants (is_defined_for (untyped_in l) operator ≡ true) 46 place (untyped_worked table place operator l r)))
    of_one_class l r = wants_form _ 47 place _ (wants_form _ 46 place _ (untyped_worked_form l r))

    untyped_form : (l r : ValueOf GoType) → HasForm (untyped_binary table place operator l r)
    untyped_form (v.Nil at) (v.Nil at_right) = bad_form 46 place
    untyped_form (v.Nil at) (v.Constant a s x) = of_one_class (v.Nil at) (v.Constant a s x)
    untyped_form (v.Nil at) (v.Typed a s stands calls form) = of_one_class (v.Nil at) (v.Typed a s stands calls form)
    untyped_form (v.Nil at) (v.Pending a needs calls form) = of_one_class (v.Nil at) (v.Pending a needs calls form)
    untyped_form (v.Constant a s x) r = of_one_class (v.Constant a s x) r
    untyped_form (v.Typed a s stands calls form) r = of_one_class (v.Typed a s stands calls form) r
    untyped_form (v.Pending a needs calls form) r = of_one_class (v.Pending a needs calls form) r

    counted_constant_form : (untyped : Bool) (at : Pos) (s : GoType) (x : Constant) → HasForm (counted_constant untyped table place at s x)
    counted_constant_form true at s x = wants_form _ 43 at _ (good_form _)
    counted_constant_form false at s x = good_form _

    counted_form : (r : ValueOf GoType) → HasForm (counted table place r)
    counted_form (v.Constant at s x) = wants_form _ 46 place _ (wants_form _ 45 place _ (counted_constant_form (is_untyped (term_of s)) at s x))
    counted_form (v.Nil at) = bad_form 46 place
    counted_form (v.Typed at s stands calls form) = wants_form _ 46 place _ (good_form _)
    counted_form (v.Pending at waits.Boolean calls form) = bad_form 46 place
    counted_form (v.Pending at (waits.Integer first) calls form) = after_form _ _ (λ y. given_whole table) (λ x. good_form _)

    constant_shifted_form : (untyped : Bool) (at : Pos) (s : GoType) (x : Constant) (calls : Bool) (count : TypedExprOf GoType) → HasForm (constant_shifted untyped place operator at s x calls count)
    constant_shifted_form true at s x calls count = good_form _
    constant_shifted_form false at s x calls count = good_form _

    shifted_form : (l r : ValueOf GoType) (count : TypedExprOf GoType) → HasForm (shifted table place operator l r count)
    shifted_form (v.Constant at s x) (v.Constant at_right t y) count = wants_form _ 46 place _ (worked_out_form _ _)
    shifted_form (v.Constant at s x) (v.Nil a) count = wants_form _ 46 place _ (constant_shifted_form (is_untyped (term_of s)) at s x _ count)
    shifted_form (v.Constant at s x) (v.Typed a t stands calls form) count = wants_form _ 46 place _ (constant_shifted_form (is_untyped (term_of s)) at s x _ count)
    shifted_form (v.Constant at s x) (v.Pending a needs calls form) count = wants_form _ 46 place _ (constant_shifted_form (is_untyped (term_of s)) at s x _ count)
    shifted_form (v.Nil at) r count = bad_form 46 place
    shifted_form (v.Typed at s stands calls form) r count = wants_form _ 46 place _ (good_form _)
    shifted_form (v.Pending at waits.Boolean calls form) r count = bad_form 46 place
    shifted_form (v.Pending at (waits.Integer first) calls form) r count = good_form _

    shift_form : (l r : ValueOf GoType) → HasForm (shift table place operator l r)
    shift_form l r = after_form _ _ (counted_form r) (shifted_form l r)

    by_types_form : (left right : Bool) (l r : ValueOf GoType) → HasForm (by_types left right table place operator l r)
    by_types_form true true l r = typed_form l r
    by_types_form true false l r = right_form l r
    by_types_form false true l r = left_form l r
    by_types_form false false l r = untyped_form l r

    by_sort_form : (sort : Sort) (l r : ValueOf GoType) → HasForm (by_sort sort table place operator l r)
    by_sort_form Arithmetic l r = by_types_form (is_typed l) (is_typed r) l r
    by_sort_form Shifting l r = shift_form l r
    by_sort_form Comparing l r = by_types_form (is_typed l) (is_typed r) l r

    pub binary_form : (l r : ValueOf GoType) → HasForm (binary table place operator l r)
    unfolding binary
    binary_form l r = by_sort_form (sort_of operator) l r
