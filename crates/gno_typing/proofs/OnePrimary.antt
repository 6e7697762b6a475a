-- Operands, and what stands before or behind them, have one verdict.
use Rattle.std.proofs.Common.{ℕ, ℤ, Bool, true, false}
use Rattle.gno_constants.specs.declared.constant.Constant.{Constant}
use Rattle.gno_scan.specs.declared.token.Pos.{Pos}
use Rattle.gno_terms.specs.declared.term.GoType.{GoType}
use Rattle.gno_terms.specs.Lawful.{is_untyped}
use Rattle.gno_terms.specs.Tables.{Table}
use Rattle.gno_terms.specs.Terms.{term_of}
use Rattle.gno_base.specs.declared.kind.Kind.TheVariants as k
use Rattle.gno_typed.specs.declared.step.IndexKind.TheVariants as kind
use Rattle.gno_typed.specs.declared.step.SliceKind.TheVariants as sliced_kind
use Rattle.gno_typing.specs.Classes.{basic}
use Rattle.gno_embedding.specs.Walking.{HasOneDefinition}
use Rattle.gno_typing.specs.Laws.{HasOne}
use Rattle.gno_typing.specs.Verdicts.{Verdict}
use Rattle.gno_typing.specs.Conversions.{conversion, converted, converted_boolean, converted_integer, converted_typed, constant_to_basic, same_of}
use Rattle.gno_typing.specs.Assertions.{asserted, assertion}
use Rattle.gno_typing.specs.Giving.{InType, in_type}
use Rattle.gno_typing.specs.Indexes.{Elements, IsBelow, counted, index, indexed, indexed_by, indexed_typed, taken, text_length}
use Rattle.gno_typing.specs.Operands.{as_value, settled, settled_constant}
use Rattle.gno_typing.specs.Pointers.{address, addressed, dereference, of_value, pointed}
use Rattle.gno_typing.specs.Slices.{Bounds, IsWithin, Sliced, slice, sliced, sliced_by}
use Rattle.gno_typing.specs.declared.pending.PendingOf.{PendingOf}
use Rattle.gno_typing.specs.declared.form.FormOf.{FormOf}
use Rattle.gno_typing.specs.declared.operand.OperandOf.{OperandOf}
use Rattle.gno_typing.specs.declared.operand.OperandOf.TheVariants as o
use Rattle.gno_typing.specs.declared.value.Standing.{Standing}
use Rattle.gno_typing.specs.declared.value.Standing.TheVariants as st
use Rattle.gno_typing.specs.declared.value.ValueOf.{ValueOf}
use Rattle.gno_typing.specs.declared.value.ValueOf.TheVariants as v
use Rattle.gno_typing.specs.declared.value.Waits.TheVariants as waits
use Rattle.gno_typing.proofs.OneParts.{after_both_one, after_bounds_one, after_one, bad_one, found_two, good_one, some_one, wants_one, where_one}
use Rattle.gno_typing.proofs.OneGiven.{default_one, defaulted_as, given_as, given_one}
use Rattle.gno_typing.proofs.OneTypes.{converts_once, elements_once, keys_once, points_once, slices_once}

pub as_value_one : (x : OperandOf GoType) → HasOne (as_value x)
unfolding as_value
as_value_one (o.Value x) = good_one x
as_value_one (o.Method at of calls form bound) = good_one _
as_value_one (o.Crossing at of code) = bad_one 63 at
as_value_one (o.Results at of form) = bad_one 50 at
as_value_one (o.Type at of) = bad_one 41 at
as_value_one (o.OpenArray at element) = bad_one 41 at
as_value_one (o.Package at path) = bad_one 41 at
as_value_one (o.Builtin at name) = bad_one 41 at
as_value_one (o.Cross at) = bad_one 63 at
as_value_one (o.Realm at) = bad_one 63 at

of_value_one : (x : OperandOf GoType) (go : ValueOf GoType → Verdict (ValueOf GoType) → Type 0) → ((y : ValueOf GoType) → HasOne (go y)) → HasOne (of_value x go)
of_value_one x go h = after_one _ _ (after_one _ _ (as_value_one x) h) (λ y. good_one _)

module _ (place : Pos) where
  standing_one : (at : Pos) (s : GoType) (stands : Standing) (calls : Bool) (form : FormOf GoType) → HasOne (addressed place (v.Typed at s stands calls form))
  standing_one at s st.Place calls form = good_one _
  standing_one at s st.Literal calls form = good_one _
  standing_one at s st.Result calls form = bad_one 56 place
  standing_one at s st.Element calls form = bad_one 56 place

  addressed_one : (x : ValueOf GoType) → HasOne (addressed place x)
  addressed_one (v.Typed at s stands calls form) = standing_one at s stands calls form
  addressed_one (v.Constant at s x) = bad_one 56 place
  addressed_one (v.Nil at) = bad_one 56 place
  addressed_one (v.Pending at needs calls form) = bad_one 56 place

  pub address_one : (x : OperandOf GoType) → HasOne (address place x)
  unfolding address
  address_one x = of_value_one x _ addressed_one

module _ (table : Table) where
  settled_constant_one : (untyped : Bool) (at : Pos) (s : GoType) (x : Constant) → HasOne (settled_constant untyped table at s x)
  settled_constant_one true at s x = default_one table at s x
  settled_constant_one false at s x = good_one _

  pub settled_one : (code : ℕ) (place : Pos) (x : ValueOf GoType) → HasOne (settled table code place x)
  settled_one code place (v.Constant at s x) = settled_constant_one (is_untyped (term_of s)) at s x
  settled_one code place (v.Nil at) = bad_one code place
  settled_one code place (v.Typed at s stands calls form) = good_one _
  settled_one code place (v.Pending at needs calls form) = defaulted_as table form

  pub taken_one : (x : ValueOf GoType) → HasOne (taken table x)
  taken_one (v.Constant at s x) = wants_one _ 43 at _ (good_one _)
  taken_one (v.Pending at (waits.Integer first) calls form) = after_one _ _ (given_as table _ _) (λ y. good_one _)
  taken_one (v.Pending at waits.Boolean calls form) = good_one _
  taken_one (v.Nil at) = good_one _
  taken_one (v.Typed at s stands calls form) = good_one _

  pub counted_one : (no_integer out_of_bounds : ℕ) (InBounds : ℤ → Type 0) (place : Pos) (x : ValueOf GoType) → HasOne (counted table no_integer out_of_bounds InBounds place x)
  counted_one m n InBounds place (v.Constant at s x) = wants_one _ m place _ (wants_one _ n place _ (good_one _))
  counted_one m n InBounds place (v.Nil at) = bad_one m place
  counted_one m n InBounds place (v.Typed at s stands calls form) = wants_one _ m place _ (good_one _)
  counted_one m n InBounds place (v.Pending at needs calls form) = bad_one m place

  module _ (place : Pos) where
    asserted_one : (u : GoType) (x : ValueOf GoType) → HasOne (asserted table place u x)
    asserted_one u (v.Typed at s stands calls form) = wants_one _ 59 place _ (wants_one _ 59 place _ (good_one _))
    asserted_one u (v.Constant at s x) = bad_one 59 place
    asserted_one u (v.Nil at) = bad_one 59 place
    asserted_one u (v.Pending at needs calls form) = bad_one 59 place

    pub assertion_one : (x : OperandOf GoType) (u : GoType) → HasOne (assertion table place x u)
    unfolding assertion
    assertion_one x u = after_one _ _ (after_one _ _ (as_value_one x) (asserted_one u)) (λ y. good_one _)

  module _ (place : Pos) (one : HasOneDefinition table) where
    pointed_one : (x : ValueOf GoType) → HasOne (pointed table place x)
    pointed_one (v.Typed at s stands calls form) = some_one _ 57 place _ (points_once table one s) (λ u. good_one _)
    pointed_one (v.Constant at s x) = bad_one 57 place
    pointed_one (v.Nil at) = bad_one 57 place
    pointed_one (v.Pending at needs calls form) = bad_one 57 place

    pub dereference_one : (x : OperandOf GoType) → HasOne (dereference table place x)
    unfolding dereference
    dereference_one (o.Type at s) = good_one _
    dereference_one (o.Value x) = of_value_one (o.Value x) _ pointed_one
    dereference_one (o.Method at of calls form bound) = of_value_one (o.Method at of calls form bound) _ pointed_one
    dereference_one (o.Crossing at of code) = of_value_one (o.Crossing at of code) _ pointed_one
    dereference_one (o.Results at of form) = of_value_one (o.Results at of form) _ pointed_one
    dereference_one (o.OpenArray at element) = of_value_one (o.OpenArray at element) _ pointed_one
    dereference_one (o.Package at path) = of_value_one (o.Package at path) _ pointed_one
    dereference_one (o.Builtin at name) = of_value_one (o.Builtin at name) _ pointed_one
    dereference_one (o.Cross at) = of_value_one (o.Cross at) _ pointed_one
    dereference_one (o.Realm at) = of_value_one (o.Realm at) _ pointed_one

    indexed_by_one : (stands : Standing) (calls : Bool) (form : FormOf GoType) (i : ValueOf GoType) (e : Elements) → HasOne (indexed_by table place stands calls form i e)
    indexed_by_one stands calls form i e = after_one _ _ (after_one _ _ (taken_one i) (counted_one 54 55 (IsBelow e.count) place)) (λ n. good_one _)

    indexed_typed_one : (s : GoType) (stands : Standing) (calls : Bool) (form : FormOf GoType) (i : ValueOf GoType) → HasOne (indexed_typed table place s stands calls form i)
    indexed_typed_one s stands calls form i = found_two _ _ _ (λ key of value to. keys_once table one s key of value to) (λ key value. after_one _ _ (given_one table 49 _ key i) (λ x. good_one _)) (some_one _ 54 place _ (elements_once table one s) (indexed_by_one stands calls form i))

    indexed_one : (x i : ValueOf GoType) → HasOne (indexed table place x i)
    indexed_one (v.Constant at s x) i = wants_one _ 54 place _ (after_one _ _ (settled_constant_one (is_untyped (term_of s)) at s x) (λ y. indexed_by_one st.Result false y.form i (record { kind = kind.String; of = basic k.Uint8; count = text_length x })))
    indexed_one (v.Nil at) i = bad_one 54 place
    indexed_one (v.Typed at s stands calls form) i = indexed_typed_one s stands calls form i
    indexed_one (v.Pending at needs calls form) i = bad_one 54 place

    pub index_one : (x i : OperandOf GoType) → HasOne (index table place x i)
    unfolding index
    index_one x i = after_one _ _ (after_both_one _ _ _ (as_value_one x) (as_value_one i) indexed_one) (λ y. good_one _)

    sliced_by_one : (stands : Standing) (calls : Bool) (form : FormOf GoType) (bounds : Bounds (ValueOf GoType)) (e : Sliced) → HasOne (sliced_by table place stands calls form bounds e)
    sliced_by_one stands calls form bounds e = wants_one _ 54 place _ (wants_one _ 56 place _ (after_bounds_one _ bounds _ taken_one (λ b. after_bounds_one _ b _ (counted_one 54 55 (IsWithin e.count) place) (λ c. wants_one _ 55 place _ (good_one _)))))

    sliced_one : (x : ValueOf GoType) (bounds : Bounds (ValueOf GoType)) → HasOne (sliced table place x bounds)
    sliced_one (v.Constant at s x) bounds = wants_one _ 54 place _ (after_one _ _ (settled_constant_one (is_untyped (term_of s)) at s x) (λ y. sliced_by_one st.Result false y.form bounds (record { kind = sliced_kind.String; of = y.of; count = text_length x })))
    sliced_one (v.Nil at) bounds = bad_one 54 place
    sliced_one (v.Typed at s stands calls form) bounds = some_one _ 54 place _ (slices_once table one s) (sliced_by_one stands calls form bounds)
    sliced_one (v.Pending at needs calls form) bounds = bad_one 54 place

    pub slice_one : (x : OperandOf GoType) (bounds : Bounds (OperandOf GoType)) → HasOne (slice table place x bounds)
    unfolding slice
    slice_one x bounds = after_one _ _ (after_both_one _ _ _ (as_value_one x) (after_bounds_one _ bounds _ as_value_one good_one) sliced_one) (λ y. good_one _)

    converted_typed_one : (u : GoType) (calls : Bool) (x : InType) → HasOne (converted_typed table place u calls x)
    converted_typed_one u calls x = some_one _ 58 place _ (converts_once table one x.of u) (λ how. good_one _)

    to_basic_one : (u : GoType) (x : Constant) → HasOne (constant_to_basic table place u x)
    to_basic_one u x = where_one _ _ _ (wants_one _ 43 place _ (good_one _)) (wants_one _ 58 place _ (good_one _))

    same_one : (u : GoType) (calls : Bool) (form : FormOf GoType) → HasOne (same_of place u calls form)
    same_one u calls form = good_one _

    boolean_one : (u : GoType) (calls : Bool) (x : PendingOf GoType) → HasOne (converted_boolean table place u calls x)
    boolean_one u calls x = where_one _ _ _ (after_one _ _ (given_as table _ _) (same_one u calls)) (after_one _ _ (defaulted_as table _) (converted_typed_one u calls))

    integer_one : (u : GoType) (calls : Bool) (shift : Pos) (x : PendingOf GoType) → HasOne (converted_integer table place u calls shift x)
    integer_one u calls shift x = where_one _ _ _ (after_one _ _ (defaulted_as table _) (converted_typed_one u calls)) (wants_one _ 46 shift _ (after_one _ _ (given_as table _ _) (same_one u calls)))

    converted_one : (u : GoType) (x : ValueOf GoType) → HasOne (converted table place u x)
    converted_one u (v.Constant at s x) = where_one _ _ _ (to_basic_one u x) (after_one _ _ (settled_constant_one (is_untyped (term_of s)) at s x) (converted_typed_one u false))
    converted_one u (v.Nil at) = wants_one _ 58 place _ (good_one _)
    converted_one u (v.Typed at s stands calls form) = converted_typed_one u calls (in_type s form)
    converted_one u (v.Pending at waits.Boolean calls form) = boolean_one u calls form
    converted_one u (v.Pending at (waits.Integer shift) calls form) = integer_one u calls shift form

    pub conversion_one : (u : GoType) (x : OperandOf GoType) → HasOne (conversion table place u x)
    unfolding conversion
    conversion_one u x = after_one _ _ (after_one _ _ (as_value_one x) (converted_one u)) (λ y. good_one _)
