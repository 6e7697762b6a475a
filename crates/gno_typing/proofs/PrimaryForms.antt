-- Operands, and what stands before or behind them, have a form or a fault.
use Rattle.std.proofs.Common.{◌≡◌, sym, ◌∙◌, ℕ, ℤ, Bool, true, false, [], ◌++◌, Option, Some, None, inl, inr, rules}
use Rattle.gno_constants.specs.declared.constant.Constant.{Constant}
use Rattle.gno_scan.specs.declared.token.Pos.{Pos}
use Rattle.gno_terms.specs.declared.term.GoType.{GoType}
use Rattle.gno_terms.specs.Lawful.{is_untyped}
use Rattle.gno_terms.specs.Tables.{Table}
use Rattle.gno_terms.specs.Terms.{term_of}
use Rattle.gno_base.specs.declared.kind.Kind.TheVariants as k
use Rattle.gno_typed.specs.declared.step.IndexKind.TheVariants as kind
use Rattle.gno_typed.specs.declared.step.SliceKind.TheVariants as sliced_kind
use Rattle.gno_typing.specs.Classes.{basic}
use Rattle.gno_typing.specs.Laws.{HasForm}
use Rattle.gno_typing.specs.Verdicts.{Verdict}
use Rattle.gno_typing.specs.Conversions.{conversion, converted, converted_boolean, converted_integer, converted_typed, constant_to_basic, same_of}
use Rattle.gno_typing.specs.Assertions.{asserted, assertion}
use Rattle.gno_typing.specs.Giving.{InType, in_type}
use Rattle.gno_typing.specs.Indexes.{Elements, IsBelow, counted, index, indexed, indexed_by, indexed_typed, taken, text_length}
use Rattle.gno_typing.specs.Operands.{as_value, settled, settled_constant}
use Rattle.gno_typing.specs.Pointers.{address, addressed, dereference, of_value, pointed}
use Rattle.gno_typing.specs.Slices.{AfterBounds, Bounds, IsWithin, Sliced, maybe, on_bounds, slice, sliced, sliced_by}
use Rattle.gno_typing.specs.declared.pending.PendingOf.{PendingOf}
use Rattle.gno_typing.specs.declared.form.FormOf.{FormOf}
use Rattle.gno_typing.specs.declared.operand.OperandOf.{OperandOf}
use Rattle.gno_typing.specs.declared.operand.OperandOf.TheVariants as o
use Rattle.gno_typing.specs.declared.value.Standing.{Standing}
use Rattle.gno_typing.specs.declared.value.Standing.TheVariants as st
use Rattle.gno_typing.specs.declared.value.ValueOf.{ValueOf}
use Rattle.gno_typing.specs.declared.value.ValueOf.TheVariants as v
use Rattle.gno_typing.specs.declared.value.Waits.TheVariants as waits
use Rattle.gno_typing.proofs.Parts.{Formed, after_both_form, after_form, back, bad_form, front, good_form, some_form, wants_form, where_form}
use Rattle.gno_typing.proofs.GivenForms.{default_form, defaulted_whole, given_form, given_whole}

pub as_value_form : (x : OperandOf GoType) → HasForm (as_value x)
unfolding as_value
as_value_form (o.Value x) = good_form x
as_value_form (o.Method at of calls form bound) = good_form _
as_value_form (o.Crossing at of code) = bad_form 63 at
as_value_form (o.Results at of form) = bad_form 50 at
as_value_form (o.Type at of) = bad_form 41 at
as_value_form (o.OpenArray at element) = bad_form 41 at
as_value_form (o.Package at path) = bad_form 41 at
as_value_form (o.Builtin at name) = bad_form 41 at
as_value_form (o.Cross at) = bad_form 63 at
as_value_form (o.Realm at) = bad_form 63 at

-- of a bound that may be left out
maybe_form : {A B : Type 0} (go : A → Verdict B → Type 0) → ((a : A) → HasForm (go a)) → (x : Option A) → HasForm (maybe go x)
maybe_form go h None = good_form None
maybe_form go h (Some a) = after_form _ _ (h a) (λ y. good_form (Some y))

three : {B C : Type 0} (go : Bounds B → Verdict C → Type 0) → ((b : Bounds B) → HasForm (go b)) → (x y z : Option (Option B)) → Formed x → Formed y → Formed z → HasForm (on_bounds go x y z)
three go h (Some x) (Some y) (Some z) a b c = h _
three go h None y z a b c = absurd (search (rules, a.1))
three go h (Some x) None z a b c = absurd (search (rules, b.1))
three go h (Some x) (Some y) None a b c = absurd (search (rules, c.1))

pub after_bounds_form : {A B C : Type 0} (bound : A → Verdict B → Type 0) (bounds : Bounds A) (go : Bounds B → Verdict C → Type 0) → ((a : A) → HasForm (bound a)) → ((b : Bounds B) → HasForm (go b)) → HasForm (AfterBounds bound bounds go)
after_bounds_form bound bounds go h k y it none =
    let all : it.low.faults ++ (it.high.faults ++ (it.max.faults ++ it.rest.faults)) ≡ [] = sym it.faults ∙ none in
    let behind_low = back it.low.faults (it.high.faults ++ (it.max.faults ++ it.rest.faults)) all in
    let behind_high = back it.high.faults (it.max.faults ++ it.rest.faults) behind_low in
    let a = maybe_form bound h bounds.low it.low it.low_judged (front it.low.faults (it.high.faults ++ (it.max.faults ++ it.rest.faults)) all) in
    let b = maybe_form bound h bounds.high it.high it.high_judged (front it.high.faults (it.max.faults ++ it.rest.faults) behind_low) in
    let c = maybe_form bound h bounds.max it.max it.max_judged (front it.max.faults it.rest.faults behind_high) in
    let d = three go k it.low.form it.high.form it.max.form a b c it.rest it.goes_on (back it.max.faults it.rest.faults behind_high) in
    (d.0, it.form ∙ d.1)

of_value_form : (x : OperandOf GoType) (go : ValueOf GoType → Verdict (ValueOf GoType) → Type 0) → ((y : ValueOf GoType) → HasForm (go y)) → HasForm (of_value x go)
of_value_form x go h = after_form _ _ (after_form _ _ (as_value_form x) h) (λ y. good_form _)

module _ (place : Pos) where
  standing_form : (at : Pos) (s : GoType) (stands : Standing) (calls : Bool) (form : FormOf GoType) → HasForm (addressed place (v.Typed at s stands calls form))
  standing_form at s st.Place calls form = good_form _
  standing_form at s st.Literal calls form = good_form _
  standing_form at s st.Result calls form = bad_form 56 place
  standing_form at s st.Element calls form = bad_form 56 place

  addressed_form : (x : ValueOf GoType) → HasForm (addressed place x)
  addressed_form (v.Typed at s stands calls form) = standing_form at s stands calls form
  addressed_form (v.Constant at s x) = bad_form 56 place
  addressed_form (v.Nil at) = bad_form 56 place
  addressed_form (v.Pending at needs calls form) = bad_form 56 place

  pub address_form : (x : OperandOf GoType) → HasForm (address place x)
  unfolding address
  address_form x = of_value_form x _ addressed_form

module _ (table : Table) where
  settled_constant_form : (untyped : Bool) (at : Pos) (s : GoType) (x : Constant) → HasForm (settled_constant untyped table at s x)
  settled_constant_form true at s x = default_form table at s x
  settled_constant_form false at s x = good_form _

  pub settled_form : (code : ℕ) (place : Pos) (x : ValueOf GoType) → HasForm (settled table code place x)
  settled_form code place (v.Constant at s x) = settled_constant_form (is_untyped (term_of s)) at s x
  settled_form code place (v.Nil at) = bad_form code place
  settled_form code place (v.Typed at s stands calls form) = good_form _
  settled_form code place (v.Pending at needs calls form) = λ y. defaulted_whole table

  pub taken_form : (x : ValueOf GoType) → HasForm (taken table x)
  taken_form (v.Constant at s x) = wants_form _ 43 at _ (good_form _)
  taken_form (v.Pending at (waits.Integer first) calls form) = after_form _ _ (λ y. given_whole table) (λ y. good_form _)
  taken_form (v.Pending at waits.Boolean calls form) = good_form _
  taken_form (v.Nil at) = good_form _
  taken_form (v.Typed at s stands calls form) = good_form _

  pub counted_form : (no_integer out_of_bounds : ℕ) (InBounds : ℤ → Type 0) (place : Pos) (x : ValueOf GoType) → HasForm (counted table no_integer out_of_bounds InBounds place x)
  counted_form m n InBounds place (v.Constant at s x) = wants_form _ m place _ (wants_form _ n place _ (good_form _))
  counted_form m n InBounds place (v.Nil at) = bad_form m place
  counted_form m n InBounds place (v.Typed at s stands calls form) = wants_form _ m place _ (good_form _)
  counted_form m n InBounds place (v.Pending at needs calls form) = bad_form m place

  module _ (place : Pos) where
    pointed_form : (x : ValueOf GoType) → HasForm (pointed table place x)
    pointed_form (v.Typed at s stands calls form) = some_form _ 57 place _ (λ u. good_form _)
    pointed_form (v.Constant at s x) = bad_form 57 place
    pointed_form (v.Nil at) = bad_form 57 place
    pointed_form (v.Pending at needs calls form) = bad_form 57 place

    pub dereference_form : (x : OperandOf GoType) → HasForm (dereference table place x)
    unfolding dereference
    dereference_form (o.Type at s) = good_form _
    dereference_form (o.Value x) = of_value_form (o.Value x) _ pointed_form
    dereference_form (o.Method at of calls form bound) = of_value_form (o.Method at of calls form bound) _ pointed_form
    dereference_form (o.Crossing at of code) = of_value_form (o.Crossing at of code) _ pointed_form
    dereference_form (o.Results at of form) = of_value_form (o.Results at of form) _ pointed_form
    dereference_form (o.OpenArray at element) = of_value_form (o.OpenArray at element) _ pointed_form
    dereference_form (o.Package at path) = of_value_form (o.Package at path) _ pointed_form
    dereference_form (o.Builtin at name) = of_value_form (o.Builtin at name) _ pointed_form
    dereference_form (o.Cross at) = of_value_form (o.Cross at) _ pointed_form
    dereference_form (o.Realm at) = of_value_form (o.Realm at) _ pointed_form

    indexed_by_form : (stands : Standing) (calls : Bool) (form : FormOf GoType) (i : ValueOf GoType) (e : Elements) → HasForm (indexed_by table place stands calls form i e)
    indexed_by_form stands calls form i e = after_form _ _ (after_form _ _ (taken_form i) (counted_form 54 55 (IsBelow e.count) place)) (λ n. good_form _)

    indexed_typed_form : (s : GoType) (stands : Standing) (calls : Bool) (form : FormOf GoType) (i : ValueOf GoType) → HasForm (indexed_typed table place s stands calls form i)
    indexed_typed_form s stands calls form i y (inl (key, value, keys, judged)) none = after_form _ _ (given_form table 49 _ key i) (λ x. good_form _) y judged none
    indexed_typed_form s stands calls form i y (inr (no_keys, judged)) none = some_form _ 54 place _ (indexed_by_form stands calls form i) y judged none

    indexed_form : (x i : ValueOf GoType) → HasForm (indexed table place x i)
    indexed_form (v.Constant at s x) i = wants_form _ 54 place _ (after_form _ _ (settled_constant_form (is_untyped (term_of s)) at s x) (λ y. indexed_by_form st.Result false y.form i (record { kind = kind.String; of = basic k.Uint8; count = text_length x })))
    indexed_form (v.Nil at) i = bad_form 54 place
    indexed_form (v.Typed at s stands calls form) i = indexed_typed_form s stands calls form i
    indexed_form (v.Pending at needs calls form) i = bad_form 54 place

    pub index_form : (x i : OperandOf GoType) → HasForm (index table place x i)
    unfolding index
    index_form x i = after_form _ _ (after_both_form _ _ _ (as_value_form x) (as_value_form i) indexed_form) (λ y. good_form _)

    sliced_by_form : (stands : Standing) (calls : Bool) (form : FormOf GoType) (bounds : Bounds (ValueOf GoType)) (e : Sliced) → HasForm (sliced_by table place stands calls form bounds e)
    sliced_by_form stands calls form bounds e = wants_form _ 54 place _ (wants_form _ 56 place _ (after_bounds_form _ bounds _ taken_form (λ b. after_bounds_form _ b _ (counted_form 54 55 (IsWithin e.count) place) (λ c. wants_form _ 55 place _ (good_form _)))))

    sliced_form : (x : ValueOf GoType) (bounds : Bounds (ValueOf GoType)) → HasForm (sliced table place x bounds)
    sliced_form (v.Constant at s x) bounds = wants_form _ 54 place _ (after_form _ _ (settled_constant_form (is_untyped (term_of s)) at s x) (λ y. sliced_by_form st.Result false y.form bounds (record { kind = sliced_kind.String; of = y.of; count = text_length x })))
    sliced_form (v.Nil at) bounds = bad_form 54 place
    sliced_form (v.Typed at s stands calls form) bounds = some_form _ 54 place _ (sliced_by_form stands calls form bounds)
    sliced_form (v.Pending at needs calls form) bounds = bad_form 54 place

    pub slice_form : (x : OperandOf GoType) (bounds : Bounds (OperandOf GoType)) → HasForm (slice table place x bounds)
    unfolding slice
    slice_form x bounds = after_form _ _ (after_both_form _ _ _ (as_value_form x) (after_bounds_form _ bounds _ as_value_form good_form) sliced_form) (λ y. good_form _)

    asserted_form : (u : GoType) (x : ValueOf GoType) → HasForm (asserted table place u x)
    asserted_form u (v.Typed at s stands calls form) = wants_form _ 59 place _ (wants_form _ 59 place _ (good_form _))
    asserted_form u (v.Constant at s x) = bad_form 59 place
    asserted_form u (v.Nil at) = bad_form 59 place
    asserted_form u (v.Pending at needs calls form) = bad_form 59 place

    pub assertion_form : (x : OperandOf GoType) (u : GoType) → HasForm (assertion table place x u)
    unfolding assertion
    assertion_form x u = after_form _ _ (after_form _ _ (as_value_form x) (asserted_form u)) (λ y. good_form _)

    converted_typed_form : (u : GoType) (calls : Bool) (x : InType) → HasForm (converted_typed table place u calls x)
    converted_typed_form u calls x = some_form _ 58 place _ (λ how. good_form _)

    to_basic_form : (u : GoType) (x : Constant) → HasForm (constant_to_basic table place u x)
    to_basic_form u x = where_form _ _ _ (wants_form _ 43 place _ (good_form _)) (wants_form _ 58 place _ (good_form _))

    same_form : (u : GoType) (calls : Bool) (form : FormOf GoType) → HasForm (same_of place u calls form)
    same_form u calls form = good_form _

    boolean_form : (u : GoType) (calls : Bool) (x : PendingOf GoType) → HasForm (converted_boolean table place u calls x)
    boolean_form u calls x = where_form _ _ _ (after_form _ _ (λ y. given_whole table) (same_form u calls)) (after_form _ _ (λ y. defaulted_whole table) (converted_typed_form u calls))

    integer_form : (u : GoType) (calls : Bool) (shift : Pos) (x : PendingOf GoType) → HasForm (converted_integer table place u calls shift x)
    integer_form u calls shift x = where_form _ _ _ (after_form _ _ (λ y. defaulted_whole table) (converted_typed_form u calls)) (wants_form _ 46 shift _ (after_form _ _ (λ y. given_whole table) (same_form u calls)))

    converted_form : (u : GoType) (x : ValueOf GoType) → HasForm (converted table place u x)
    converted_form u (v.Constant at s x) = where_form _ _ _ (to_basic_form u x) (after_form _ _ (settled_constant_form (is_untyped (term_of s)) at s x) (converted_typed_form u false))
    converted_form u (v.Nil at) = wants_form _ 58 place _ (good_form _)
    converted_form u (v.Typed at s stands calls form) = converted_typed_form u calls (in_type s form)
    converted_form u (v.Pending at waits.Boolean calls form) = boolean_form u calls form
    converted_form u (v.Pending at (waits.Integer shift) calls form) = integer_form u calls shift form

    pub conversion_form : (u : GoType) (x : OperandOf GoType) → HasForm (conversion table place u x)
    unfolding conversion
    conversion_form u x = after_form _ _ (after_form _ _ (as_value_form x) (converted_form u)) (λ y. good_form _)
