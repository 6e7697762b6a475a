-- Each expression and each type as it is written has a form or a fault.
use Rattle.std.proofs.Common.{◌≡◌, sym, ap, ◌∙◌, subst, ℕ, ◌++◌, List, [], ◌∷◌, Bool, true, false, Option, Some, None, option_map, rules}
use Rattle.gno_scan.specs.declared.token.Pos.{Pos}
use Rattle.gno_terms.specs.declared.term.FieldOf.{FieldOf}
use Rattle.gno_terms.specs.declared.term.GoType.{GoType}
use Rattle.gno_terms.specs.declared.term.MethodOf.{MethodOf}
use Rattle.gno_tree.specs.declared.expr.Element.{Element}
use Rattle.gno_tree.specs.declared.expr.Expr.{Expr}
use Rattle.gno_tree.specs.declared.expr.Operation.{Operation}
use Rattle.gno_tree.specs.declared.expr.Part.{Part}
use Rattle.gno_tree.specs.declared.expr.Step.{Step}
use Rattle.gno_tree.specs.declared.operator.UnaryOperator.{UnaryOperator}
use Rattle.gno_tree.specs.declared.operator.UnaryOperator.TheVariants as u
use Rattle.gno_tree.specs.declared.type_expr.Field.{Field}
use Rattle.gno_tree.specs.declared.type_expr.Member.{Member}
use Rattle.gno_tree.specs.declared.type_expr.Parameter.{Parameter}
use Rattle.gno_tree.specs.declared.type_expr.Signature.{Signature}
use Rattle.gno_tree.specs.declared.type_expr.TypeExpr.{TypeExpr}
use Rattle.gno_tree.specs.declared.word.Name.{Name}
use Rattle.gno_tree_typing.specs.Composites.{FieldPlace, Gathered, IndexKey, Item, ListKind, MapItem, MapKey, gathered, no_key, nothing_gathered, is_found}
use Rattle.gno_tree_typing.specs.WrittenTypes.{Distinct}
use Rattle.gno_typed.specs.declared.elements.FieldValueOf.{FieldValueOf}
use Rattle.gno_typing.specs.Builtins.{Builtin}
use Rattle.gno_typing.specs.Giving.{both}
use Rattle.gno_typing.specs.Names.{builtin_of}
use Rattle.gno_typing.specs.Pointers.{pointer_to}
use Rattle.gno_typing.specs.Verdicts.{Verdict, bad, good, on, unjudged}
use Rattle.gno_typing.specs.declared.fault.Fault.{Fault}
use Rattle.gno_typing.specs.declared.operand.OperandOf.{OperandOf}
use Rattle.gno_typing.specs.declared.operand.OperandOf.TheVariants as o
use Rattle.gno_typing.specs.declared.value.ValueOf.{ValueOf}
use Rattle.gno_tree_typing.specs.Judging.{Alone, Behind, BehindBoth, Context, LiteralType, as_literal_type, alone, behind_names, bound_by, first_of_list, builtin_called, call_of, converted, item_of, keys_of, list_of, literal, method_names, name_of_type, pair_item, pointed_literal, step_called, unary_of, value_of}
use Rattle.gno_tree_typing.specs.Judging.{Judges, JudgesAlone, JudgesAloneKey, JudgesAlonePart, JudgesArguments, JudgesBound, JudgesComposite, JudgesElements, JudgesEmbedded, JudgesField, JudgesFieldTypes, JudgesFields, JudgesIndexKey, JudgesInner, JudgesItems, JudgesLiteralType, JudgesMapKey, JudgesMethods, JudgesNone, JudgesOperations, JudgesPairs, JudgesParameters, JudgesPart, JudgesSignature, JudgesStep, JudgesSteps, JudgesType}
use Rattle.gno_tree_typing.specs.Judging as j
use Rattle.gno_tree_typing.proofs.RuleForms.{array_length_form, array_type_form, as_literal_type_form, distinct_form, elided_form, embedded_field_form, embedded_methods_form, field_given_form, filled_form, interface_method_form, key_found_form, list_literal_form, literal_form, map_key_form, map_literal_form, map_type_form, pointed_literal_form, qualified_type_form, struct_literal_form, struct_type_form, type_named_form, with_embedded_form}
use Rattle.gno_typing.proofs.BuiltinForms.{builtin_form}
use Rattle.gno_typing.proofs.CallForms.{AreFound, call_form, not_called_form}
use Rattle.gno_typing.proofs.NameForms.{named_form}
use Rattle.gno_typing.proofs.OperatorForms.{binary_form, unary_form}
use Rattle.gno_typing.proofs.Parts.{Formed, Whole, after_both_form, after_form, back, bad_form, both_whole, front, good_form, made_whole, no_fault}
use Rattle.gno_typing.proofs.PrimaryForms.{address_form, as_value_form, assertion_form, conversion_form, dereference_form, index_form, slice_form}
use Rattle.gno_typing.proofs.SelectorForms.{selector_form}
use Rattle.gno_typing.specs.Laws.{HasForm}

-- ---- parts that were judged

pub behind : {A B : Type 0} (x : Verdict A) (go : A → Verdict B → Type 0) (y : Verdict B) → Behind x go y → Whole x → ((a : A) → HasForm (go a)) → Whole y
behind x go y it h k = after_form (λ a. a ≡ x) go (λ v e. subst Whole (sym e) h) k y it

pub behind_both : {A B C : Type 0} (x : Verdict A) (z : Verdict B) (go : A → B → Verdict C → Type 0) (y : Verdict C) → BehindBoth x z go y → Whole x → Whole z → ((a : A) (b : B) → HasForm (go a b)) → Whole y
behind_both x z go y it h k m = after_both_form (λ a. a ≡ x) (λ b. b ≡ z) go (λ v e. subst Whole (sym e) h) (λ v e. subst Whole (sym e) k) m y it

faults_of : {A : Type 0} (y : Verdict A) (form : Option A) (fs : List Fault) → y ≡ record { form = form; faults = fs } → y.faults ≡ [] → fs ≡ []
faults_of y form fs e none = sym (ap (λ v. v.faults) e) ∙ none

form_of : {A : Type 0} (y : Verdict A) (form : Option A) (fs : List Fault) → y ≡ record { form = form; faults = fs } → y.form ≡ form
form_of y form fs e = ap (λ v. v.form) e

same_whole : {A : Type 0} (y z : Verdict A) → y ≡ z → Whole z → Whole y
same_whole y z e h = subst Whole (sym e) h

good_whole : {A : Type 0} (a : A) (y : Verdict A) → good a y → Whole y
good_whole a y is none = good_form a y is none

-- a fault of its own behind a part
faulty : {A B : Type 0} (x : Verdict A) (code : ℕ) (at : Pos) (y : Verdict B) → Behind x (λ a. bad code at) y → Whole x → y.faults ≡ [] → ⊥
faulty {A} {B} x code at y it h none =
    let all : it.part.faults ++ it.rest.faults ≡ [] = sym it.faults ∙ none in
    let a = h (sym (ap (λ v. v.faults) it.judged) ∙ front it.part.faults it.rest.faults all) in
    no_fault _ _ (sym (ap (λ v. v.faults) (subst (λ form. on (λ b. bad code at) form it.rest) (ap (λ v. v.form) it.judged ∙ a.1) it.goes_on)) ∙ back it.part.faults it.rest.faults all)

never : {A B : Type 0} (x : Verdict A) (y : Verdict B) → Behind x (λ a. unjudged) y → (x.faults ≡ [] → ⊥) → Whole y
never x y it h none = absurd (h (sym (ap (λ v. v.faults) it.judged) ∙ front it.part.faults it.rest.faults (sym it.faults ∙ none)))

-- arguments that were found
abbrev pub AllFound : {A : Type 0} → Verdict (List (Option A)) → Type 0
AllFound {A = A} y = y.faults ≡ [] → (xs : List (Option A)) × (y.form ≡ Some xs) × AreFound xs

behind_found : {A B : Type 0} (x : Verdict (List (Option A))) (go : List (Option A) → Verdict B → Type 0) (y : Verdict B) → Behind x go y → AllFound x → ((xs : List (Option A)) → AreFound xs → HasForm (go xs)) → Whole y
behind_found x go y it h k none =
    let all : it.part.faults ++ it.rest.faults ≡ [] = sym it.faults ∙ none in
    let xs = h (sym (ap (λ v. v.faults) it.judged) ∙ front it.part.faults it.rest.faults all) in
    let b = k xs.0 xs.2 it.rest (subst (λ form. on go form it.rest) (ap (λ v. v.form) it.judged ∙ xs.1) it.goes_on) (back it.part.faults it.rest.faults all) in
    (b.0, it.form ∙ b.1)

found_first : {A : Type 0} (x : Option A) (a : A) (xs : List (Option A)) → x ≡ Some a → AreFound xs → AreFound (x ∷ xs)
found_first x a xs e h = subst (λ z. AreFound (z ∷ xs)) (sym e) h

value_of_form : (go : ValueOf GoType → Verdict (ValueOf GoType) → Type 0) → ((a : ValueOf GoType) → HasForm (go a)) → (x : OperandOf GoType) → HasForm (value_of go x)
value_of_form go h x = after_form _ _ (after_form _ _ (as_value_form x) h) (λ y. good_form _)

name_of_type_form : (context : Context) (qualifier : Option Name) (name : Name) → HasForm (name_of_type context qualifier name)
name_of_type_form context None name = type_named_form context.names name
name_of_type_form context (Some qualifier) name = qualified_type_form context.exports context.names qualifier name

-- a field that is embedded, behind its type and its name
embedded_one_whole : (z : Verdict GoType) (fresh : Verdict Distinct) (one : Verdict (FieldOf GoType)) (rest : Verdict (List (FieldOf GoType))) (go : GoType → Verdict (FieldOf GoType) → Type 0) → on go z.form one → Whole z → Whole fresh → ((s : GoType) → HasForm (go s)) → Whole rest
    → Whole (both (λ s fs. fs) z (both behind_names fresh (first_of_list one rest)))
embedded_one_whole z fresh one rest go it h d k hs none =
    let a = h (front z.faults (fresh.faults ++ (one.faults ++ rest.faults)) none) in
    both_whole _ z _ h (both_whole behind_names fresh _ d (both_whole _ one rest (λ no. k a.0 one (subst (λ form. on go form one) a.1 it) no) hs)) none

module _ (context : Context) (place : Pos) where
  unary_of_form : (operator : UnaryOperator) (x : OperandOf GoType) → HasForm (unary_of context.table place operator x)
  unary_of_form u.Dereference x = dereference_form context.table place x
  unary_of_form u.Address x = address_form place x
  unary_of_form u.Plus x = value_of_form _ (unary_form context.table place u.Plus) x
  unary_of_form u.Minus x = value_of_form _ (unary_form context.table place u.Minus) x
  unary_of_form u.Not x = value_of_form _ (unary_form context.table place u.Not) x
  unary_of_form u.Complement x = value_of_form _ (unary_form context.table place u.Complement) x

  converted_form : (s : GoType) (spread : Bool) (xs : List (Option (OperandOf GoType))) → AreFound xs → HasForm (converted context.table place s spread xs)
  converted_form s false (Some a ∷ []) h = conversion_form context.table place s a
  converted_form s false (None ∷ []) h = absurd h
  converted_form s false [] h = not_called_form context.table place 50 [] h
  converted_form s false (a ∷ b ∷ xs) h = not_called_form context.table place 50 (a ∷ b ∷ xs) h
  converted_form s true xs h = not_called_form context.table place 50 xs h

  builtin_called_form : (function : Option Builtin) (spread : Bool) (xs : List (Option (OperandOf GoType))) → AreFound xs → HasForm (builtin_called function context.table place spread xs)
  builtin_called_form None spread xs h = bad_form 41 place
  builtin_called_form (Some function) spread xs h = builtin_form context.table place function spread xs h

  call_of_form : (spread : Bool) (xs : List (Option (OperandOf GoType))) → AreFound xs → (x : OperandOf GoType) → HasForm (call_of context place spread xs x)
  call_of_form spread xs h (o.Type at s) = converted_form s spread xs h
  call_of_form spread xs h (o.Builtin at name) = builtin_called_form (builtin_of name) spread xs h
  call_of_form spread xs h (o.Value a) = call_form context.table place context.path context.direct spread (o.Value a) xs h
  call_of_form spread xs h (o.Method at of calls form bound) = call_form context.table place context.path context.direct spread (o.Method at of calls form bound) xs h
  call_of_form spread xs h (o.Crossing at of code) = call_form context.table place context.path context.direct spread (o.Crossing at of code) xs h
  call_of_form spread xs h (o.Results at of form) = call_form context.table place context.path context.direct spread (o.Results at of form) xs h
  call_of_form spread xs h (o.OpenArray at element) = call_form context.table place context.path context.direct spread (o.OpenArray at element) xs h
  call_of_form spread xs h (o.Package at path) = call_form context.table place context.path context.direct spread (o.Package at path) xs h
  call_of_form spread xs h (o.Cross at) = call_form context.table place context.path context.direct spread (o.Cross at) xs h
  call_of_form spread xs h (o.Realm at) = call_form context.table place context.path context.direct spread (o.Realm at) xs h

-- ---- the whole, along what was judged

module _ (context : Context) where
  mutual
    pub judges_whole : {e : Expr} {y : Verdict (OperandOf GoType)} → Judges context e y → Whole y
    judges_whole (j.literal_expr {y = y} l e h) = literal_form l y h
    judges_whole (j.name_expr {y = y} name e h) = named_form context.names name.pos name.text y h
    judges_whole (j.paren_expr at inner e h) = judges_whole h
    judges_whole (j.composite_expr {y = y} of at first es z elements e h k is) = λ none.
        let all = faults_of y _ (z.faults ++ elements.faults) is none in
        let a = elements_whole k (literal_type_whole h (front z.faults elements.faults all)) (back z.faults elements.faults all) in
        (o.Value a.0, form_of y _ _ is ∙ ap (option_map o.Value) a.1)
    judges_whole (j.function_expr {y = y} at signature body z e h it) = behind z _ y it (signature_whole h) (λ s. good_form _)
    judges_whole (j.type_expr {y = y} of z e closed h it) = behind z _ y it (type_whole h) (λ s. good_form _)
    judges_whole (j.open_array {y = y} of element at z e d h it) = behind z _ y it (type_whole h) (λ s. good_form _)
    judges_whole (j.primary_expr operand steps z e h hs) = steps_whole hs (judges_whole h)
    judges_whole (j.unary_expr {y = y} at operator operand z e h it) = behind z _ y it (judges_whole h) (unary_of_form context at operator)
    judges_whole (j.binary_expr first rest z e h hs) = operations_whole hs (judges_whole h)

    operations_whole : {x y : Verdict (OperandOf GoType)} {os : List Operation} → JudgesOperations context x os y → Whole x → Whole y
    operations_whole (j.no_operation {x = x} {y = y} e) h = same_whole y x e h
    operations_whole (j.one_operation {x = x} {operation = operation} z left right next h l r it hs) k = operations_whole hs (made_whole o.Value next
        (behind_both left right _ next it (behind x _ left l k as_value_form) (behind z _ right r (judges_whole h) as_value_form) (binary_form context.table operation.pos operation.operator)))

    steps_whole : {x y : Verdict (OperandOf GoType)} {steps : List Step} → JudgesSteps context x steps y → Whole x → Whole y
    steps_whole (j.no_step {x = x} {y = y} e) h = same_whole y x e h
    steps_whole (j.one_step next h hs) k = steps_whole hs (step_whole h k)

    step_whole : {x y : Verdict (OperandOf GoType)} {s : Step} → JudgesStep context x s y → Whole x → Whole y
    step_whole (j.select {x = x} {y = y} at name e it) h = behind x _ y it h (selector_form context.table at context.path name.text context.exports)
    step_whole (j.index_step {x = x} {y = y} at i value z e l k it) h = behind_both value z _ y it (behind x _ value l h as_value_form) (judges_whole k) (λ a. index_form context.table at (o.Value a))
    step_whole (j.slice_step {x = x} {y = y} at low high max value a b c e l ha hb hc it) h = behind_both value _ _ y it (behind x _ value l h as_value_form) (both_whole _ a _ (bound_whole ha) (both_whole _ b c (bound_whole hb) (bound_whole hc))) (λ v. slice_form context.table at (o.Value v))
    step_whole (j.assert_step {x = x} {y = y} at of value z e l k it) h = behind_both value z _ y it (behind x _ value l h as_value_form) (type_whole k) (λ v. assertion_form context.table at (o.Value v))
    step_whole (j.call_step {x = x} {y = y} at arguments spread a z e k it is) h = λ none.
        let all = faults_of y _ (x.faults ++ z.faults) is none in
        let f = h (front x.faults z.faults all) in
        let b = behind_found a _ z it (arguments_whole k) (λ xs found. subst (λ form. HasForm (step_called context at spread xs form)) (sym f.1) (call_of_form context at spread xs found f.0)) (back x.faults z.faults all) in
        (b.0, form_of y _ _ is ∙ b.1)

    bound_whole : {e : Option Expr} {y : Verdict (Option (OperandOf GoType))} → JudgesBound context e y → Whole y
    bound_whole (j.no_bound {y = y} h) = good_whole None y h
    bound_whole (j.one_bound {y = y} z value h it e) = same_whole y _ e (made_whole bound_by value (behind z _ value it (judges_whole h) as_value_form))

    arguments_whole : {es : List Expr} {y : Verdict (List (Option (OperandOf GoType)))} → JudgesArguments context es y → AllFound y
    arguments_whole (j.no_argument {y = y} e) none = ([], ap (λ v. v.form) e, tt)
    arguments_whole (j.one_argument {y = y} z rest h hs e) none =
        let all = faults_of y _ (z.faults ++ rest.faults) e none in
        let a = judges_whole h (front z.faults rest.faults all) in
        let xs = arguments_whole hs (back z.faults rest.faults all) in
        (z.form ∷ xs.0, form_of y _ _ e ∙ ap (option_map (λ ys. z.form ∷ ys)) xs.1, found_first z.form a.0 xs.0 a.1 xs.2)

    literal_type_whole : {e : Expr} {brace first : Pos} {y : Verdict LiteralType} → JudgesLiteralType context e brace first y → Whole y
    literal_type_whole (j.literal_name {y = y} name z e d h is) = same_whole y _ is (made_whole LiteralType.Whole z (type_named_form context.names name z h))
    literal_type_whole (j.literal_qualified {y = y} operand qualifier name s at z e d c b h is) = same_whole y _ is (made_whole LiteralType.Whole z (qualified_type_form context.exports context.names qualifier name z h))
    literal_type_whole (j.literal_paren inner place e h) = literal_type_whole h
    literal_type_whole (j.literal_pointer {first = first} {y = y} inner place z e h it) = behind z _ y it (literal_type_whole h) (pointed_literal_form first)
    literal_type_whole (j.literal_written {first = first} {y = y} of z e d h it) = behind z _ y it (judges_whole h) (as_literal_type_form first)
    literal_type_whole (j.literal_other {first = first} {y = y} z not d h it) = behind z _ y it (judges_whole h) (as_literal_type_form first)

    elements_whole : {first : Pos} {of : Option LiteralType} {es : List Element} {y : Verdict (ValueOf GoType)} → JudgesElements context first of es y → Formed of → Whole y
    elements_whole (j.unknown_type z h it) (t, e) = absurd (search (rules, e))
    elements_whole (j.open_type {first = first} {element = element} {y = y} z h it) formed = behind z _ y it (items_whole h) (list_literal_form context.table first element ListKind.Open element)
    elements_whole (j.whole_type h) formed = composite_whole h

    composite_whole : {first : Pos} {s : GoType} {es : List Element} {y : Verdict (ValueOf GoType)} → JudgesComposite context first s es y → Whole y
    composite_whole (j.of_struct {first = first} {s = s} {es = es} {y = y} fields z is h it) = behind z _ y it (fields_whole h) (struct_literal_form first s context.path fields (keys_of es))
    composite_whole (j.of_list {first = first} {s = s} {y = y} kind element z is h it) = behind z _ y it (items_whole h) (list_literal_form context.table first s kind element)
    composite_whole (j.of_map {first = first} {s = s} {y = y} key value z is h it) = behind z _ y it (pairs_whole h) (map_literal_form first s)
    composite_whole (j.of_none {first = first} {y = y} z not h it) = behind z _ y it (alone_whole h) (λ a. bad_form 60 first)

    inner_whole : {first : Pos} {s : GoType} {es : List Element} {y : Verdict (ValueOf GoType)} → JudgesInner context first s es y → Whole y
    inner_whole (j.itself not h) = composite_whole h
    inner_whole (j.pointed {first = first} {s = s} {y = y} to z is h it) = behind z _ y it (composite_whole h) (elided_form first s)

    part_whole : {s : GoType} {p : Part} {y : Verdict (ValueOf GoType)} → JudgesPart context s p y → Whole y
    part_whole (j.expr_part {y = y} e z d h it) = behind z _ y it (judges_whole h) as_value_form
    part_whole (j.inner_part at es d h) = inner_whole h

    none_faulty : {first : Pos} {es : List Element} {y : Verdict Alone} → JudgesNone context first es y → y.faults ≡ [] → ⊥
    none_faulty (j.none_implied {first = first} {y = y} {z = z} h it) = faulty z 60 first y it (alone_whole h)

    alone_whole : {es : List Element} {y : Verdict Alone} → JudgesAlone context es y → Whole y
    alone_whole (j.none_alone {y = y} e) = good_whole alone y e
    alone_whole (j.one_alone {y = y} key value rest h k hs e) = same_whole y _ e (both_whole _ key _ (alone_key_whole h) (both_whole _ value rest (alone_part_whole k) (alone_whole hs)))

    alone_key_whole : {p : Option Part} {y : Verdict Alone} → JudgesAloneKey context p y → Whole y
    alone_key_whole (j.absent_key {y = y} e) = good_whole alone y e
    alone_key_whole (j.name_key {y = y} name d e) = good_whole alone y e
    alone_key_whole (j.other_key d h) = alone_part_whole h

    alone_part_whole : {p : Part} {y : Verdict Alone} → JudgesAlonePart context p y → Whole y
    alone_part_whole (j.alone_expr {y = y} e z d h it) = behind z _ y it (judges_whole h) (λ a. after_form _ _ (as_value_form a) (λ b. good_form _))
    alone_part_whole (j.alone_inner at es d h) = alone_whole h

    fields_whole : {fields : List (FieldOf GoType)} {keyed : Bool} {k : ℕ} {es : List Element} {y : Verdict (Gathered (FieldValueOf GoType))} → JudgesFields context fields keyed k es y → Whole y
    fields_whole (j.no_field {y = y} e) = good_whole nothing_gathered y e
    fields_whole (j.one_field {y = y} z rest h hs e) = same_whole y _ e (both_whole gathered z rest (field_whole h) (fields_whole hs))

    field_whole : {place : Option FieldPlace} {p : Part} {y : Verdict (Gathered (FieldValueOf GoType))} → JudgesField context place p y → Whole y
    field_whole (j.expr_field {place = place} {y = y} e z d h it) = behind z _ y it (judges_whole h) (field_given_form context.table place)
    field_whole (j.inner_field {y = y} at es z d h it) = never z y it (none_faulty h)

    items_whole : {element : GoType} {es : List Element} {y : Verdict (Gathered Item)} → JudgesItems context element es y → Whole y
    items_whole (j.none_of_list {y = y} e) = good_whole nothing_gathered y e
    items_whole (j.one_of_list {element = element} {y = y} key z value rest h k it hs e) = same_whole y _ e (both_whole gathered _ rest (both_whole item_of key value (index_key_whole h) (behind z _ value it (part_whole k) (filled_form context.table element))) (items_whole hs))

    index_key_whole : {p : Option Part} {y : Verdict IndexKey} → JudgesIndexKey context p y → Whole y
    index_key_whole (j.no_index {y = y} e) = good_whole IndexKey.Absent y e
    index_key_whole (j.expr_index {y = y} e z d h it) = behind z _ y it (judges_whole h) (key_found_form context.table)
    index_key_whole (j.inner_index {y = y} at es z d h it) = never z y it (none_faulty h)

    pairs_whole : {key value : GoType} {es : List Element} {y : Verdict (Gathered MapItem)} → JudgesPairs context key value es y → Whole y
    pairs_whole (j.no_pair {y = y} e) = good_whole nothing_gathered y e
    pairs_whole (j.one_pair {value = value} {y = y} found z given_value rest h k it hs e) = same_whole y _ e (both_whole gathered _ rest (both_whole pair_item found given_value (map_key_whole h) (behind z _ given_value it (part_whole k) (filled_form context.table value))) (pairs_whole hs))

    map_key_whole : {key : GoType} {p : Option Part} {y : Verdict MapKey} → JudgesMapKey context key p y → Whole y
    map_key_whole (j.no_map_key {y = y} e) = good_whole no_key y e
    map_key_whole (j.one_map_key {key = key} {y = y} z h it) = behind z _ y it (part_whole h) (map_key_form context.table key)

    pub type_whole : {x : TypeExpr} {y : Verdict GoType} → JudgesType context x y → Whole y
    type_whole (j.name_type {y = y} name e h) = name_of_type_form context name.qualifier name.name y h
    type_whole (j.paren_type at inner e h) = type_whole h
    type_whole (j.pointer_type {y = y} at to z e h is) = same_whole y _ is (made_whole pointer_to z (type_whole h))
    type_whole (j.slice_type {y = y} at element z e h is) = same_whole y _ is (made_whole (list_of true) z (type_whole h))
    type_whole (j.array_of {y = y} at written element count length_found z e h it k also) = behind_both length_found z _ y also (behind count _ length_found it (judges_whole h) (array_length_form context.table at)) (type_whole k) (array_type_form context.table at)
    type_whole (j.open_alone {y = y} at element z e h it) = behind z _ y it (type_whole h) (λ s. bad_form 78 at)
    type_whole (j.map_of {y = y} at key value a b e h k it) = behind_both a b _ y it (type_whole h) (type_whole k) (map_type_form context.table at)
    type_whole (j.function_of at signature e h) = signature_whole h
    type_whole (j.struct_of {y = y} at fields z e h it) = behind z _ y it (field_types_whole h) (struct_type_form context.table at)
    type_whole (j.interface_of {y = y} at members names z e h d all k is) = λ none.
        let before = both (λ ms fresh. fresh) z names in
        let faults = sym (ap (λ v. v.faults) is) ∙ none in
        let first = front before.faults all.faults faults in
        let a = methods_whole h (front z.faults names.faults first) in
        let b = distinct_form [] (method_names members) names d (back z.faults names.faults first) in
        let c = embedded_whole k a (back before.faults all.faults faults) in
        same_whole y _ is (both_whole _ before all (both_whole _ z names (methods_whole h) (distinct_form [] (method_names members) names d)) (embedded_whole k a)) none

    signature_whole : {x : Signature} {y : Verdict GoType} → JudgesSignature context x y → Whole y
    signature_whole (j.signature_of {y = y} names params results d h k is) = same_whole y _ is (both_whole _ names _ (distinct_form _ _ names d) (both_whole _ params results (parameters_whole h) (parameters_whole k)))

    parameters_whole : {ps : List Parameter} {y : Verdict (List GoType)} → JudgesParameters context ps y → Whole y
    parameters_whole (j.no_parameter {y = y} e) = good_whole [] y e
    parameters_whole (j.one_parameter {y = y} z rest h hs e) = same_whole y _ e (both_whole _ z rest (type_whole h) (parameters_whole hs))

    field_types_whole : {before : List Name} {fs : List Field} {y : Verdict (List (FieldOf GoType))} → JudgesFieldTypes context before fs y → Whole y
    field_types_whole (j.no_field_type {y = y} e) = good_whole [] y e
    field_types_whole (j.named_fields {before = before} {y = y} names of z fresh rest e h d hs is) = same_whole y _ is (both_whole _ z _ (type_whole h) (both_whole behind_names fresh rest (distinct_form before names fresh d) (field_types_whole hs)))
    field_types_whole (j.embedded_one {before = before} {y = y} star of z fresh one rest e h d it hs is) = same_whole y _ is (embedded_one_whole z fresh one rest _ it (name_of_type_form context of.qualifier of.name z h) (distinct_form before (of.name ∷ []) fresh d)
        (embedded_field_form context.table _ context.path (is_found star) of.name.text) (field_types_whole hs))

    methods_whole : {ms : List Member} {y : Verdict (List (MethodOf GoType))} → JudgesMethods context ms y → Whole y
    methods_whole (j.no_method {y = y} e) = good_whole [] y e
    methods_whole (j.named_method {y = y} name signature z one rest e h it hs is) = same_whole y _ is (both_whole _ one rest (behind z _ one it (signature_whole h) (interface_method_form context.path name)) (methods_whole hs))
    methods_whole (j.embedded_later of e hs) = methods_whole hs

    embedded_whole : {before : Option (List (MethodOf GoType))} {ms : List Member} {y : Verdict (List (MethodOf GoType))} → JudgesEmbedded context before ms y → Formed before → Whole y
    embedded_whole (j.all_embedded {y = y} e) formed = λ none. (formed.0, ap (λ v. v.form) e ∙ formed.1)
    embedded_whole (j.not_embedded name signature e hs) formed = embedded_whole hs formed
    embedded_whole (j.one_embedded {y = y} of z methods next rest e h it also hs is) formed = λ none.
        let all = faults_of y _ (next.faults ++ rest.faults) is none in
        let a = behind_both _ methods _ next also (λ d. formed) (behind z _ methods it (name_of_type_form context of.qualifier of.name z h) (embedded_methods_form context.table _)) (with_embedded_form context.table _) (front next.faults rest.faults all) in
        let b = embedded_whole hs a (back next.faults rest.faults all) in
        (b.0, form_of y _ _ is ∙ b.1)
