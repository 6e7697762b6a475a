-- Each expression and each type as it is written has one verdict.
use Rattle.std.proofs.Common.{◌≡◌, sym, ap, ◌∙◌, subst, ℕ, ◌++◌, List, [], ◌∷◌, Bool, true, false, Option, Some, None, option_map, inl, inr, rules}
use Rattle.gno_scan.specs.declared.token.Pos.{Pos}
use Rattle.gno_terms.specs.declared.term.FieldOf.{FieldOf}
use Rattle.gno_terms.specs.declared.term.GoType.{GoType}
use Rattle.gno_terms.specs.declared.term.MethodOf.{MethodOf}
use Rattle.gno_terms.specs.declared.term.TermOf.TheVariants as t
use Rattle.gno_terms.specs.Tables.{Table, Underlying}
use Rattle.gno_terms.specs.Terms.{term_of}
use Rattle.gno_tree.specs.declared.expr.Element.{Element}
use Rattle.gno_tree.specs.declared.expr.Expr.{Expr}
use Rattle.gno_tree.specs.declared.expr.Operation.{Operation}
use Rattle.gno_tree.specs.declared.expr.Part.{Part}
use Rattle.gno_tree.specs.declared.expr.Step.{Step}
use Rattle.gno_tree.specs.declared.operator.UnaryOperator.{UnaryOperator}
use Rattle.gno_tree.specs.declared.operator.UnaryOperator.TheVariants as u
use Rattle.gno_tree.specs.declared.type_expr.Field.{Field}
use Rattle.gno_tree.specs.declared.type_expr.ArrayLength.TheVariants as size
use Rattle.gno_tree.specs.declared.type_expr.Member.{Member}
use Rattle.gno_tree.specs.declared.type_expr.Parameter.{Parameter}
use Rattle.gno_tree.specs.declared.type_expr.Signature.{Signature, out-Signature}
use Rattle.gno_tree.specs.declared.type_expr.TypeExpr.{TypeExpr}
use Rattle.gno_tree.specs.declared.type_expr.TypeExpr.TheVariants as ty
use Rattle.gno_tree.specs.declared.word.Name.{Name}
use Rattle.gno_tree_typing.specs.Composites.{FieldPlace, Gathered, HasItems, IndexKey, Item, ListKind, MapItem, MapKey, elided, gathered, list_literal, map_literal, has_keys, is_found, struct_literal}
use Rattle.gno_tree_typing.specs.WrittenTypes.{embedded_field, interface_type, qualified_type}
use Rattle.gno_typed.specs.declared.elements.FieldValueOf.{FieldValueOf}
use Rattle.gno_typing.specs.Builtins.{Builtin}
use Rattle.gno_typing.specs.Calls.{call, each_alone, not_called, several_in, times}
use Rattle.gno_typing.specs.Giving.{both, made}
use Rattle.gno_typing.specs.Indexes.{HasKeys}
use Rattle.gno_typing.specs.Names.{builtin_of}
use Rattle.gno_typing.specs.Operands.{as_value}
use Rattle.gno_typing.specs.Pointers.{pointer_to}
use Rattle.gno_typing.specs.Verdicts.{Verdict, After, good, on}
use Rattle.gno_typing.specs.declared.operand.OperandOf.{OperandOf}
use Rattle.gno_typing.specs.declared.operand.OperandOf.TheVariants as o
use Rattle.gno_typing.specs.declared.value.ValueOf.{ValueOf}
use Rattle.gno_embedding.specs.Walking.{HasOneDefinition}
use Rattle.gno_tree_typing.specs.Judging.{Alone, Behind, BehindBoth, Context, LiteralType, alone, as_literal_type, behind_names, bound_by, bounds_of, builtin_called, call_of, converted, converted_one, fields_of, first_of_list, function_type, function_value, is_dereference, is_name, is_one_selector, is_open, is_selector, is_type_operand, item_of, key_of, keys_of, list_of, literal, method_names, name_of_type, names_of_all, pair_item, parameter_types, place_by, pointed_literal, star_place, step_called, type_place, unary_of, value_of, is_variadic, HasLiterals, IsStruct}
use Rattle.gno_tree_typing.specs.Judging.{Judges, JudgesAlone, JudgesAloneKey, JudgesAlonePart, JudgesArguments, JudgesBound, JudgesComposite, JudgesElements, JudgesEmbedded, JudgesField, JudgesFieldTypes, JudgesFields, JudgesIndexKey, JudgesInner, JudgesItems, JudgesLiteralType, JudgesMapKey, JudgesMethods, JudgesNone, JudgesOperations, JudgesPairs, JudgesParameters, JudgesPart, JudgesSignature, JudgesStep, JudgesSteps, JudgesType}
use Rattle.gno_tree_typing.specs.Judging as j
use Rattle.gno_terms.specs.declared.term.TermOf.{TermOf}
use Rattle.gno_typing.specs.Calls as calls
use Rattle.gno_typing.specs.Calls.{Several}
use Rattle.gno_tree_typing.specs.Composites.{HasItems as items}
use Rattle.gno_tree_typing.specs.Judging.{HasLiterals as literals}
use Rattle.gno_tree_typing.proofs.Forms.{AloneExpr, AloneInner, ByExpr, ByField, ByLiteralType, ByMember, ByPart, ByStep, ByType, FieldExpr, IndexExpr, JoinedBy, MethodBy, NoneBy, PartExpr, PartInner, QualifiedBy, TypeBy, assertion_is, binary_is, by_alone_part, by_embedded, by_expr, by_field, by_fields, by_index_key, by_literal_type, by_methods, by_part, by_step, by_type, call_is, cast, composite_is, embedded_field_is, function_is, index_is, is_open_of, literal_is, literal_name_is, literal_paren_is, literal_primary_is, literal_unary_is, literal_written_is, member_embedded_is, method_is, name_is, name_same, named_field_is, open_is, other_is, out_of, paren_is, part_expr_is, part_inner_is, primary_is, qualified_true, same_open, select_is, selector_same, sized_is, slice_is, type_array_is, type_function_is, type_interface_is, type_is, type_map_is, type_name_is, type_paren_is, type_pointer_is, type_slice_is, type_struct_is, unary_is}
use Rattle.gno_tree_typing.proofs.RuleOnes.{array_length_one, array_type_one, as_literal_type_one, distinct_one, elided_one, embedded_field_one, embedded_methods_one, field_given_one, filled_one, interface_method_one, key_found_one, list_literal_one, literal_one, map_key_one, map_literal_one, map_type_one, pointed_literal_one, qualified_type_one, struct_literal_one, struct_type_one, type_named_one, with_embedded_one}
use Rattle.gno_typing.proofs.OneBuiltin.{builtin_one}
use Rattle.gno_typing.proofs.OneCall.{call_one, not_called_one}
use Rattle.gno_typing.proofs.OneGiven.{same_one}
use Rattle.gno_typing.proofs.OneName.{named_one}
use Rattle.gno_typing.proofs.OneOperator.{binary_one, unary_one}
use Rattle.gno_typing.proofs.OneParts.{after_both_one, after_one, bad_one, good_one, kept_one, on_one, unjudged_one}
use Rattle.gno_typing.proofs.OnePrimary.{address_one, as_value_one, assertion_one, conversion_one, dereference_one, index_one, slice_one}
use Rattle.gno_typing.proofs.OneSelector.{selector_one}
use Rattle.gno_typing.proofs.OneTypes.{keys_once, points_once, underlying_once}
use Rattle.gno_typing.specs.Laws.{HasOne}

-- ---- how verdicts are put together

two : {A B C : Type 0} (go : A → B → C) {a c : A} {b d : B} → a ≡ c → b ≡ d → go a b ≡ go c d
two go {a} {c} {b} {d} e h = ap (λ n. go n b) e ∙ ap (go c) h

behind_once : {A B : Type 0} (go : A → Verdict B → Type 0) → ((a : A) → HasOne (go a)) → (v w : Verdict A) → v ≡ w → (y z : Verdict B) → Behind v go y → Behind w go z → y ≡ z
behind_once go h v w e y z it other = after_one (λ a. a ≡ v) go (same_one v) h y z it (subst (λ n. Behind n go z) (sym e) other)

behind_both_once : {A B C : Type 0} (go : A → B → Verdict C → Type 0) → ((a : A) (b : B) → HasOne (go a b)) → (v w : Verdict A) → v ≡ w → (p q : Verdict B) → p ≡ q → (y z : Verdict C) → BehindBoth v p go y → BehindBoth w q go z → y ≡ z
behind_both_once go h v w e p q d y z it other = after_both_one (λ a. a ≡ v) (λ b. b ≡ p) go (same_one v) (same_one p) h y z it (subst (λ n. BehindBoth v n go z) (sym d) (subst (λ n. BehindBoth n q go z) (sym e) other))

-- the form of one verdict, and the faults of two
abbrev both_faults : {A B C : Type 0} → (Option B → Option C) → Verdict A → Verdict B → Verdict C
both_faults go v w = record { form = go w.form; faults = v.faults ++ w.faults }

abbrev same_form : {A : Type 0} → Option A → Option A
same_form a = a

module _ (context : Context) (one : HasOneDefinition context.table) (place : Pos) where
  value_of_one : (go : ValueOf GoType → Verdict (ValueOf GoType) → Type 0) → ((a : ValueOf GoType) → HasOne (go a)) → (a : OperandOf GoType) → HasOne (value_of go a)
  value_of_one go h a = after_one _ _ (after_one _ _ (as_value_one a) h) (λ b. good_one _)

  unary_of_one : (operator : UnaryOperator) (a : OperandOf GoType) → HasOne (unary_of context.table place operator a)
  unary_of_one u.Dereference a = dereference_one context.table place one a
  unary_of_one u.Address a = address_one place a
  unary_of_one u.Plus a = value_of_one _ (unary_one context.table place one u.Plus) a
  unary_of_one u.Minus a = value_of_one _ (unary_one context.table place one u.Minus) a
  unary_of_one u.Not a = value_of_one _ (unary_one context.table place one u.Not) a
  unary_of_one u.Complement a = value_of_one _ (unary_one context.table place one u.Complement) a

  converted_to_one : (s : GoType) (spread : Bool) (xs : List (Option (OperandOf GoType))) → HasOne (converted context.table place s spread xs)
  converted_to_one s false (Some a ∷ []) = conversion_one context.table place one s a
  converted_to_one s false (None ∷ []) = unjudged_one
  converted_to_one s false [] = not_called_one context.table place 50 []
  converted_to_one s false (a ∷ b ∷ xs) = not_called_one context.table place 50 (a ∷ b ∷ xs)
  converted_to_one s true xs = not_called_one context.table place 50 xs

  builtin_called_one : (function : Option Builtin) (spread : Bool) (xs : List (Option (OperandOf GoType))) → HasOne (builtin_called function context.table place spread xs)
  builtin_called_one None spread xs = bad_one 41 place
  builtin_called_one (Some function) spread xs = builtin_one context.table place one function spread xs

  call_of_one : (spread : Bool) (xs : List (Option (OperandOf GoType))) (a : OperandOf GoType) → HasOne (call_of context place spread xs a)
  call_of_one spread xs (o.Type at s) = converted_to_one s spread xs
  call_of_one spread xs (o.Builtin at name) = builtin_called_one (builtin_of name) spread xs
  call_of_one spread xs (o.Value a) = call_one context.table place one context.path context.direct spread (o.Value a) xs
  call_of_one spread xs (o.Method at of calls form bound) = call_one context.table place one context.path context.direct spread (o.Method at of calls form bound) xs
  call_of_one spread xs (o.Crossing at of code) = call_one context.table place one context.path context.direct spread (o.Crossing at of code) xs
  call_of_one spread xs (o.Results at of form) = call_one context.table place one context.path context.direct spread (o.Results at of form) xs
  call_of_one spread xs (o.OpenArray at element) = call_one context.table place one context.path context.direct spread (o.OpenArray at element) xs
  call_of_one spread xs (o.Package at path) = call_one context.table place one context.path context.direct spread (o.Package at path) xs
  call_of_one spread xs (o.Cross at) = call_one context.table place one context.path context.direct spread (o.Cross at) xs
  call_of_one spread xs (o.Realm at) = call_one context.table place one context.path context.direct spread (o.Realm at) xs

  as_operand : (a : OperandOf GoType) → HasOne (After (as_value a) (λ b. good (o.Value b)))
  as_operand a = after_one _ _ (as_value_one a) (λ b. good_one _)

  alone_operand_one : (a : OperandOf GoType) → HasOne (calls.alone a)
  alone_operand_one (o.Type at s) = good_one _
  alone_operand_one (o.OpenArray at s) = good_one _
  alone_operand_one (o.Value a) = as_operand (o.Value a)
  alone_operand_one (o.Method at of calls form bound) = as_operand (o.Method at of calls form bound)
  alone_operand_one (o.Crossing at of code) = as_operand (o.Crossing at of code)
  alone_operand_one (o.Results at of form) = as_operand (o.Results at of form)
  alone_operand_one (o.Package at path) = as_operand (o.Package at path)
  alone_operand_one (o.Builtin at name) = as_operand (o.Builtin at name)
  alone_operand_one (o.Cross at) = as_operand (o.Cross at)
  alone_operand_one (o.Realm at) = as_operand (o.Realm at)

  each_alone_one : (several : Option Several) (xs : List (Option (OperandOf GoType))) → HasOne (each_alone several xs)
  each_alone_one (Some it) xs = good_one xs
  each_alone_one None xs = kept_one calls.alone alone_operand_one xs

  step_called_one : (spread : Bool) (xs : List (Option (OperandOf GoType))) (a : Option (OperandOf GoType)) → HasOne (step_called context place spread xs a)
  step_called_one spread xs None = after_one _ _ (each_alone_one (several_in xs) xs) (λ ys. unjudged_one)
  step_called_one spread xs (Some a) = call_of_one spread xs a

-- ---- which literals a type has

module _ (table : Table) (one : HasOneDefinition table) (s : GoType) where
  term_same : (a b : GoType) {p q : TermOf GoType} → Underlying table s a → Underlying table s b → term_of a ≡ p → term_of b ≡ q → p ≡ q
  term_same a b ha hb e d = sym e ∙ ap term_of (underlying_once table one s a b ha hb) ∙ d

  struct_same : (fs gs : List (FieldOf GoType)) → t.Struct fs ≡ t.Struct gs → fs ≡ gs
  struct_same fs gs e = cc

  struct_once : (fs gs : List (FieldOf GoType)) → IsStruct table s fs → IsStruct table s gs → fs ≡ gs
  struct_once fs gs h k = struct_same fs gs (term_same h.underlying k.underlying h.by k.by h.is k.is)

  struct_no_list : (fs : List (FieldOf GoType)) (kind : ListKind) (element : GoType) → IsStruct table s fs → HasItems table s kind element → ⊥
  struct_no_list fs kind _ h (items.of_array v element count by is e) = let d = term_same h.underlying v h.by by h.is is in cc
  struct_no_list fs kind _ h (items.of_slice v element by is e) = let d = term_same h.underlying v h.by by h.is is in cc

  struct_no_map : (fs : List (FieldOf GoType)) (key value : GoType) → IsStruct table s fs → HasKeys table s key value → ⊥
  struct_no_map fs key value h k = let d = term_same h.underlying k.underlying h.by k.by h.is k.is in cc

  list_no_map : (kind : ListKind) (element key value : GoType) → HasItems table s kind element → HasKeys table s key value → ⊥
  list_no_map kind _ key value (items.of_array v element count by is e) k = let d = term_same v k.underlying by k.by is k.is in cc
  list_no_map kind _ key value (items.of_slice v element by is e) k = let d = term_same v k.underlying by k.by is k.is in cc

  array_same : (m n : ℕ) (a b : GoType) → t.Array m a ≡ t.Array n b → (m ≡ n) × (a ≡ b)
  array_same m n a b e = (cc, cc)

  slice_same : (a b : GoType) → t.Slice a ≡ t.Slice b → a ≡ b
  slice_same a b e = cc

  list_once : (kind other : ListKind) (element found : GoType) → HasItems table s kind element → HasItems table s other found → (kind ≡ other) × (element ≡ found)
  list_once kind other _ _ (items.of_array v element m by is e) (items.of_array w found n also are d) = let same = array_same m n element found (term_same v w by also is are) in (e ∙ ap ListKind.Array same.0 ∙ sym d, same.1)
  list_once kind other _ _ (items.of_array v element m by is e) (items.of_slice w found also are d) = let same = term_same v w by also is are in absurd cc
  list_once kind other _ _ (items.of_slice v element by is e) (items.of_array w found n also are d) = let same = term_same v w by also is are in absurd cc
  list_once kind other _ _ (items.of_slice v element by is e) (items.of_slice w found also are d) = (e ∙ sym d, slice_same element found (term_same v w by also is are))

open_same : (a b : GoType) → Some (LiteralType.Open a) ≡ Some (LiteralType.Open b) → a ≡ b
open_same a b e = cc

whole_same : (a b : GoType) → Some (LiteralType.Whole a) ≡ Some (LiteralType.Whole b) → a ≡ b
whole_same a b e = cc

name_of_type_one : (context : Context) (qualifier : Option Name) (name : Name) → HasOne (name_of_type context qualifier name)
name_of_type_one context None name = type_named_one context.names name
name_of_type_one context (Some qualifier) name = qualified_type_one context.exports context.names qualifier name

-- ---- a type where an operand stands

module _ (context : Context) where
  type_operand_once : (of : TypeExpr) (y z : Verdict (OperandOf GoType)) → is_open of ≡ false → (v : Verdict GoType) → ((w : Verdict GoType) → JudgesType context of w → v ≡ w) → Behind v (λ s. good (o.Type (type_place of) s)) y → TypeBy context of z → y ≡ z
  type_operand_once of y z closed v h it (inl (also, w, k, d)) = behind_once _ (λ s. good_one _) v w (h w k) y z it d
  type_operand_once of y z closed v h it (inr (at, element, w, d, k, b)) = absurd (search (rules, sym closed ∙ is_open_of context of element at d))

  open_operand_once : (of element : TypeExpr) (at : Pos) (y z : Verdict (OperandOf GoType)) → of ≡ ty.Array at size.Elements element → (v : Verdict GoType) → ((w : Verdict GoType) → JudgesType context element w → v ≡ w) → Behind v (λ s. good (o.OpenArray at s)) y → TypeBy context of z → y ≡ z
  open_operand_once of element at y z e v h it (inl (closed, w, k, d)) = absurd (search (rules, sym closed ∙ is_open_of context of element at e))
  open_operand_once of element at y z e v h it (inr (place, inner, w, d, k, b)) =
      let same = same_open context at place element inner (sym e ∙ d) in
      behind_once (λ s. good (o.OpenArray at s)) (λ s. good_one _) v w (h w (subst (λ n. JudgesType context n w) (sym same.1) k)) y z it (subst (λ p. Behind w (λ s. good (o.OpenArray p s)) z) (sym same.0) b)

-- ---- the whole, along what was judged

module _ (context : Context) (one : HasOneDefinition context.table) where
  mutual
    pub judges_once : {e : Expr} {y z : Verdict (OperandOf GoType)} → Judges context e y → Judges context e z → y ≡ z
    judges_once {e} {y} {z} (j.literal_expr l is h) other = literal_one l y z h (out_of (ByExpr context z) e _ is (literal_is context l z) (by_expr context other))
    judges_once {e} {y} {z} (j.name_expr name is h) other = named_one context.names name.pos name.text y z h (out_of (ByExpr context z) e _ is (name_is context name z) (by_expr context other))
    judges_once {e} {y} {z} (j.paren_expr at inner is h) other = judges_once h (out_of (ByExpr context z) e _ is (paren_is context at inner z) (by_expr context other))
    judges_once {e} {y} {z} (j.composite_expr of at first es v elements is h k d) other =
        let it = out_of (ByExpr context z) e _ is (composite_is context of at es z) (by_expr context other) in
        let same = literal_type_once h it.3 in
        d ∙ two (both_faults (option_map o.Value)) same.1 (elements_once k (subst (λ p. JudgesElements context p it.1.form es it.2) (sym same.0) it.4) (ap (λ v. v.form) same.1)) ∙ sym it.5
    judges_once {e} {y} {z} (j.function_expr at signature body v is h it) other =
        let k = out_of (ByExpr context z) e _ is (function_is context at signature body z) (by_expr context other) in
        behind_once _ (λ s. good_one _) v k.0 (signature_once h k.1) y z it k.2
    judges_once {e} {y} {z} (j.type_expr of v is closed h it) other = type_operand_once context of y z closed v (λ w k. type_once h k) it (out_of (ByExpr context z) e _ is (type_is context of z) (by_expr context other))
    judges_once {e} {y} {z} (j.open_array of element at v is d h it) other = open_operand_once context of element at y z d v (λ w k. type_once h k) it (out_of (ByExpr context z) e _ is (type_is context of z) (by_expr context other))
    judges_once {e} {y} {z} (j.primary_expr operand steps v is h hs) other =
        let k = out_of (ByExpr context z) e _ is (primary_is context operand steps z) (by_expr context other) in
        steps_once hs (judges_once h k.1) k.2
    judges_once {e} {y} {z} (j.unary_expr at operator operand v is h it) other =
        let k = out_of (ByExpr context z) e _ is (unary_is context at operator operand z) (by_expr context other) in
        behind_once _ (unary_of_one context one at operator) v k.0 (judges_once h k.1) y z it k.2
    judges_once {e} {y} {z} (j.binary_expr first rest v is h hs) other =
        let k = out_of (ByExpr context z) e _ is (binary_is context first rest z) (by_expr context other) in
        operations_once hs (judges_once h k.1) k.2

    operations_once : {v w y z : Verdict (OperandOf GoType)} {os : List Operation} → JudgesOperations context v os y → v ≡ w → JudgesOperations context w os z → y ≡ z
    operations_once (j.no_operation is) e (j.no_operation also) = is ∙ e ∙ sym also
    operations_once {v} {w} (j.one_operation {operation = operation} a left right next h l r it hs) e (j.one_operation b front back after k m n d ks) =
        operations_once hs (ap (made o.Value) (behind_both_once _ (binary_one context.table operation.pos operation.operator) left front (behind_once _ as_value_one v w e left front l m) right back (behind_once _ as_value_one a b (judges_once h k) right back r n) next after it d)) ks

    steps_once : {v w y z : Verdict (OperandOf GoType)} {steps : List Step} → JudgesSteps context v steps y → v ≡ w → JudgesSteps context w steps z → y ≡ z
    steps_once (j.no_step is) e (j.no_step also) = is ∙ e ∙ sym also
    steps_once (j.one_step next h hs) e (j.one_step after k ks) = steps_once hs (step_once h e k) ks

    step_once : {v w y z : Verdict (OperandOf GoType)} {s : Step} → JudgesStep context v s y → v ≡ w → JudgesStep context w s z → y ≡ z
    step_once {v} {w} {y} {z} {s} (j.select at name is it) e other = behind_once _ (selector_one context.exports context.path context.table one at name.text) v w e y z it (out_of (ByStep context w z) s _ is (select_is context w z at name) (by_step context other))
    step_once {v} {w} {y} {z} {s} (j.index_step at i value a is l h it) e other =
        let k = out_of (ByStep context w z) s _ is (index_is context w z at i) (by_step context other) in
        behind_both_once _ (λ b. index_one context.table at one (o.Value b)) value k.0 (behind_once _ as_value_one v w e value k.0 l k.2) a k.1 (judges_once h k.3) y z it k.4
    step_once {v} {w} {y} {z} {s} (j.slice_step at low high max value a b c is l ha hb hc it) e other =
        let k = out_of (ByStep context w z) s _ is (slice_is context w z at low high max) (by_step context other) in
        behind_both_once _ (λ d. slice_one context.table at one (o.Value d)) value k.0 (behind_once _ as_value_one v w e value k.0 l k.4) (bounds_of a b c) (bounds_of k.1 k.2 k.3)
        (ap (λ p. bounds_of p b c) (bound_once ha k.5) ∙ ap (λ p. bounds_of k.1 p c) (bound_once hb k.6) ∙ ap (bounds_of k.1 k.2) (bound_once hc k.7)) y z it k.8
    step_once {v} {w} {y} {z} {s} (j.assert_step at of value a is l h it) e other =
        let k = out_of (ByStep context w z) s _ is (assertion_is context w z at of) (by_step context other) in
        behind_both_once _ (λ b. assertion_one context.table at (o.Value b)) value k.0 (behind_once _ as_value_one v w e value k.0 l k.2) a k.1 (type_once h k.3) y z it k.4
    step_once {v} {w} {y} {z} {s} (j.call_step at arguments spread a r is h it d) e other =
        let k = out_of (ByStep context w z) s _ is (call_is context w z at arguments spread) (by_step context other) in
        d ∙ two (both_faults same_form) e (behind_once (λ xs. step_called context at spread xs v.form) (λ xs. step_called_one context one at spread xs v.form) a k.0 (arguments_once h k.2) r k.1 it (subst (λ n. Behind k.0 (λ xs. step_called context at spread xs n.form) k.1) (sym e) k.3)) ∙ sym k.4

    bound_once : {e : Option Expr} {y z : Verdict (Option (OperandOf GoType))} → JudgesBound context e y → JudgesBound context e z → y ≡ z
    bound_once (j.no_bound is) (j.no_bound also) = is ∙ sym also
    bound_once (j.one_bound v value h it is) (j.one_bound w other k d also) = is ∙ ap (made bound_by) (behind_once _ as_value_one v w (judges_once h k) value other it d) ∙ sym also

    arguments_once : {es : List Expr} {y z : Verdict (List (Option (OperandOf GoType)))} → JudgesArguments context es y → JudgesArguments context es z → y ≡ z
    arguments_once (j.no_argument is) (j.no_argument also) = is ∙ sym also
    arguments_once (j.one_argument v rest h hs is) (j.one_argument w more k ks also) = is ∙ two (λ a b. record { form = option_map (λ xs. a.form ∷ xs) b.form; faults = a.faults ++ b.faults }) (judges_once h k) (arguments_once hs ks) ∙ sym also

    literal_type_once : {e : Expr} {brace first place : Pos} {y z : Verdict LiteralType} → JudgesLiteralType context e brace first y → JudgesLiteralType context e brace place z → (first ≡ place) × (y ≡ z)
    literal_type_once {e} {brace} {first} {place} {y} {z} (j.literal_name n v is d h f) other =
        let k = out_of (ByLiteralType context e brace place z) e _ is (literal_name_is context e brace place z n) (by_literal_type context other) in
        (d ∙ sym k.1, f ∙ ap (made LiteralType.Whole) (type_named_one context.names n v k.0 h k.2) ∙ sym k.3)
    literal_type_once {e} {brace} {first} {place} {y} {z} (j.literal_qualified operand qualifier name s at v is d c b h f) other =
        let k = out_of (ByLiteralType context e brace place z) e _ is (literal_primary_is context e brace place z operand (s ∷ []) ∙ ap (QualifiedBy context e brace place z operand (s ∷ [])) (qualified_true context operand s qualifier name at d c)) (by_literal_type context other) in
        let same = name_same qualifier k.0 (sym d ∙ k.6) in
        let also = selector_same s k.2 at k.3 name k.1 k.5 c k.7 in
        (b ∙ ap (λ n. n.pos) same ∙ sym k.8, f ∙ ap (made LiteralType.Whole) (qualified_type_one context.exports context.names qualifier name v k.4 h (subst (λ n. qualified_type context.exports context.names n name k.4) (sym same) (subst (λ n. qualified_type context.exports context.names k.0 n k.4) (sym also) k.9))) ∙ sym k.10)
    literal_type_once {e} {brace} {first} {place} {y} {z} (j.literal_paren inner at is h) other =
        let k = out_of (ByLiteralType context e brace place z) e _ is (literal_paren_is context e brace place z first inner) (by_literal_type context other) in
        (sym k.1, (literal_type_once h k.2).1)
    literal_type_once {e} {brace} {first} {place} {y} {z} (j.literal_pointer inner at v is h it) other =
        let k = out_of (ByLiteralType context e brace place z) e _ is (literal_unary_is context e brace place z first u.Dereference inner) (by_literal_type context other) in
        (sym k.2, behind_once (pointed_literal first) (pointed_literal_one first) v k.1 (literal_type_once h k.3).1 y z it (subst (λ p. Behind k.1 (pointed_literal p) z) k.2 k.4))
    literal_type_once {e} {brace} {first} {place} {y} {z} (j.literal_written of v is d h it) other =
        let k = out_of (ByLiteralType context e brace place z) e _ is (literal_written_is context e brace place z of) (by_literal_type context other) in
        (d ∙ sym k.1, behind_once (as_literal_type first) (as_literal_type_one first) v k.0 (judges_once h k.2) y z it (subst (λ p. Behind k.0 (as_literal_type p) z) (k.1 ∙ sym d) k.3))
    literal_type_once {e} {brace} {first} {place} {y} {z} (j.literal_other v not d h it) other =
        let k = cast (other_is context e brace place z e not) (by_literal_type context other) in
        (d ∙ sym k.1, behind_once (as_literal_type first) (as_literal_type_one first) v k.0 (judges_once h k.2) y z it (subst (λ p. Behind k.0 (as_literal_type p) z) (k.1 ∙ sym d) k.3))

    elements_once : {first : Pos} {of also : Option LiteralType} {es : List Element} {y z : Verdict (ValueOf GoType)} → JudgesElements context first of es y → JudgesElements context first also es z → of ≡ also → y ≡ z
    elements_once {y = y} {z = z} (j.unknown_type v h it) (j.unknown_type w k d) e = behind_once _ (λ a. unjudged_one) v w (alone_once h k) y z it d
    elements_once {first} {es = es} {y = y} {z = z} (j.open_type {element = element} v h it) (j.open_type {element = found} w k d) e =
        let same = open_same element found e in
        behind_once (list_literal context.table first element ListKind.Open element) (list_literal_one context.table first element ListKind.Open element) v w (items_once h (subst (λ s. JudgesItems context s es w) (sym same) k)) y z it (subst (λ s. Behind w (list_literal context.table first s ListKind.Open s) z) (sym same) d)
    elements_once {first} {es = es} {z = z} (j.whole_type {s = s} h) (j.whole_type {s = found} k) e = composite_once h (subst (λ n. JudgesComposite context first n es z) (sym (whole_same s found e)) k)
    elements_once (j.unknown_type v h it) (j.open_type w k d) e = absurd (search (rules, e))
    elements_once (j.unknown_type v h it) (j.whole_type k) e = absurd (search (rules, e))
    elements_once (j.open_type v h it) (j.unknown_type w k d) e = absurd (search (rules, e))
    elements_once (j.open_type v h it) (j.whole_type k) e = absurd (search (rules, e))
    elements_once (j.whole_type h) (j.unknown_type w k d) e = absurd (search (rules, e))
    elements_once (j.whole_type h) (j.open_type w k d) e = absurd (search (rules, e))

    composite_once : {first : Pos} {s : GoType} {es : List Element} {y z : Verdict (ValueOf GoType)} → JudgesComposite context first s es y → JudgesComposite context first s es z → y ≡ z
    composite_once {first} {s} {es} {y} {z} (j.of_struct fields v is h it) (j.of_struct found w also k d) =
        let same = struct_once context.table one s fields found is also in
        behind_once (struct_literal first s context.path fields (keys_of es)) (struct_literal_one first s context.path fields (keys_of es)) v w (fields_once h (subst (λ fs. JudgesFields context fs (has_keys (keys_of es)) 0 es w) (sym same) k)) y z it
        (subst (λ fs. Behind w (struct_literal first s context.path fs (keys_of es)) z) (sym same) d)
    composite_once {first} {s} {es} {y} {z} (j.of_list kind element v is h it) (j.of_list other found w also k d) =
        let same = list_once context.table one s kind other element found is also in
        behind_once (list_literal context.table first s kind element) (list_literal_one context.table first s kind element) v w (items_once h (subst (λ n. JudgesItems context n es w) (sym same.1) k)) y z it
        (subst (λ n. Behind w (list_literal context.table first s kind n) z) (sym same.1) (subst (λ n. Behind w (list_literal context.table first s n found) z) (sym same.0) d))
    composite_once {first} {s} {es} {y} {z} (j.of_map key value v is h it) (j.of_map of to w also k d) =
        let same = keys_once context.table one s key of value to is also in
        behind_once (map_literal first s) (map_literal_one first s) v w (pairs_once h (subst (λ n. JudgesPairs context n value es w) (sym same.0) (subst (λ n. JudgesPairs context of n es w) (sym same.1) k))) y z it d
    composite_once {first} {y = y} {z = z} (j.of_none v not h it) (j.of_none w also k d) = behind_once _ (λ a. bad_one 60 first) v w (alone_once h k) y z it d
    composite_once {s = s} (j.of_struct fields v is h it) (j.of_list kind element w also k d) = absurd (struct_no_list context.table one s fields kind element is also)
    composite_once {s = s} (j.of_struct fields v is h it) (j.of_map key value w also k d) = absurd (struct_no_map context.table one s fields key value is also)
    composite_once (j.of_struct fields v is h it) (j.of_none w not k d) = absurd (not (literals.a_struct fields is))
    composite_once {s = s} (j.of_list kind element v is h it) (j.of_struct fields w also k d) = absurd (struct_no_list context.table one s fields kind element also is)
    composite_once {s = s} (j.of_list kind element v is h it) (j.of_map key value w also k d) = absurd (list_no_map context.table one s kind element key value is also)
    composite_once (j.of_list kind element v is h it) (j.of_none w not k d) = absurd (not (literals.a_list kind element is))
    composite_once {s = s} (j.of_map key value v is h it) (j.of_struct fields w also k d) = absurd (struct_no_map context.table one s fields key value also is)
    composite_once {s = s} (j.of_map key value v is h it) (j.of_list kind element w also k d) = absurd (list_no_map context.table one s kind element key value also is)
    composite_once (j.of_map key value v is h it) (j.of_none w not k d) = absurd (not (literals.a_map key value is))
    composite_once (j.of_none v not h it) (j.of_struct fields w also k d) = absurd (not (literals.a_struct fields also))
    composite_once (j.of_none v not h it) (j.of_list kind element w also k d) = absurd (not (literals.a_list kind element also))
    composite_once (j.of_none v not h it) (j.of_map key value w also k d) = absurd (not (literals.a_map key value also))

    inner_once : {first : Pos} {s : GoType} {es : List Element} {y z : Verdict (ValueOf GoType)} → JudgesInner context first s es y → JudgesInner context first s es z → y ≡ z
    inner_once (j.itself not h) (j.itself also k) = composite_once h k
    inner_once (j.itself not h) (j.pointed to w is k d) = absurd (not to is)
    inner_once (j.pointed to v is h it) (j.itself not k) = absurd (not to is)
    inner_once {first} {s} {es} {y} {z} (j.pointed to v is h it) (j.pointed other w also k d) = behind_once (elided first s) (elided_one first s) v w (composite_once h (subst (λ n. JudgesComposite context first n es w) (sym (points_once context.table one s to other is also)) k)) y z it d

    part_once : {s : GoType} {p : Part} {y z : Verdict (ValueOf GoType)} → JudgesPart context s p y → JudgesPart context s p z → y ≡ z
    part_once {s} {p} {y} {z} (j.expr_part e v d h it) other = let k = out_of (ByPart context (PartExpr context z) (PartInner context s z)) p _ d (part_expr_is context _ _ e) (by_part context other) in behind_once _ as_value_one v k.0 (judges_once h k.1) y z it k.2
    part_once {s} {p} {y} {z} (j.inner_part at es d h) other = inner_once h (out_of (ByPart context (PartExpr context z) (PartInner context s z)) p _ d (part_inner_is context _ _ at es) (by_part context other))

    none_once : {first : Pos} {es : List Element} {y z : Verdict Alone} → JudgesNone context first es y → JudgesNone context first es z → y ≡ z
    none_once {first} {y = y} {z = z} (j.none_implied {z = v} h it) (j.none_implied {z = w} k d) = behind_once _ (λ a. bad_one 60 first) v w (alone_once h k) y z it d

    alone_once : {es : List Element} {y z : Verdict Alone} → JudgesAlone context es y → JudgesAlone context es z → y ≡ z
    alone_once (j.none_alone is) (j.none_alone also) = is ∙ sym also
    alone_once (j.one_alone key value rest h k hs is) (j.one_alone name part more m n ks also) = is ∙ two (both (λ a b. b)) (alone_key_once h m) (two (both (λ a b. b)) (alone_part_once k n) (alone_once hs ks)) ∙ sym also

    alone_key_once : {p : Option Part} {y z : Verdict Alone} → JudgesAloneKey context p y → JudgesAloneKey context p z → y ≡ z
    alone_key_once (j.absent_key is) (j.absent_key also) = is ∙ sym also
    alone_key_once (j.name_key name e is) (j.name_key other d also) = is ∙ sym also
    alone_key_once (j.name_key name e is) (j.other_key d k) = let same = sym e ∙ d in absurd cc
    alone_key_once (j.other_key e h) (j.name_key name d also) = let same = sym e ∙ d in absurd cc
    alone_key_once (j.other_key e h) (j.other_key d k) = alone_part_once h k

    alone_part_once : {p : Part} {y z : Verdict Alone} → JudgesAlonePart context p y → JudgesAlonePart context p z → y ≡ z
    alone_part_once {p} {y} {z} (j.alone_expr e v d h it) other = let k = out_of (ByPart context (AloneExpr context z) (AloneInner context z)) p _ d (part_expr_is context _ _ e) (by_alone_part context other) in
        behind_once _ (λ a. after_one _ _ (as_value_one a) (λ b. good_one _)) v k.0 (judges_once h k.1) y z it k.2
    alone_part_once {p} {y} {z} (j.alone_inner at es d h) other = alone_once h (out_of (ByPart context (AloneExpr context z) (AloneInner context z)) p _ d (part_inner_is context _ _ at es) (by_alone_part context other))

    fields_once : {fields : List (FieldOf GoType)} {keyed : Bool} {k : ℕ} {es : List Element} {y z : Verdict (Gathered (FieldValueOf GoType))} → JudgesFields context fields keyed k es y → JudgesFields context fields keyed k es z → y ≡ z
    fields_once (j.no_field is) (j.no_field also) = is ∙ sym also
    fields_once (j.one_field v rest h hs is) (j.one_field w more k ks also) = is ∙ two (both gathered) (field_once h k) (fields_once hs ks) ∙ sym also

    field_once : {place : Option FieldPlace} {p : Part} {y z : Verdict (Gathered (FieldValueOf GoType))} → JudgesField context place p y → JudgesField context place p z → y ≡ z
    field_once {place} {p} {y} {z} (j.expr_field e v d h it) other = let k = out_of (ByPart context (FieldExpr context place z) (NoneBy context z)) p _ d (part_expr_is context _ _ e) (by_field context other) in behind_once _ (field_given_one context.table place) v k.0 (judges_once h k.1) y z it k.2
    field_once {place} {p} {y} {z} (j.inner_field at es v d h it) other = let k = out_of (ByPart context (FieldExpr context place z) (NoneBy context z)) p _ d (part_inner_is context _ _ at es) (by_field context other) in behind_once _ (λ a. unjudged_one) v k.0 (none_once h k.1) y z it k.2

    items_once : {element : GoType} {es : List Element} {y z : Verdict (Gathered Item)} → JudgesItems context element es y → JudgesItems context element es z → y ≡ z
    items_once (j.none_of_list is) (j.none_of_list also) = is ∙ sym also
    items_once {element} (j.one_of_list key v value rest h k it hs is) (j.one_of_list name w other more m n d ks also) =
        is ∙ two (both gathered) (two (both item_of) (index_key_once h m) (behind_once _ (filled_one context.table element) v w (part_once k n) value other it d)) (items_once hs ks) ∙ sym also

    index_key_once : {p : Option Part} {y z : Verdict IndexKey} → JudgesIndexKey context p y → JudgesIndexKey context p z → y ≡ z
    index_key_once (j.no_index is) (j.no_index also) = is ∙ sym also
    index_key_once {y = y} {z = z} (j.expr_index {p = p} e v d h it) other = let k = out_of (ByPart context (IndexExpr context z) (NoneBy context z)) p _ d (part_expr_is context _ _ e) (by_index_key context other) in behind_once _ (key_found_one context.table) v k.0 (judges_once h k.1) y z it k.2
    index_key_once {y = y} {z = z} (j.inner_index {p = p} at es v d h it) other = let k = out_of (ByPart context (IndexExpr context z) (NoneBy context z)) p _ d (part_inner_is context _ _ at es) (by_index_key context other) in behind_once _ (λ a. unjudged_one) v k.0 (none_once h k.1) y z it k.2

    pairs_once : {key value : GoType} {es : List Element} {y z : Verdict (Gathered MapItem)} → JudgesPairs context key value es y → JudgesPairs context key value es z → y ≡ z
    pairs_once (j.no_pair is) (j.no_pair also) = is ∙ sym also
    pairs_once {key} {value} (j.one_pair found v given_value rest h k it hs is) (j.one_pair other w to more m n d ks also) =
        is ∙ two (both gathered) (two (both pair_item) (map_key_once h m) (behind_once _ (filled_one context.table value) v w (part_once k n) given_value to it d)) (pairs_once hs ks) ∙ sym also

    map_key_once : {key : GoType} {p : Option Part} {y z : Verdict MapKey} → JudgesMapKey context key p y → JudgesMapKey context key p z → y ≡ z
    map_key_once (j.no_map_key is) (j.no_map_key also) = is ∙ sym also
    map_key_once {key} {y = y} {z = z} (j.one_map_key v h it) (j.one_map_key w k d) = behind_once _ (map_key_one context.table key) v w (part_once h k) y z it d

    pub type_once : {e : TypeExpr} {y z : Verdict GoType} → JudgesType context e y → JudgesType context e z → y ≡ z
    type_once {e} {y} {z} (j.name_type n is h) other = name_of_type_one context n.qualifier n.name y z h (out_of (ByType context z) e _ is (type_name_is context n z) (by_type context other))
    type_once {e} {y} {z} (j.paren_type at inner is h) other = type_once h (out_of (ByType context z) e _ is (type_paren_is context at inner z) (by_type context other))
    type_once {e} {y} {z} (j.pointer_type at to v is h d) other = let k = out_of (ByType context z) e _ is (type_pointer_is context at to z) (by_type context other) in d ∙ ap (made pointer_to) (type_once h k.1) ∙ sym k.2
    type_once {e} {y} {z} (j.slice_type at element v is h d) other = let k = out_of (ByType context z) e _ is (type_slice_is context at element z) (by_type context other) in d ∙ ap (made (list_of true)) (type_once h k.1) ∙ sym k.2
    type_once {e} {y} {z} (j.array_of at written element count found v is h it m also) other =
        let k = out_of (ByType context z) e _ is (type_array_is context at (size.Expr written) element z ∙ sized_is context at element z written) (by_type context other) in
        behind_both_once _ (array_type_one context.table at) found k.1 (behind_once _ (array_length_one context.table at) count k.0 (judges_once h k.3) found k.1 it k.4) v k.2 (type_once m k.5) y z also k.6
    type_once {e} {y} {z} (j.open_alone at element v is h it) other =
        let k = out_of (ByType context z) e _ is (type_array_is context at size.Elements element z ∙ open_is context at element z) (by_type context other) in
        behind_once _ (λ s. bad_one 78 at) v k.0 (type_once h k.1) y z it k.2
    type_once {e} {y} {z} (j.map_of at key value a b is h m it) other =
        let k = out_of (ByType context z) e _ is (type_map_is context at key value z) (by_type context other) in
        behind_both_once _ (map_type_one context.table at) a k.0 (type_once h k.2) b k.1 (type_once m k.3) y z it k.4
    type_once {e} {y} {z} (j.function_of at signature is h) other = signature_once h (out_of (ByType context z) e _ is (type_function_is context at signature z) (by_type context other))
    type_once {e} {y} {z} (j.struct_of at fields v is h it) other =
        let k = out_of (ByType context z) e _ is (type_struct_is context at fields z) (by_type context other) in
        behind_once _ (struct_type_one context.table at) v k.0 (field_types_once h k.1) y z it k.2
    type_once {e} {y} {z} (j.interface_of at members names v is h d all m it) other =
        let k = out_of (ByType context z) e _ is (type_interface_is context at members z) (by_type context other) in
        let same = methods_once h k.3 in
        it ∙ two (both (λ fresh ms. interface_type ms)) (two (both (λ ms fresh. fresh)) same (distinct_one [] (method_names members) names k.0 d k.4)) (embedded_once m (ap (λ n. n.form) same) k.5) ∙ sym k.6

    signature_once : {x : Signature} {y z : Verdict GoType} → JudgesSignature context x y → JudgesSignature context x z → y ≡ z
    signature_once {x} (j.signature_of names params results d h k is) (j.signature_of fresh ps rs e m n also) =
        is ∙ two (both behind_names) (distinct_one [] (names_of_all (out-Signature x).parameters ++ names_of_all (out-Signature x).results) names fresh d e) (two (both (function_type (is_variadic (out-Signature x).parameters))) (parameters_once h m) (parameters_once k n)) ∙ sym also

    parameters_once : {ps : List Parameter} {y z : Verdict (List GoType)} → JudgesParameters context ps y → JudgesParameters context ps z → y ≡ z
    parameters_once (j.no_parameter is) (j.no_parameter also) = is ∙ sym also
    parameters_once (j.one_parameter {p = p} v rest h hs is) (j.one_parameter w more k ks also) = is ∙ two (both (λ s ss. parameter_types p s ++ ss)) (type_once h k) (parameters_once hs ks) ∙ sym also

    field_types_once : {before : List Name} {fs : List Field} {y z : Verdict (List (FieldOf GoType))} → JudgesFieldTypes context before fs y → JudgesFieldTypes context before fs z → y ≡ z
    field_types_once {before} (j.no_field_type is) other = is ∙ sym (by_fields context other)
    field_types_once {before} {y = y} {z = z} (j.named_fields {x = a} {fields = fields} names of v fresh rest is h d hs e) other =
        let k = out_of (ByField context before fields z) a _ is (named_field_is context before fields z names of) (by_fields context other) in
        e ∙ two (both (λ s fs. fields_of context.path names s ++ fs)) (type_once h k.3) (two (both behind_names) (distinct_one before names fresh k.1 d k.4) (field_types_once hs k.5)) ∙ sym k.6
    field_types_once {before} {y = y} {z = z} (j.embedded_one {x = a} {fields = fields} star of v fresh only rest is h d it hs e) other =
        let k = out_of (ByField context before fields z) a _ is (embedded_field_is context before fields z star of) (by_fields context other) in
        let same = name_of_type_one context of.qualifier of.name v k.0 h k.4 in
        e ∙ two (both (λ s fs. fs)) same (two (both behind_names) (distinct_one before (of.name ∷ []) fresh k.1 d k.5)
        (two first_of_list (on_one _ (embedded_field_one context.table _ context.path (is_found star) of.name.text) v.form only k.2 it (subst (λ n. on (embedded_field context.table context.path (star_place star of.qualifier of.name) (is_found star) of.name.text) n.form k.2) (sym same) k.6)) (field_types_once hs k.7))) ∙ sym k.8

    methods_once : {ms : List Member} {y z : Verdict (List (MethodOf GoType))} → JudgesMethods context ms y → JudgesMethods context ms z → y ≡ z
    methods_once (j.no_method is) other = is ∙ sym (by_methods context other)
    methods_once {y = y} {z = z} (j.named_method {m = m} {ms = ms} name signature v only rest is h it hs e) other =
        let k = out_of (ByMember context (MethodBy context ms z) (λ of. JudgesMethods context ms z)) m _ is (method_is context _ _ name signature) (by_methods context other) in
        e ∙ two first_of_list (behind_once _ (interface_method_one context.path name) v k.0 (signature_once h k.3) only k.1 it k.4) (methods_once hs k.5) ∙ sym k.6
    methods_once {y = y} {z = z} (j.embedded_later {m = m} {ms = ms} of is hs) other = methods_once hs (out_of (ByMember context (MethodBy context ms z) (λ n. JudgesMethods context ms z)) m _ is (member_embedded_is context _ _ of) (by_methods context other))

    embedded_once : {before also : Option (List (MethodOf GoType))} {ms : List Member} {y z : Verdict (List (MethodOf GoType))} → JudgesEmbedded context before ms y → before ≡ also → JudgesEmbedded context also ms z → y ≡ z
    embedded_once (j.all_embedded is) same other = is ∙ ap (λ form. record { form = form; faults = [] }) same ∙ sym (by_embedded context other)
    embedded_once {before} {also} {y = y} {z = z} (j.not_embedded {m = m} {ms = ms} name signature is hs) same other = embedded_once hs same (out_of (ByMember context (λ n s. JudgesEmbedded context also ms z) (JoinedBy context also ms z)) m _ is (method_is context _ _ name signature) (by_embedded context other))
    embedded_once {before} {also} {y = y} {z = z} (j.one_embedded {m = m} {ms = ms} of v methods next rest is h it both_are hs e) same other =
        let k = out_of (ByMember context (λ n s. JudgesEmbedded context also ms z) (JoinedBy context also ms z)) m _ is (member_embedded_is context _ _ of) (by_embedded context other) in
        let found = behind_once _ (embedded_methods_one context.table (place_by of.qualifier of.name) one) v k.0 (name_of_type_one context of.qualifier of.name v k.0 h k.4) methods k.1 it k.5 in
        let after = behind_both_once _ (with_embedded_one (place_by of.qualifier of.name)) _ _ (ap (λ form. record { form = form; faults = [] }) same) methods k.1 found next k.2 both_are k.6 in
        e ∙ two (both_faults same_form) after (embedded_once hs (ap (λ n. n.form) after) k.7) ∙ sym k.8
