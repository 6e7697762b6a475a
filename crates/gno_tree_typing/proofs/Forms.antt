-- What each form of the tree says.
use Rattle.std.proofs.Common.{◌≡◌, refl, sym, ap, ◌∙◌, subst, ℕ, ◌++◌, List, [], ◌∷◌, Bool, true, false, ◌&&◌, Option, Some, None, option_map, inl, inr, ◌⊎◌, rules}
use Rattle.gno_scan.specs.declared.token.Pos.{Pos}
use Rattle.gno_terms.specs.declared.term.FieldOf.{FieldOf}
use Rattle.gno_terms.specs.declared.term.GoType.{GoType}
use Rattle.gno_terms.specs.declared.term.MethodOf.{MethodOf}
use Rattle.gno_tree.specs.declared.expr.Element.{Element}
use Rattle.gno_tree.specs.declared.expr.Expr.{Expr, out-Expr, out-roll-Expr}
use Rattle.gno_tree.specs.declared.declaration.Declaration.TheOpen.{ArrayLength-F, Expr-F, Field-F, Member-F, Part-F, Step-F, TypeExpr-F}
use Rattle.gno_tree.specs.declared.expr.Expr.TheVariants as x
use Rattle.gno_tree.specs.declared.expr.Operation.{Operation}
use Rattle.gno_tree.specs.declared.expr.Part.{Part, out-Part, out-roll-Part}
use Rattle.gno_tree.specs.declared.expr.Part.TheVariants as part
use Rattle.gno_tree.specs.declared.expr.Step.{Step, out-Step, out-roll-Step}
use Rattle.gno_tree.specs.declared.expr.Step.TheVariants as step
use Rattle.gno_tree.specs.declared.operator.UnaryOperator.{UnaryOperator}
use Rattle.gno_tree.specs.declared.operator.UnaryOperator.TheVariants as u
use Rattle.gno_tree.specs.declared.statement.Block.{Block}
use Rattle.gno_tree.specs.declared.type_expr.Field.{Field, out-Field, out-roll-Field}
use Rattle.gno_tree.specs.declared.type_expr.Field.TheVariants as field
use Rattle.gno_tree.specs.declared.type_expr.ArrayLength.{ArrayLength, out-ArrayLength, out-roll-ArrayLength}
use Rattle.gno_tree.specs.declared.type_expr.ArrayLength.TheVariants as size
use Rattle.gno_tree.specs.declared.type_expr.Member.{Member, out-Member, out-roll-Member}
use Rattle.gno_tree.specs.declared.type_expr.Member.TheVariants as member
use Rattle.gno_tree.specs.declared.type_expr.Signature.{Signature}
use Rattle.gno_tree.specs.declared.type_expr.TypeExpr.{TypeExpr, out-TypeExpr, out-roll-TypeExpr}
use Rattle.gno_tree.specs.declared.type_expr.TypeExpr.TheVariants as ty
use Rattle.gno_tree.specs.declared.type_expr.TypeName.{TypeName}
use Rattle.gno_tree.specs.declared.word.Literal.{Literal}
use Rattle.gno_tree.specs.declared.word.Name.{Name}
use Rattle.gno_tree_typing.specs.Composites.{FieldPlace, Gathered, IndexKey, field_given, key_found, is_found}
use Rattle.gno_tree_typing.specs.WrittenTypes.{Distinct, array_length, array_type, distinct, embedded_field, embedded_methods, interface_method, interface_type, map_type, qualified_type, struct_type, type_named, with_embedded}
use Rattle.gno_typed.specs.declared.elements.FieldValueOf.{FieldValueOf}
use Rattle.gno_typing.specs.Assertions.{assertion}
use Rattle.gno_typing.specs.Giving.{both, made}
use Rattle.gno_typing.specs.Indexes.{index}
use Rattle.gno_typing.specs.Names.{named}
use Rattle.gno_typing.specs.Operands.{as_value}
use Rattle.gno_typing.specs.Pointers.{pointer_to}
use Rattle.gno_typing.specs.Selectors.{selector}
use Rattle.gno_typing.specs.Slices.{slice}
use Rattle.gno_typing.specs.Verdicts.{Verdict, After, bad, good, on, unjudged}
use Rattle.gno_typing.specs.declared.operand.OperandOf.{OperandOf}
use Rattle.gno_typing.specs.declared.operand.OperandOf.TheVariants as o
use Rattle.gno_typing.specs.declared.value.ValueOf.{ValueOf}
use Rattle.gno_tree_typing.specs.Judging.{Alone, Behind, BehindBoth, Context, LiteralType, alone, as_literal_type, behind_names, bound_by, bounds_of, builtin_called, call_of, converted, converted_one, fields_of, first_of_list, function_type, function_value, is_dereference, is_name, is_one_selector, is_open, is_selector, is_type_operand, item_of, key_of, keys_of, list_of, literal, method_names, name_of_type, names_of_all, pair_item, parameter_types, place_by, pointed_literal, star_place, step_called, type_place, unary_of, value_of, is_variadic, HasLiterals, IsStruct}
use Rattle.gno_tree_typing.specs.Judging.{Judges, JudgesAlone, JudgesAloneKey, JudgesAlonePart, JudgesArguments, JudgesBound, JudgesComposite, JudgesElements, JudgesEmbedded, JudgesField, JudgesFieldTypes, JudgesFields, JudgesIndexKey, JudgesInner, JudgesItems, JudgesLiteralType, JudgesMapKey, JudgesMethods, JudgesNone, JudgesOperations, JudgesPairs, JudgesParameters, JudgesPart, JudgesSignature, JudgesStep, JudgesSteps, JudgesType}
use Rattle.gno_tree_typing.specs.Judging as j

pub cast : {A B : Type 0} → A ≡ B → A → B
cast e a = subst (λ (C : Type 0). C) e a

-- what is said of a form is said of what is equal to it
pub into : {A F : Type 0} (P : A → Type 0) (a b : A) → a ≡ b → P b ≡ F → F → P a
into P a b e d f = subst P (sym e) (cast (sym d) f)

pub out_of : {A F : Type 0} (P : A → Type 0) (a b : A) → a ≡ b → P b ≡ F → P a → F
out_of P a b e d p = cast d (subst P e p)

pub name_same : (n m : Name) → x.Name n ≡ x.Name m → n ≡ m
name_same n m e = let d = sym (ap out-Expr (sym (x.rolls-Name n)) ∙ out-roll-Expr _) ∙ ap out-Expr e ∙ (ap out-Expr (sym (x.rolls-Name m)) ∙ out-roll-Expr _) in cc

-- the name of a selector
pub selector_same : (s r : Step) (at place : Pos) (name other : Name) → s ∷ [] ≡ r ∷ [] → s ≡ step.Selector at name → r ≡ step.Selector place other → name ≡ other
selector_same s r at place name other e d c =
    let same : s ≡ r = cc in
    let b = sym (ap out-Step (sym (step.rolls-Selector at name)) ∙ out-roll-Step _) ∙ ap out-Step (sym d ∙ same ∙ c) ∙ (ap out-Step (sym (step.rolls-Selector place other)) ∙ out-roll-Step _) in cc

module _ (context : Context) where
  -- ---- expressions

  abbrev pub TypeBy : TypeExpr → Verdict (OperandOf GoType) → Type 0
  TypeBy of y = ((is_open of ≡ false) × (z : Verdict GoType) × JudgesType context of z × Behind z (λ s. good (o.Type (type_place of) s)) y)
      ⊎ ((at : Pos) × (element : TypeExpr) × (z : Verdict GoType) × (of ≡ ty.Array at size.Elements element) × JudgesType context element z × Behind z (λ s. good (o.OpenArray at s)) y)

  abbrev pub CompositeBy : Expr → Pos → List Element → Verdict (OperandOf GoType) → Type 0
  CompositeBy of at es y = (first : Pos) × (z : Verdict LiteralType) × (elements : Verdict (ValueOf GoType)) × JudgesLiteralType context of at first z × JudgesElements context first z.form es elements × (y ≡ record { form = option_map o.Value elements.form; faults = z.faults ++ elements.faults })

  abbrev pub FunctionBy : Pos → Signature → Verdict (OperandOf GoType) → Type 0
  FunctionBy at signature y = (z : Verdict GoType) × JudgesSignature context signature z × Behind z (function_value context at) y

  abbrev pub PrimaryBy : Expr → List Step → Verdict (OperandOf GoType) → Type 0
  PrimaryBy operand steps y = (z : Verdict (OperandOf GoType)) × Judges context operand z × JudgesSteps context z steps y

  abbrev pub UnaryBy : Pos → UnaryOperator → Expr → Verdict (OperandOf GoType) → Type 0
  UnaryBy at operator operand y = (z : Verdict (OperandOf GoType)) × Judges context operand z × Behind z (unary_of context.table at operator) y

  abbrev pub BinaryBy : Expr → List Operation → Verdict (OperandOf GoType) → Type 0
  BinaryBy first rest y = (z : Verdict (OperandOf GoType)) × Judges context first z × JudgesOperations context z rest y

  abbrev pub ByExpr : Verdict (OperandOf GoType) → Expr → Type 0
  ByExpr y e = elim (out-Expr e) [
    | Expr-F.Literal l ↦ literal l y
    | Expr-F.Expr::Name name ↦ named context.names name.pos name.text y
    | Expr-F.Expr::Paren at inner ↦ Judges context inner y
    | Expr-F.Composite of at es ↦ CompositeBy of at es y
    | Expr-F.Expr::Function at signature body ↦ FunctionBy at signature y
    | Expr-F.Expr::Type of ↦ TypeBy of y
    | Expr-F.Primary operand steps ↦ PrimaryBy operand steps y
    | Expr-F.Unary at operator operand ↦ UnaryBy at operator operand y
    | Expr-F.Binary first rest ↦ BinaryBy first rest y
  ]

  pub literal_is : (l : Literal) (y : Verdict (OperandOf GoType)) → ByExpr y (x.Literal l) ≡ literal l y
  literal_is l y = rw (ap out-Expr (sym (x.rolls-Literal l)) ∙ out-roll-Expr _, ByExpr) refl

  pub name_is : (name : Name) (y : Verdict (OperandOf GoType)) → ByExpr y (x.Name name) ≡ named context.names name.pos name.text y
  name_is name y = rw (ap out-Expr (sym (x.rolls-Name name)) ∙ out-roll-Expr _, ByExpr) refl

  pub paren_is : (at : Pos) (inner : Expr) (y : Verdict (OperandOf GoType)) → ByExpr y (x.Paren at inner) ≡ Judges context inner y
  paren_is at inner y = rw (ap out-Expr (sym (x.rolls-Paren at inner)) ∙ out-roll-Expr _, ByExpr) refl

  pub composite_is : (of : Expr) (at : Pos) (es : List Element) (y : Verdict (OperandOf GoType)) → ByExpr y (x.Composite of at es) ≡ CompositeBy of at es y
  composite_is of at es y = rw (ap out-Expr (sym (x.rolls-Composite of at es)) ∙ out-roll-Expr _, ByExpr) refl

  pub function_is : (at : Pos) (signature : Signature) (body : Block) (y : Verdict (OperandOf GoType)) → ByExpr y (x.Function at signature body) ≡ FunctionBy at signature y
  function_is at signature body y = rw (ap out-Expr (sym (x.rolls-Function at signature body)) ∙ out-roll-Expr _, ByExpr) refl

  pub type_is : (of : TypeExpr) (y : Verdict (OperandOf GoType)) → ByExpr y (x.Type of) ≡ TypeBy of y
  type_is of y = rw (ap out-Expr (sym (x.rolls-Type of)) ∙ out-roll-Expr _, ByExpr) refl

  pub primary_is : (operand : Expr) (steps : List Step) (y : Verdict (OperandOf GoType)) → ByExpr y (x.Primary operand steps) ≡ PrimaryBy operand steps y
  primary_is operand steps y = rw (ap out-Expr (sym (x.rolls-Primary operand steps)) ∙ out-roll-Expr _, ByExpr) refl

  pub unary_is : (at : Pos) (operator : UnaryOperator) (operand : Expr) (y : Verdict (OperandOf GoType)) → ByExpr y (x.Unary at operator operand) ≡ UnaryBy at operator operand y
  unary_is at operator operand y = rw (ap out-Expr (sym (x.rolls-Unary at operator operand)) ∙ out-roll-Expr _, ByExpr) refl

  pub binary_is : (first : Expr) (rest : List Operation) (y : Verdict (OperandOf GoType)) → ByExpr y (x.Binary first rest) ≡ BinaryBy first rest y
  binary_is first rest y = rw (ap out-Expr (sym (x.rolls-Binary first rest)) ∙ out-roll-Expr _, ByExpr) refl

  pub by_expr : {e : Expr} {y : Verdict (OperandOf GoType)} → Judges context e y → ByExpr y e
  by_expr {e} {y} (j.literal_expr l is h) = into (ByExpr y) e _ is (literal_is l y) h
  by_expr {e} {y} (j.name_expr name is h) = into (ByExpr y) e _ is (name_is name y) h
  by_expr {e} {y} (j.paren_expr at inner is h) = into (ByExpr y) e _ is (paren_is at inner y) h
  by_expr {e} {y} (j.composite_expr of at first es z elements is h k d) = into (ByExpr y) e _ is (composite_is of at es y) (first, z, elements, h, k, d)
  by_expr {e} {y} (j.function_expr at signature body z is h it) = into (ByExpr y) e _ is (function_is at signature body y) (z, h, it)
  by_expr {e} {y} (j.type_expr of z is closed h it) = into (ByExpr y) e _ is (type_is of y) (inl (closed, z, h, it))
  by_expr {e} {y} (j.open_array of element at z is d h it) = into (ByExpr y) e _ is (type_is of y) (inr (at, element, z, d, h, it))
  by_expr {e} {y} (j.primary_expr operand steps z is h hs) = into (ByExpr y) e _ is (primary_is operand steps y) (z, h, hs)
  by_expr {e} {y} (j.unary_expr at operator operand z is h it) = into (ByExpr y) e _ is (unary_is at operator operand y) (z, h, it)
  by_expr {e} {y} (j.binary_expr first rest z is h hs) = into (ByExpr y) e _ is (binary_is first rest y) (z, h, hs)

  -- ---- steps

  abbrev pub IndexBy : Verdict (OperandOf GoType) → Pos → Expr → Verdict (OperandOf GoType) → Type 0
  IndexBy a at i y = (value : Verdict (ValueOf GoType)) × (z : Verdict (OperandOf GoType)) × Behind a as_value value × Judges context i z × BehindBoth value z (λ v. index context.table at (o.Value v)) y

  abbrev pub SliceBy : Verdict (OperandOf GoType) → Pos → Option Expr → Option Expr → Option Expr → Verdict (OperandOf GoType) → Type 0
  SliceBy a at low high max y = (value : Verdict (ValueOf GoType)) × (p : Verdict (Option (OperandOf GoType))) × (q : Verdict (Option (OperandOf GoType))) × (r : Verdict (Option (OperandOf GoType))) × Behind a as_value value
      × JudgesBound context low p × JudgesBound context high q × JudgesBound context max r × BehindBoth value (bounds_of p q r) (λ v. slice context.table at (o.Value v)) y

  abbrev pub AssertionBy : Verdict (OperandOf GoType) → Pos → TypeExpr → Verdict (OperandOf GoType) → Type 0
  AssertionBy a at of y = (value : Verdict (ValueOf GoType)) × (z : Verdict GoType) × Behind a as_value value × JudgesType context of z × BehindBoth value z (λ v. assertion context.table at (o.Value v)) y

  abbrev pub CallBy : Verdict (OperandOf GoType) → Pos → List Expr → Bool → Verdict (OperandOf GoType) → Type 0
  CallBy a at arguments spread y = (b : Verdict (List (Option (OperandOf GoType)))) × (z : Verdict (OperandOf GoType)) × JudgesArguments context arguments b × Behind b (λ xs. step_called context at spread xs a.form) z × (y ≡ record { form = z.form; faults = a.faults ++ z.faults })

  abbrev pub ByStep : Verdict (OperandOf GoType) → Verdict (OperandOf GoType) → Step → Type 0
  ByStep a y s = elim (out-Step s) [
    | Step-F.Selector at name ↦ Behind a (selector context.exports context.path context.table at name.text) y
    | Step-F.Index at i ↦ IndexBy a at i y
    | Step-F.Step::Slice at low high max ↦ SliceBy a at low high max y
    | Step-F.Assertion at of ↦ AssertionBy a at of y
    | Step-F.Call at arguments spread ↦ CallBy a at arguments spread y
  ]

  pub select_is : (a y : Verdict (OperandOf GoType)) (at : Pos) (name : Name) → ByStep a y (step.Selector at name) ≡ Behind a (selector context.exports context.path context.table at name.text) y
  select_is a y at name = rw (ap out-Step (sym (step.rolls-Selector at name)) ∙ out-roll-Step _, ByStep) refl

  pub index_is : (a y : Verdict (OperandOf GoType)) (at : Pos) (i : Expr) → ByStep a y (step.Index at i) ≡ IndexBy a at i y
  index_is a y at i = rw (ap out-Step (sym (step.rolls-Index at i)) ∙ out-roll-Step _, ByStep) refl

  pub slice_is : (a y : Verdict (OperandOf GoType)) (at : Pos) (low high max : Option Expr) → ByStep a y (step.Slice at low high max) ≡ SliceBy a at low high max y
  slice_is a y at low high max = rw (ap out-Step (sym (step.rolls-Slice at low high max)) ∙ out-roll-Step _, ByStep) refl

  pub assertion_is : (a y : Verdict (OperandOf GoType)) (at : Pos) (of : TypeExpr) → ByStep a y (step.Assertion at of) ≡ AssertionBy a at of y
  assertion_is a y at of = rw (ap out-Step (sym (step.rolls-Assertion at of)) ∙ out-roll-Step _, ByStep) refl

  pub call_is : (a y : Verdict (OperandOf GoType)) (at : Pos) (arguments : List Expr) (spread : Bool) → ByStep a y (step.Call at arguments spread) ≡ CallBy a at arguments spread y
  call_is a y at arguments spread = rw (ap out-Step (sym (step.rolls-Call at arguments spread)) ∙ out-roll-Step _, ByStep) refl

  pub by_step : {a y : Verdict (OperandOf GoType)} {s : Step} → JudgesStep context a s y → ByStep a y s
  by_step {a} {y} {s} (j.select at name is it) = into (ByStep a y) s _ is (select_is a y at name) it
  by_step {a} {y} {s} (j.index_step at i value z is l h it) = into (ByStep a y) s _ is (index_is a y at i) (value, z, l, h, it)
  by_step {a} {y} {s} (j.slice_step at low high max value p q r is l hp hq hr it) = into (ByStep a y) s _ is (slice_is a y at low high max) (value, p, q, r, l, hp, hq, hr, it)
  by_step {a} {y} {s} (j.assert_step at of value z is l h it) = into (ByStep a y) s _ is (assertion_is a y at of) (value, z, l, h, it)
  by_step {a} {y} {s} (j.call_step at arguments spread b z is h it d) = into (ByStep a y) s _ is (call_is a y at arguments spread) (b, z, h, it, d)

  -- ---- parts of elements: an expression, or an inner literal

  abbrev pub ByPart : (Expr → Type 0) → (Pos → List Element → Type 0) → Part → Type 0
  ByPart E I p = elim (out-Part p) [ Part-F.Part::Expr e ↦ E e | Part-F.Part::Elements at es ↦ I at es ]

  pub part_expr_is : (E : Expr → Type 0) (I : Pos → List Element → Type 0) (e : Expr) → ByPart E I (part.Expr e) ≡ E e
  part_expr_is E I e = rw (ap out-Part (sym (part.rolls-Expr e)) ∙ out-roll-Part _, ByPart) refl

  pub part_inner_is : (E : Expr → Type 0) (I : Pos → List Element → Type 0) (at : Pos) (es : List Element) → ByPart E I (part.Elements at es) ≡ I at es
  part_inner_is E I at es = rw (ap out-Part (sym (part.rolls-Elements at es)) ∙ out-roll-Part _, ByPart) refl

  abbrev pub PartExpr : Verdict (ValueOf GoType) → Expr → Type 0
  PartExpr y e = (z : Verdict (OperandOf GoType)) × Judges context e z × Behind z as_value y

  abbrev pub PartInner : GoType → Verdict (ValueOf GoType) → Pos → List Element → Type 0
  PartInner s y at es = JudgesInner context at s es y

  pub by_part : {s : GoType} {p : Part} {y : Verdict (ValueOf GoType)} → JudgesPart context s p y → ByPart (PartExpr y) (PartInner s y) p
  by_part {s} {p} {y} (j.expr_part e z d h it) = into (ByPart (PartExpr y) (PartInner s y)) p _ d (part_expr_is _ _ e) (z, h, it)
  by_part {s} {p} {y} (j.inner_part at es d h) = into (ByPart (PartExpr y) (PartInner s y)) p _ d (part_inner_is _ _ at es) h

  abbrev pub AloneExpr : Verdict Alone → Expr → Type 0
  AloneExpr y e = (z : Verdict (OperandOf GoType)) × Judges context e z × Behind z (λ a. After (as_value a) (λ b. good alone)) y

  abbrev pub AloneInner : Verdict Alone → Pos → List Element → Type 0
  AloneInner y at es = JudgesAlone context es y

  pub by_alone_part : {p : Part} {y : Verdict Alone} → JudgesAlonePart context p y → ByPart (AloneExpr y) (AloneInner y) p
  by_alone_part {p} {y} (j.alone_expr e z d h it) = into (ByPart (AloneExpr y) (AloneInner y)) p _ d (part_expr_is _ _ e) (z, h, it)
  by_alone_part {p} {y} (j.alone_inner at es d h) = into (ByPart (AloneExpr y) (AloneInner y)) p _ d (part_inner_is _ _ at es) h

  abbrev pub FieldExpr : Option FieldPlace → Verdict (Gathered (FieldValueOf GoType)) → Expr → Type 0
  FieldExpr place y e = (z : Verdict (OperandOf GoType)) × Judges context e z × Behind z (field_given context.table place) y

  abbrev pub NoneBy : {A : Type 0} → Verdict A → Pos → List Element → Type 0
  NoneBy y at es = (z : Verdict Alone) × JudgesNone context at es z × Behind z (λ a. unjudged) y

  pub by_field : {place : Option FieldPlace} {p : Part} {y : Verdict (Gathered (FieldValueOf GoType))} → JudgesField context place p y → ByPart (FieldExpr place y) (NoneBy y) p
  by_field {place} {p} {y} (j.expr_field e z d h it) = into (ByPart (FieldExpr place y) (NoneBy y)) p _ d (part_expr_is _ _ e) (z, h, it)
  by_field {place} {p} {y} (j.inner_field at es z d h it) = into (ByPart (FieldExpr place y) (NoneBy y)) p _ d (part_inner_is _ _ at es) (z, h, it)

  abbrev pub IndexExpr : Verdict IndexKey → Expr → Type 0
  IndexExpr y e = (z : Verdict (OperandOf GoType)) × Judges context e z × Behind z (key_found context.table) y

  abbrev pub IndexKeyBy : Verdict IndexKey → Option Part → Type 0
  IndexKeyBy y None = good IndexKey.Absent y
  IndexKeyBy y (Some p) = ByPart (IndexExpr y) (NoneBy y) p

  pub by_index_key : {p : Option Part} {y : Verdict IndexKey} → JudgesIndexKey context p y → IndexKeyBy y p
  by_index_key (j.no_index h) = h
  by_index_key {y = y} (j.expr_index {p = p} e z d h it) = into (ByPart (IndexExpr y) (NoneBy y)) p _ d (part_expr_is _ _ e) (z, h, it)
  by_index_key {y = y} (j.inner_index {p = p} at es z d h it) = into (ByPart (IndexExpr y) (NoneBy y)) p _ d (part_inner_is _ _ at es) (z, h, it)

  -- ---- types as they are written

  abbrev pub SizedBy : Pos → TypeExpr → Expr → Verdict GoType → Type 0
  SizedBy at element written y = (count : Verdict (OperandOf GoType)) × (found : Verdict ℕ) × (z : Verdict GoType) × Judges context written count × Behind count (array_length context.table at) found × JudgesType context element z × BehindBoth found z (array_type context.table at) y

  abbrev pub OpenBy : Pos → TypeExpr → Verdict GoType → Type 0
  OpenBy at element y = (z : Verdict GoType) × JudgesType context element z × Behind z (λ s. bad 78 at) y

  abbrev pub ArrayBy : Pos → TypeExpr → Verdict GoType → ArrayLength → Type 0
  ArrayBy at element y n = elim (out-ArrayLength n) [ ArrayLength-F.ArrayLength::Expr written ↦ SizedBy at element written y | ArrayLength-F.ArrayLength::Elements ↦ OpenBy at element y ]

  pub sized_is : (at : Pos) (element : TypeExpr) (y : Verdict GoType) (written : Expr) → ArrayBy at element y (size.Expr written) ≡ SizedBy at element written y
  sized_is at element y written = rw (ap out-ArrayLength (sym (size.rolls-Expr written)) ∙ out-roll-ArrayLength _, ArrayBy) refl

  pub open_is : (at : Pos) (element : TypeExpr) (y : Verdict GoType) → ArrayBy at element y size.Elements ≡ OpenBy at element y
  open_is at element y = rw (ap out-ArrayLength (sym size.rolls-Elements) ∙ out-roll-ArrayLength _, ArrayBy) refl

  abbrev pub MadeBy : (GoType → GoType) → TypeExpr → Verdict GoType → Type 0
  MadeBy go of y = (z : Verdict GoType) × JudgesType context of z × (y ≡ made go z)

  abbrev pub MapBy : Pos → TypeExpr → TypeExpr → Verdict GoType → Type 0
  MapBy at key value y = (a : Verdict GoType) × (b : Verdict GoType) × JudgesType context key a × JudgesType context value b × BehindBoth a b (map_type context.table at) y

  abbrev pub StructBy : Pos → List Field → Verdict GoType → Type 0
  StructBy at fields y = (z : Verdict (List (FieldOf GoType))) × JudgesFieldTypes context [] fields z × Behind z (struct_type context.table at) y

  abbrev pub InterfaceBy : List Member → Verdict GoType → Type 0
  InterfaceBy members y = (names : Verdict Distinct) × (z : Verdict (List (MethodOf GoType))) × (all : Verdict (List (MethodOf GoType))) × JudgesMethods context members z × distinct [] (method_names members) names × JudgesEmbedded context z.form members all
      × (y ≡ both (λ fresh ms. interface_type ms) (both (λ ms fresh. fresh) z names) all)

  abbrev pub ByType : Verdict GoType → TypeExpr → Type 0
  ByType y e = elim (out-TypeExpr e) [
    | TypeExpr-F.TypeExpr::Name n ↦ name_of_type context n.qualifier n.name y
    | TypeExpr-F.TypeExpr::Paren at inner ↦ JudgesType context inner y
    | TypeExpr-F.Pointer at to ↦ MadeBy pointer_to to y
    | TypeExpr-F.TypeExpr::Slice at element ↦ MadeBy (list_of true) element y
    | TypeExpr-F.Array at n element ↦ ArrayBy at element y n
    | TypeExpr-F.Map at key value ↦ MapBy at key value y
    | TypeExpr-F.TypeExpr::Function at signature ↦ JudgesSignature context signature y
    | TypeExpr-F.Struct at fields ↦ StructBy at fields y
    | TypeExpr-F.Interface at members ↦ InterfaceBy members y
  ]

  pub type_name_is : (n : TypeName) (y : Verdict GoType) → ByType y (ty.Name n) ≡ name_of_type context n.qualifier n.name y
  type_name_is n y = rw (ap out-TypeExpr (sym (ty.rolls-Name n)) ∙ out-roll-TypeExpr _, ByType) refl

  pub type_paren_is : (at : Pos) (inner : TypeExpr) (y : Verdict GoType) → ByType y (ty.Paren at inner) ≡ JudgesType context inner y
  type_paren_is at inner y = rw (ap out-TypeExpr (sym (ty.rolls-Paren at inner)) ∙ out-roll-TypeExpr _, ByType) refl

  pub type_pointer_is : (at : Pos) (to : TypeExpr) (y : Verdict GoType) → ByType y (ty.Pointer at to) ≡ MadeBy pointer_to to y
  type_pointer_is at to y = rw (ap out-TypeExpr (sym (ty.rolls-Pointer at to)) ∙ out-roll-TypeExpr _, ByType) refl

  pub type_slice_is : (at : Pos) (element : TypeExpr) (y : Verdict GoType) → ByType y (ty.Slice at element) ≡ MadeBy (list_of true) element y
  type_slice_is at element y = rw (ap out-TypeExpr (sym (ty.rolls-Slice at element)) ∙ out-roll-TypeExpr _, ByType) refl

  pub type_array_is : (at : Pos) (n : ArrayLength) (element : TypeExpr) (y : Verdict GoType) → ByType y (ty.Array at n element) ≡ ArrayBy at element y n
  type_array_is at n element y = rw (ap out-TypeExpr (sym (ty.rolls-Array at n element)) ∙ out-roll-TypeExpr _, ByType) refl

  pub type_map_is : (at : Pos) (key value : TypeExpr) (y : Verdict GoType) → ByType y (ty.Map at key value) ≡ MapBy at key value y
  type_map_is at key value y = rw (ap out-TypeExpr (sym (ty.rolls-Map at key value)) ∙ out-roll-TypeExpr _, ByType) refl

  pub type_function_is : (at : Pos) (signature : Signature) (y : Verdict GoType) → ByType y (ty.Function at signature) ≡ JudgesSignature context signature y
  type_function_is at signature y = rw (ap out-TypeExpr (sym (ty.rolls-Function at signature)) ∙ out-roll-TypeExpr _, ByType) refl

  pub type_struct_is : (at : Pos) (fields : List Field) (y : Verdict GoType) → ByType y (ty.Struct at fields) ≡ StructBy at fields y
  type_struct_is at fields y = rw (ap out-TypeExpr (sym (ty.rolls-Struct at fields)) ∙ out-roll-TypeExpr _, ByType) refl

  pub type_interface_is : (at : Pos) (members : List Member) (y : Verdict GoType) → ByType y (ty.Interface at members) ≡ InterfaceBy members y
  type_interface_is at members y = rw (ap out-TypeExpr (sym (ty.rolls-Interface at members)) ∙ out-roll-TypeExpr _, ByType) refl

  pub by_type : {e : TypeExpr} {y : Verdict GoType} → JudgesType context e y → ByType y e
  by_type {e} {y} (j.name_type n is h) = into (ByType y) e _ is (type_name_is n y) h
  by_type {e} {y} (j.paren_type at inner is h) = into (ByType y) e _ is (type_paren_is at inner y) h
  by_type {e} {y} (j.pointer_type at to z is h d) = into (ByType y) e _ is (type_pointer_is at to y) (z, h, d)
  by_type {e} {y} (j.slice_type at element z is h d) = into (ByType y) e _ is (type_slice_is at element y) (z, h, d)
  by_type {e} {y} (j.array_of at written element count found z is h it k also) = into (ByType y) e _ is (type_array_is at (size.Expr written) element y ∙ sized_is at element y written) (count, found, z, h, it, k, also)
  by_type {e} {y} (j.open_alone at element z is h it) = into (ByType y) e _ is (type_array_is at size.Elements element y ∙ open_is at element y) (z, h, it)
  by_type {e} {y} (j.map_of at key value a b is h k it) = into (ByType y) e _ is (type_map_is at key value y) (a, b, h, k, it)
  by_type {e} {y} (j.function_of at signature is h) = into (ByType y) e _ is (type_function_is at signature y) h
  by_type {e} {y} (j.struct_of at fields z is h it) = into (ByType y) e _ is (type_struct_is at fields y) (z, h, it)
  by_type {e} {y} (j.interface_of at members names z is h d all k it) = into (ByType y) e _ is (type_interface_is at members y) (names, z, all, h, d, k, it)

  -- an array whose length is not written
  pub is_open_of : (of element : TypeExpr) (at : Pos) → of ≡ ty.Array at size.Elements element → is_open of ≡ true
  is_open_of of element at e = ap is_open e ∙ opened_array at element
    where
      opened_length : (n : ArrayLength) → n ≡ size.Elements → elim (out-ArrayLength n) [ ArrayLength-F.ArrayLength::Elements ↦ true | _ ↦ false ] ≡ true
      opened_length n d = rw d (rw (ap out-ArrayLength (sym size.rolls-Elements) ∙ out-roll-ArrayLength _) refl)

      opened_array : (at : Pos) (element : TypeExpr) → is_open (ty.Array at size.Elements element) ≡ true
      opened_array at element = rw (ap out-TypeExpr (sym (ty.rolls-Array at size.Elements element)) ∙ out-roll-TypeExpr _, is_open) (opened_length size.Elements refl)

  pub same_open : (at place : Pos) (a b : TypeExpr) → ty.Array at size.Elements a ≡ ty.Array place size.Elements b → (at ≡ place) × (a ≡ b)
  same_open at place a b e = let d = sym (ap out-TypeExpr (sym (ty.rolls-Array at size.Elements a)) ∙ out-roll-TypeExpr _) ∙ ap out-TypeExpr e ∙ (ap out-TypeExpr (sym (ty.rolls-Array place size.Elements b)) ∙ out-roll-TypeExpr _) in (cc, cc)

  -- ---- fields and members

  abbrev pub NamedBy : List Name → List Field → List Name → TypeExpr → Verdict (List (FieldOf GoType)) → Type 0
  NamedBy before fields names of y = (z : Verdict GoType) × (fresh : Verdict Distinct) × (rest : Verdict (List (FieldOf GoType))) × JudgesType context of z × distinct before names fresh × JudgesFieldTypes context (before ++ names) fields rest
      × (y ≡ both (λ s fs. fields_of context.path names s ++ fs) z (both behind_names fresh rest))

  abbrev pub EmbeddedBy : List Name → List Field → Option Pos → TypeName → Verdict (List (FieldOf GoType)) → Type 0
  EmbeddedBy before fields star of y = (z : Verdict GoType) × (fresh : Verdict Distinct) × (one : Verdict (FieldOf GoType)) × (rest : Verdict (List (FieldOf GoType))) × name_of_type context of.qualifier of.name z × distinct before (of.name ∷ []) fresh
      × on (embedded_field context.table context.path (star_place star of.qualifier of.name) (is_found star) of.name.text) z.form one × JudgesFieldTypes context (before ++ of.name ∷ []) fields rest × (y ≡ both (λ s fs. fs) z (both behind_names fresh (first_of_list one rest)))

  abbrev pub ByField : List Name → List Field → Verdict (List (FieldOf GoType)) → Field → Type 0
  ByField before fields y a = elim (out-Field a) [ Field-F.Named names of ↦ NamedBy before fields names of y | Field-F.Field::Embedded star of ↦ EmbeddedBy before fields star of y ]

  pub named_field_is : (before : List Name) (fields : List Field) (y : Verdict (List (FieldOf GoType))) (names : List Name) (of : TypeExpr) → ByField before fields y (field.Named names of) ≡ NamedBy before fields names of y
  named_field_is before fields y names of = rw (ap out-Field (sym (field.rolls-Named names of)) ∙ out-roll-Field _, ByField) refl

  pub embedded_field_is : (before : List Name) (fields : List Field) (y : Verdict (List (FieldOf GoType))) (star : Option Pos) (of : TypeName) → ByField before fields y (field.Embedded star of) ≡ EmbeddedBy before fields star of y
  embedded_field_is before fields y star of = rw (ap out-Field (sym (field.rolls-Embedded star of)) ∙ out-roll-Field _, ByField) refl

  abbrev pub FieldsBy : List Name → Verdict (List (FieldOf GoType)) → List Field → Type 0
  FieldsBy before y [] = good [] y
  FieldsBy before y (a ∷ fields) = ByField before fields y a

  pub by_fields : {before : List Name} {fields : List Field} {y : Verdict (List (FieldOf GoType))} → JudgesFieldTypes context before fields y → FieldsBy before y fields
  by_fields (j.no_field_type h) = h
  by_fields {before} {y = y} (j.named_fields {x = a} {fields = fields} names of z fresh rest is h d hs e) = into (ByField before fields y) a _ is (named_field_is before fields y names of) (z, fresh, rest, h, d, hs, e)
  by_fields {before} {y = y} (j.embedded_one {x = a} {fields = fields} star of z fresh one rest is h d it hs e) = into (ByField before fields y) a _ is (embedded_field_is before fields y star of) (z, fresh, one, rest, h, d, it, hs, e)

  abbrev pub ByMember : (Name → Signature → Type 0) → (TypeName → Type 0) → Member → Type 0
  ByMember M E m = elim (out-Member m) [ Member-F.Method name signature ↦ M name signature | Member-F.Member::Embedded of ↦ E of ]

  pub method_is : (M : Name → Signature → Type 0) (E : TypeName → Type 0) (name : Name) (signature : Signature) → ByMember M E (member.Method name signature) ≡ M name signature
  method_is M E name signature = rw (ap out-Member (sym (member.rolls-Method name signature)) ∙ out-roll-Member _, ByMember) refl

  pub member_embedded_is : (M : Name → Signature → Type 0) (E : TypeName → Type 0) (of : TypeName) → ByMember M E (member.Embedded of) ≡ E of
  member_embedded_is M E of = rw (ap out-Member (sym (member.rolls-Embedded of)) ∙ out-roll-Member _, ByMember) refl

  abbrev pub MethodBy : List Member → Verdict (List (MethodOf GoType)) → Name → Signature → Type 0
  MethodBy ms y name signature = (z : Verdict GoType) × (one : Verdict (MethodOf GoType)) × (rest : Verdict (List (MethodOf GoType))) × JudgesSignature context signature z × Behind z (interface_method context.path name) one × JudgesMethods context ms rest × (y ≡ first_of_list one rest)

  abbrev pub MethodsBy : Verdict (List (MethodOf GoType)) → List Member → Type 0
  MethodsBy y [] = good [] y
  MethodsBy y (m ∷ ms) = ByMember (MethodBy ms y) (λ of. JudgesMethods context ms y) m

  pub by_methods : {ms : List Member} {y : Verdict (List (MethodOf GoType))} → JudgesMethods context ms y → MethodsBy y ms
  by_methods (j.no_method h) = h
  by_methods {y = y} (j.named_method {m = m} {ms = ms} name signature z one rest is h it hs e) = into (ByMember (MethodBy ms y) (λ of. JudgesMethods context ms y)) m _ is (method_is _ _ name signature) (z, one, rest, h, it, hs, e)
  by_methods {y = y} (j.embedded_later {m = m} {ms = ms} of is hs) = into (ByMember (MethodBy ms y) (λ of. JudgesMethods context ms y)) m _ is (member_embedded_is _ _ of) hs

  abbrev pub JoinedBy : Option (List (MethodOf GoType)) → List Member → Verdict (List (MethodOf GoType)) → TypeName → Type 0
  JoinedBy before ms y of = (z : Verdict GoType) × (methods : Verdict (List (MethodOf GoType))) × (next : Verdict (List (MethodOf GoType))) × (rest : Verdict (List (MethodOf GoType))) × name_of_type context of.qualifier of.name z
      × Behind z (embedded_methods context.table (place_by of.qualifier of.name)) methods × BehindBoth (record { form = before; faults = [] }) methods (with_embedded (place_by of.qualifier of.name)) next × JudgesEmbedded context next.form ms rest × (y ≡ record { form = rest.form; faults = next.faults ++ rest.faults })

  abbrev pub EmbeddedsBy : Option (List (MethodOf GoType)) → Verdict (List (MethodOf GoType)) → List Member → Type 0
  EmbeddedsBy before y [] = y ≡ record { form = before; faults = [] }
  EmbeddedsBy before y (m ∷ ms) = ByMember (λ name signature. JudgesEmbedded context before ms y) (JoinedBy before ms y) m

  pub by_embedded : {before : Option (List (MethodOf GoType))} {ms : List Member} {y : Verdict (List (MethodOf GoType))} → JudgesEmbedded context before ms y → EmbeddedsBy before y ms
  by_embedded (j.all_embedded h) = h
  by_embedded {before} {y = y} (j.not_embedded {m = m} {ms = ms} name signature is hs) = into (ByMember (λ n s. JudgesEmbedded context before ms y) (JoinedBy before ms y)) m _ is (method_is _ _ name signature) hs
  by_embedded {before} {y = y} (j.one_embedded {m = m} {ms = ms} of z methods next rest is h it also hs e) = into (ByMember (λ n s. JudgesEmbedded context before ms y) (JoinedBy before ms y)) m _ is (member_embedded_is _ _ of) (z, methods, next, rest, h, it, also, hs, e)

  -- ---- types of literals

  abbrev pub OtherBy : Expr → Pos → Pos → Verdict LiteralType → Type 0
  OtherBy e brace first y = (z : Verdict (OperandOf GoType)) × (first ≡ brace) × Judges context e z × Behind z (as_literal_type first) y

  abbrev pub StarBy : Expr → Pos → Pos → Verdict LiteralType → Pos → Expr → UnaryOperator → Type 0
  StarBy e brace first y at inner u.Dereference = (place : Pos) × (z : Verdict LiteralType) × (first ≡ at) × JudgesLiteralType context inner brace place z × Behind z (pointed_literal first) y
  StarBy e brace first y at inner operator = OtherBy e brace first y

  abbrev pub QualifiedBy : Expr → Pos → Pos → Verdict LiteralType → Expr → List Step → Bool → Type 0
  QualifiedBy e brace first y operand steps true = (qualifier : Name) × (name : Name) × (s : Step) × (at : Pos) × (z : Verdict GoType) × (steps ≡ s ∷ []) × (operand ≡ x.Name qualifier) × (s ≡ step.Selector at name) × (first ≡ qualifier.pos)
      × qualified_type context.exports context.names qualifier name z × (y ≡ made LiteralType.Whole z)
  QualifiedBy e brace first y operand steps false = OtherBy e brace first y

  abbrev pub TypeNameBy : Pos → Verdict LiteralType → Name → Type 0
  TypeNameBy first y n = (z : Verdict GoType) × (first ≡ n.pos) × type_named context.names n z × (y ≡ made LiteralType.Whole z)

  abbrev pub ParenBy : Pos → Pos → Verdict LiteralType → Pos → Expr → Type 0
  ParenBy brace first y at inner = (place : Pos) × (first ≡ at) × JudgesLiteralType context inner brace place y

  abbrev pub WrittenBy : Expr → Pos → Verdict LiteralType → TypeExpr → Type 0
  WrittenBy e first y of = (z : Verdict (OperandOf GoType)) × (first ≡ type_place of) × Judges context e z × Behind z (as_literal_type first) y

  abbrev pub ByLiteralType : Expr → Pos → Pos → Verdict LiteralType → Expr → Type 0
  ByLiteralType e brace first y a = elim (out-Expr a) [
    | Expr-F.Expr::Name name ↦ TypeNameBy first y name
    | Expr-F.Expr::Paren at inner ↦ ParenBy brace first y at inner
    | Expr-F.Expr::Type of ↦ WrittenBy e first y of
    | Expr-F.Unary at operator operand ↦ StarBy e brace first y at operand operator
    | Expr-F.Primary operand steps ↦ QualifiedBy e brace first y operand steps (is_name operand && is_one_selector steps)
    | _ ↦ OtherBy e brace first y
  ]

  module _ (e : Expr) (brace first : Pos) (y : Verdict LiteralType) where
    pub literal_name_is : (name : Name) → ByLiteralType e brace first y (x.Name name) ≡ TypeNameBy first y name
    literal_name_is name = rw (ap out-Expr (sym (x.rolls-Name name)) ∙ out-roll-Expr _, ByLiteralType) refl

    pub literal_paren_is : (at : Pos) (inner : Expr) → ByLiteralType e brace first y (x.Paren at inner) ≡ ParenBy brace first y at inner
    literal_paren_is at inner = rw (ap out-Expr (sym (x.rolls-Paren at inner)) ∙ out-roll-Expr _, ByLiteralType) refl

    pub literal_written_is : (of : TypeExpr) → ByLiteralType e brace first y (x.Type of) ≡ WrittenBy e first y of
    literal_written_is of = rw (ap out-Expr (sym (x.rolls-Type of)) ∙ out-roll-Expr _, ByLiteralType) refl

    pub literal_unary_is : (at : Pos) (operator : UnaryOperator) (inner : Expr) → ByLiteralType e brace first y (x.Unary at operator inner) ≡ StarBy e brace first y at inner operator
    literal_unary_is at operator inner = rw (ap out-Expr (sym (x.rolls-Unary at operator inner)) ∙ out-roll-Expr _, ByLiteralType) refl

    pub literal_primary_is : (operand : Expr) (steps : List Step) → ByLiteralType e brace first y (x.Primary operand steps) ≡ QualifiedBy e brace first y operand steps (is_name operand && is_one_selector steps)
    literal_primary_is operand steps = rw (ap out-Expr (sym (x.rolls-Primary operand steps)) ∙ out-roll-Expr _, ByLiteralType) refl

    star_other : (at : Pos) (inner : Expr) (operator : UnaryOperator) → is_dereference operator ≡ false → StarBy e brace first y at inner operator ≡ OtherBy e brace first y
    star_other at inner u.Dereference not = absurd (search (rules, not))
    star_other at inner u.Plus not = refl
    star_other at inner u.Minus not = refl
    star_other at inner u.Not not = refl
    star_other at inner u.Complement not = refl
    star_other at inner u.Address not = refl

    qualified_other : (operand : Expr) (steps : List Step) (b : Bool) → b ≡ false → QualifiedBy e brace first y operand steps b ≡ OtherBy e brace first y
    qualified_other operand steps true not = absurd (search (rules, not))
    qualified_other operand steps false not = refl

    -- what reads as no type
    pub other_is : (a : Expr) → is_type_operand a ≡ false → ByLiteralType e brace first y a ≡ OtherBy e brace first y
    other_is a = elim (out-Expr a) as (λ layer. (elim layer [ Expr-F.Expr::Name name ↦ true | Expr-F.Expr::Paren at inner ↦ true | Expr-F.Expr::Type of ↦ true | Expr-F.Unary at operator operand ↦ is_dereference operator | Expr-F.Primary operand steps ↦ is_name operand && is_one_selector steps | _ ↦ false ]) ≡ false
        → (elim layer [
          | Expr-F.Expr::Name name ↦ TypeNameBy first y name
          | Expr-F.Expr::Paren at inner ↦ ParenBy brace first y at inner
          | Expr-F.Expr::Type of ↦ WrittenBy e first y of
          | Expr-F.Unary at operator operand ↦ StarBy e brace first y at operand operator
          | Expr-F.Primary operand steps ↦ QualifiedBy e brace first y operand steps (is_name operand && is_one_selector steps)
          | _ ↦ OtherBy e brace first y
        ]) ≡ OtherBy e brace first y) [
          | Expr-F.Expr::Name name ↦ λ not. absurd (search (rules, not))
          | Expr-F.Expr::Paren at inner ↦ λ not. absurd (search (rules, not))
          | Expr-F.Expr::Type of ↦ λ not. absurd (search (rules, not))
          | Expr-F.Unary at operator operand ↦ λ not. star_other at operand operator not
          | Expr-F.Primary operand steps ↦ λ not. qualified_other operand steps _ not
          | Expr-F.Literal l ↦ λ not. refl
          | Expr-F.Composite of at es ↦ λ not. refl
          | Expr-F.Expr::Function at signature body ↦ λ not. refl
          | Expr-F.Binary front rest ↦ λ not. refl
        ]

  name_true : (name : Name) → is_name (x.Name name) ≡ true
  name_true name = rw (ap out-Expr (sym (x.rolls-Name name)) ∙ out-roll-Expr _, is_name) refl

  selector_true : (at : Pos) (name : Name) → is_selector (step.Selector at name) ≡ true
  selector_true at name = rw (ap out-Step (sym (step.rolls-Selector at name)) ∙ out-roll-Step _, is_selector) refl

  both_true : (a b : Bool) → a ≡ true → b ≡ true → (a && b) ≡ true
  both_true true b e d = d
  both_true false b e d = absurd (search (rules, e))

  pub qualified_true : (operand : Expr) (s : Step) (qualifier name : Name) (at : Pos) → operand ≡ x.Name qualifier → s ≡ step.Selector at name → (is_name operand && is_one_selector (s ∷ [])) ≡ true
  qualified_true operand s qualifier name at e d = both_true _ _ (ap is_name e ∙ name_true qualifier) (ap is_selector d ∙ selector_true at name)

  pub by_literal_type : {e : Expr} {brace first : Pos} {y : Verdict LiteralType} → JudgesLiteralType context e brace first y → ByLiteralType e brace first y e
  by_literal_type {e} {brace} {first} {y} (j.literal_name n z is d h f) = into (ByLiteralType e brace first y) e _ is (literal_name_is e brace first y n) (z, d, h, f)
  by_literal_type {e} {brace} {first} {y} (j.literal_qualified operand qualifier name s at z is d c b h f) = into (ByLiteralType e brace first y) e _ is (literal_primary_is e brace first y operand (s ∷ []) ∙ ap (QualifiedBy e brace first y operand (s ∷ [])) (qualified_true operand s qualifier name at d c)) (qualifier, name, s, at, z, refl, d, c, b, h, f)
  by_literal_type {e} {brace} {first} {y} (j.literal_paren inner place is h) = into (ByLiteralType e brace first y) e _ is (literal_paren_is e brace first y first inner) (place, refl, h)
  by_literal_type {e} {brace} {first} {y} (j.literal_pointer inner place z is h it) = into (ByLiteralType e brace first y) e _ is (literal_unary_is e brace first y first u.Dereference inner) (place, z, refl, h, it)
  by_literal_type {e} {brace} {first} {y} (j.literal_written of z is d h it) = into (ByLiteralType e brace first y) e _ is (literal_written_is e brace first y of) (z, d, h, it)
  by_literal_type {e} {brace} {first} {y} (j.literal_other z not d h it) = cast (sym (other_is e brace first y e not)) (z, d, h, it)
