-- What is found of a type is found once, in a table in which a type has one definition at most.
use Rattle.std.proofs.Common.{◌≡◌, refl, sym, ap, ◌∙◌, subst, ℕ, List, Some, None, Bool, true, false, true≢false, inl, inr, ◌⊎◌}
use Rattle.gno_base.specs.declared.kind.Kind.TheVariants as k
use Rattle.gno_terms.specs.declared.term.GoType.{GoType}
use Rattle.gno_terms.specs.declared.term.TermOf.{TermOf}
use Rattle.gno_terms.specs.declared.term.TermOf.TheVariants as t
use Rattle.gno_terms.specs.Normal.{Identical, normal, normal_term}
use Rattle.gno_terms.specs.Tables.{Table, Underlying, UnderlyingBy}
use Rattle.gno_terms.specs.Terms.{term_of, term_with}
use Rattle.gno_terms.proofs.Layers.{normal-at, term_of-type_of, type_of-term_of}
use Rattle.gno_typed.specs.declared.expr.ConversionKind.{ConversionKind}
use Rattle.gno_typed.specs.declared.expr.ConversionKind.TheVariants as kind
use Rattle.gno_typed.specs.declared.step.IndexKind.TheVariants as index_kind
use Rattle.gno_typed.specs.declared.step.SliceKind.TheVariants as slice_kind
use Rattle.gno_promotion.specs.MethodSets.{is_interface}
use Rattle.gno_typing.specs.Builtins.{HasLength, IsSlice}
use Rattle.gno_typing.specs.Builtins.{HasLength as l}
use Rattle.gno_typing.specs.Calls.{Function, IsFunction}
use Rattle.gno_typing.specs.Classes.{basic, is_integer}
use Rattle.gno_typing.specs.Conversions.{Converts, ConvertsBy, ElementsAre}
use Rattle.gno_typing.specs.Conversions.{Converts as c}
use Rattle.gno_typing.specs.Indexes.{Elements, HasElements, HasKeys}
use Rattle.gno_typing.specs.Indexes.{HasElements as e}
use Rattle.gno_embedding.specs.Walking.{HasOneDefinition}
use Rattle.gno_typing.specs.Pointers.{PointsAt}
use Rattle.gno_typing.specs.Slices.{Sliced, Slices, slice_of}
use Rattle.gno_typing.specs.Slices.{Slices as cut}
use Rattle.gno_typing.proofs.OneParts.{Once}

-- ---- terms

pub same_pointer : {a b : GoType} → t.Pointer a ≡ t.Pointer b → a ≡ b
same_pointer e = cc

same_slice : {a b : GoType} → t.Slice a ≡ t.Slice b → a ≡ b
same_slice e = cc

same_array : {m n : ℕ} {a b : GoType} → t.Array m a ≡ t.Array n b → (m ≡ n) × (a ≡ b)
same_array e = (cc, cc)

same_map : {a b c d : GoType} → t.Map a b ≡ t.Map c d → (a ≡ c) × (b ≡ d)
same_map e = (cc, cc)

same_function : {ps qs rs ss : List GoType} {v w : Bool} → t.Function ps v rs ≡ t.Function qs w ss → (ps ≡ qs) × (v ≡ w) × (rs ≡ ss)
same_function e = (cc, cc, cc)

function_by : (g h : Function) → g.params ≡ h.params → g.variadic ≡ h.variadic → g.results ≡ h.results → g ≡ h
function_by g h params variadic results =
    ap (λ ps. record { params = ps; variadic = g.variadic; results = g.results }) params ∙ ap (λ v. record { params = h.params; variadic = v; results = g.results }) variadic ∙ ap (λ rs. record { params = h.params; variadic = h.variadic; results = rs }) results

kinds_differ : (x y : TermOf GoType) → x ≡ t.Basic k.Uint8 → y ≡ t.Basic k.Int32 → x ≡ y → ⊥
kinds_differ x y is also same = cc

-- the form of a normal type is that of the type
normal_of : (u : GoType) → term_of (normal u) ≡ normal_term (term_with normal (term_of u))
normal_of u = ap (λ v. term_of (normal v)) (sym (type_of-term_of u)) ∙ ap term_of (normal-at (term_of u)) ∙ term_of-type_of (normal_term (term_with normal (term_of u)))

-- ---- what conversions ask of a type

data Side : Type 0 where
  interface integer text list other : Side

side : {A : Type 0} → TermOf A → Side
side (t.Basic k.Text) = text
side (t.Basic k.Bool) = other
side (t.Basic kind) = integer
side t.UntypedWhole = integer
side t.UntypedRune = integer
side (t.Slice element) = list
side (t.Interface ms) = interface
side _ = other

interface_side : (x : TermOf GoType) → is_interface x ≡ true → side x ≡ interface
unfolding side
interface_side (t.Interface ms) is = refl
interface_side _ is = absurd (true≢false (sym is))

no_interface_side : (x : TermOf GoType) → is_interface x ≡ false → side x ≡ interface → ⊥
unfolding side
no_interface_side (t.Interface ms) is at = true≢false is
no_interface_side (t.Basic k.Text) is at = cc
no_interface_side (t.Basic k.Bool) is at = cc
no_interface_side (t.Basic kind) is at = cc
no_interface_side _ is at = cc

integer_side : (x : TermOf GoType) → is_integer x ≡ true → side x ≡ integer
unfolding side
integer_side (t.Basic k.Text) is = absurd (true≢false (sym is))
integer_side (t.Basic k.Bool) is = absurd (true≢false (sym is))
integer_side (t.Basic kind) is = refl
integer_side t.UntypedWhole is = refl
integer_side t.UntypedRune is = refl
integer_side _ is = absurd (true≢false (sym is))

text_side : (x : TermOf GoType) → x ≡ t.Basic k.Text → side x ≡ text
unfolding side
text_side x is = ap side is

list_side : (x : TermOf GoType) (element : GoType) → x ≡ t.Slice element → side x ≡ list
unfolding side
list_side x element is = ap side is

pointer_side : (x : TermOf GoType) (to : GoType) → x ≡ t.Pointer to → side x ≡ other
unfolding side
pointer_side x to is = ap side is

normal_side : (x : TermOf GoType) → side (normal_term (term_with normal x)) ≡ side x
unfolding side
normal_side (t.Basic kind) = refl
normal_side _ = refl

identical_side : (a b : GoType) → Identical a b → side (term_of a) ≡ side (term_of b)
identical_side a b same = sym (normal_side (term_of a)) ∙ ap side (sym (normal_of a) ∙ ap term_of same ∙ normal_of b) ∙ normal_side (term_of b)

-- a value of one type, in one way
module _ (table : Table) (one : HasOneDefinition table) where
  under_by : (s u v : GoType) (x : TermOf GoType) → UnderlyingBy table s u x → UnderlyingBy table s v x → u ≡ v
  under_by s u v (t.Defined path name local) a b = sym a.3 ∙ ap (λ d. d.underlying) (one a.0 b.0 a.1 b.1 (a.2 ∙ sym b.2)) ∙ b.3
  under_by s u v _ a b = a ∙ sym b

  pub underlying_once : (s u v : GoType) → Underlying table s u → Underlying table s v → u ≡ v
  underlying_once s u v a b = under_by s u v (term_of s) a b

  -- the terms of underlying types
  term_once : (s u v : GoType) {x y : TermOf GoType} → Underlying table s u → Underlying table s v → term_of u ≡ x → term_of v ≡ y → x ≡ y
  term_once s u v a b is also = sym is ∙ ap term_of (underlying_once s u v a b) ∙ also

  pub points_once : (s : GoType) → Once (PointsAt table s)
  points_once s u v it also = same_pointer (term_once _ _ _ it.by also.by it.is also.is)

  pub slice_once : (s : GoType) → Once (IsSlice table s)
  slice_once s u v it also = same_slice (term_once _ _ _ it.by also.by it.is also.is)

  pub function_once : (s : GoType) → Once (IsFunction table s)
  function_once s g h it also = let same = same_function (term_once _ _ _ it.by also.by it.is also.is) in function_by g h same.0 same.1 same.2

  pub keys_once : (s key of value to : GoType) → HasKeys table s key value → HasKeys table s of to → (key ≡ of) × (value ≡ to)
  keys_once s key of value to it also = same_map (term_once _ _ _ it.by also.by it.is also.is)

  -- ---- arrays, slices and texts

  abbrev LengthBy : TermOf GoType → ℕ → Type 0
  LengthBy (t.Array m element) n = n ≡ m
  LengthBy (t.Pointer a) n = (b element : GoType) × Underlying table a b × (term_of b ≡ t.Array n element)
  LengthBy _ n = ⊥

  length_by_once : (x : TermOf GoType) → Once (LengthBy x)
  length_by_once (t.Array m element) n o it also = it ∙ sym also
  length_by_once (t.Pointer a) n o it also = (same_array (term_once _ _ _ it.2 also.2 it.3 also.3)).0
  length_by_once _ n o it also = absurd it

  length_by : {s : GoType} {n : ℕ} → HasLength table s n → (u : GoType) × Underlying table s u × LengthBy (term_of u) n
  length_by {s} {n} (l.of_array u element by is) = (u, by, subst (λ x. LengthBy x n) (sym is) refl)
  length_by {s} {n} (l.of_pointer u b e element by is to to_is) = (u, by, subst (λ x. LengthBy x n) (sym is) (e, element, to, to_is))

  pub length_once : (s : GoType) → Once (HasLength table s)
  length_once s m n it also =
      let a = length_by it in let b = length_by also in
      length_by_once (term_of b.0) m n (subst (λ u. LengthBy (term_of u) m) (underlying_once _ a.0 b.0 a.1 b.1) a.2) b.2

  abbrev ElementsBy : TermOf GoType → Elements → Type 0
  ElementsBy (t.Basic k.Text) x = x ≡ record { kind = index_kind.String; of = basic k.Uint8; count = None }
  ElementsBy (t.Slice element) x = x ≡ record { kind = index_kind.Slice; of = element; count = None }
  ElementsBy (t.Array n element) x = x ≡ record { kind = index_kind.Array; of = element; count = Some n }
  ElementsBy (t.Pointer a) x = (b element : GoType) × (n : ℕ) × Underlying table a b × (term_of b ≡ t.Array n element) × (x ≡ record { kind = index_kind.Pointer; of = element; count = Some n })
  ElementsBy _ x = ⊥

  elements_by_once : (x : TermOf GoType) → Once (ElementsBy x)
  elements_by_once (t.Basic k.Text) d e it also = it ∙ sym also
  elements_by_once (t.Slice element) d e it also = it ∙ sym also
  elements_by_once (t.Array n element) d e it also = it ∙ sym also
  elements_by_once (t.Pointer a) d e it also =
      let same = same_array (term_once _ _ _ it.3 also.3 it.4 also.4) in
      it.5 ∙ ap (λ m. record { kind = index_kind.Pointer; of = it.1; count = Some m }) same.0 ∙ ap (λ x. record { kind = index_kind.Pointer; of = x; count = Some also.2 }) same.1 ∙ sym also.5
  elements_by_once _ d e it also = absurd it

  elements_by : {s : GoType} {x : Elements} → HasElements table s x → (u : GoType) × Underlying table s u × ElementsBy (term_of u) x
  elements_by {s} {x} (e.of_text u by is x_is) = (u, by, subst (λ y. ElementsBy y x) (sym is) x_is)
  elements_by {s} {x} (e.of_slice u element by is x_is) = (u, by, subst (λ y. ElementsBy y x) (sym is) x_is)
  elements_by {s} {x} (e.of_array u element n by is x_is) = (u, by, subst (λ y. ElementsBy y x) (sym is) x_is)
  elements_by {s} {x} (e.of_pointer u a b element n by is to to_is x_is) = (u, by, subst (λ y. ElementsBy y x) (sym is) (b, element, n, to, to_is, x_is))

  pub elements_once : (s : GoType) → Once (HasElements table s)
  elements_once s x y it also =
      let a = elements_by it in let b = elements_by also in
      elements_by_once (term_of b.0) x y (subst (λ u. ElementsBy (term_of u) x) (underlying_once _ a.0 b.0 a.1 b.1) a.2) b.2

  abbrev SlicesBy : GoType → TermOf GoType → Sliced → Type 0
  SlicesBy s (t.Basic k.Text) x = x ≡ record { kind = slice_kind.String; of = s; count = None }
  SlicesBy s (t.Slice element) x = x ≡ record { kind = slice_kind.Slice; of = s; count = None }
  SlicesBy s (t.Array n element) x = x ≡ record { kind = slice_kind.Array; of = slice_of element; count = Some n }
  SlicesBy s (t.Pointer a) x = (b element : GoType) × (n : ℕ) × Underlying table a b × (term_of b ≡ t.Array n element) × (x ≡ record { kind = slice_kind.Pointer; of = slice_of element; count = Some n })
  SlicesBy s _ x = ⊥

  slices_by_once : (s : GoType) (x : TermOf GoType) → Once (SlicesBy s x)
  slices_by_once s (t.Basic k.Text) d e it also = it ∙ sym also
  slices_by_once s (t.Slice element) d e it also = it ∙ sym also
  slices_by_once s (t.Array n element) d e it also = it ∙ sym also
  slices_by_once s (t.Pointer a) d e it also =
      let same = same_array (term_once _ _ _ it.3 also.3 it.4 also.4) in
      it.5 ∙ ap (λ m. record { kind = slice_kind.Pointer; of = slice_of it.1; count = Some m }) same.0 ∙ ap (λ x. record { kind = slice_kind.Pointer; of = slice_of x; count = Some also.2 }) same.1 ∙ sym also.5
  slices_by_once s _ d e it also = absurd it

  slices_by : {s : GoType} {x : Sliced} → Slices table s x → (u : GoType) × Underlying table s u × SlicesBy s (term_of u) x
  slices_by {s} {x} (cut.of_string u by is x_is) = (u, by, subst (λ y. SlicesBy s y x) (sym is) x_is)
  slices_by {s} {x} (cut.of_slice u element by is x_is) = (u, by, subst (λ y. SlicesBy s y x) (sym is) x_is)
  slices_by {s} {x} (cut.of_array u element n by is x_is) = (u, by, subst (λ y. SlicesBy s y x) (sym is) x_is)
  slices_by {s} {x} (cut.of_pointer u a b element n by is to to_is x_is) = (u, by, subst (λ y. SlicesBy s y x) (sym is) (b, element, n, to, to_is, x_is))

  pub slices_once : (s : GoType) → Once (Slices table s)
  slices_once s x y it also =
      let a = slices_by it in let b = slices_by also in
      slices_by_once s (term_of b.0) x y (subst (λ u. SlicesBy s (term_of u) x) (underlying_once _ a.0 b.0 a.1 b.1) a.2) b.2

  -- ---- conversions

  elements_differ : (a : GoType) → ElementsAre k.Uint8 table a → ElementsAre k.Int32 table a → ⊥
  elements_differ a it also =
      let same = same_slice (sym it.is_slice ∙ also.is_slice) in
      kinds_differ _ _ it.is also.is (ap term_of (underlying_once also.element it.underlying also.underlying (subst (λ x. Underlying table x it.underlying) same it.by) also.by))

  -- in which way, by what both types are
  abbrev ConvertsFrom : GoType → GoType → Side → Side → ConversionKind → Type 0
  ConvertsFrom a b interface interface how = how ≡ kind.Same
  ConvertsFrom a b x interface how = how ≡ kind.Interface
  ConvertsFrom a b integer integer how = ((how ≡ kind.Same) × Identical a b) ⊎ ((how ≡ kind.Integer) × (Identical a b → ⊥))
  ConvertsFrom a b integer text how = how ≡ kind.Character
  ConvertsFrom a b list text how = ((how ≡ kind.FromBytes) × ElementsAre k.Uint8 table a) ⊎ ((how ≡ kind.FromCharacters) × ElementsAre k.Int32 table a)
  ConvertsFrom a b text list how = ((how ≡ kind.Bytes) × ElementsAre k.Uint8 table b) ⊎ ((how ≡ kind.Characters) × ElementsAre k.Int32 table b)
  ConvertsFrom a b x y how = how ≡ kind.Same

  -- of two ways that exclude one another
  either_once : {P Q : Type 0} (j k : ConversionKind) → (P → Q → ⊥) → Once (λ how. ((how ≡ j) × P) ⊎ ((how ≡ k) × Q))
  either_once j k never x y (inl it) (inl also) = it.0 ∙ sym also.0
  either_once j k never x y (inl it) (inr also) = absurd (never it.1 also.1)
  either_once j k never x y (inr it) (inl also) = absurd (never also.1 it.1)
  either_once j k never x y (inr it) (inr also) = it.0 ∙ sym also.0

  from_once : (a b : GoType) (x y : Side) → Once (ConvertsFrom a b x y)
  from_once a b interface interface i j it also = it ∙ sym also
  from_once a b other interface i j it also = it ∙ sym also
  from_once a b integer integer i j it also = either_once kind.Same kind.Integer (λ same other. other same) i j it also
  from_once a b list text i j it also = either_once kind.FromBytes kind.FromCharacters (elements_differ a) i j it also
  from_once a b text list i j it also = either_once kind.Bytes kind.Characters (elements_differ b) i j it also
  from_once a b _ _ i j it also = it ∙ sym also

  identical_from : (a b : GoType) (x : Side) → (x ≡ interface → ⊥) → Identical a b → ConvertsFrom a b x x kind.Same
  identical_from a b interface never same = absurd (never refl)
  identical_from a b integer never same = inl (refl, same)
  identical_from a b text never same = refl
  identical_from a b list never same = refl
  identical_from a b other never same = refl

  into_interface : (a b : GoType) (x : Side) → (x ≡ interface → ⊥) → ConvertsFrom a b x interface kind.Interface
  into_interface a b interface never = absurd (never refl)
  into_interface a b integer never = refl
  into_interface a b text never = refl
  into_interface a b list never = refl
  into_interface a b other never = refl

  -- of given sides
  at_sides : (a b : GoType) (how : ConversionKind) {x y v w : Side} → v ≡ x → w ≡ y → ConvertsFrom a b x y how → ConvertsFrom a b v w how
  at_sides a b how {x} {y} {v} {w} from to it = subst (λ p. ConvertsFrom a b p w how) (sym from) (subst (λ q. ConvertsFrom a b x q how) (sym to) it)

  pointer_under : (s a to : GoType) → term_of s ≡ t.Pointer to → Underlying table s a → side (term_of a) ≡ other
  pointer_under s a to is by = let same : a ≡ s = subst (UnderlyingBy table s a) is by in pointer_side (term_of a) to (ap term_of same ∙ is)

  converts_from : {s u a b : GoType} {how : ConversionKind} → Underlying table s a → Underlying table u b → Converts table s u a b how → ConvertsFrom a b (side (term_of a)) (side (term_of b)) how
  converts_from {s} {u} {a} {b} from to (c.between_interfaces b_is a_is has) = at_sides a b _ (interface_side (term_of a) a_is) (interface_side (term_of b) b_is) refl
  converts_from {s} {u} {a} {b} from to (c.to_interface b_is a_is has) = at_sides a b _ refl (interface_side (term_of b) b_is) (into_interface a b (side (term_of a)) (no_interface_side (term_of a) a_is))
  converts_from {s} {u} {a} {b} from to (c.same b_is same) = at_sides a b _ (identical_side a b same) refl (identical_from a b (side (term_of b)) (no_interface_side (term_of b) b_is) same)
  converts_from {s} {u} {a} {b} from to (c.pointers are never) = at_sides a b _ (pointer_under s a are.from are.is_from from) (pointer_under u b are.to are.is_to to) refl
  converts_from {s} {u} {a} {b} from to (c.integers a_is b_is never) = at_sides a b _ (integer_side (term_of a) a_is) (integer_side (term_of b) b_is) (inr (refl, never))
  converts_from {s} {u} {a} {b} from to (c.character a_is b_is) = at_sides a b _ (integer_side (term_of a) a_is) (text_side (term_of b) b_is) refl
  converts_from {s} {u} {a} {b} from to (c.from_bytes are b_is) = at_sides a b _ (list_side (term_of a) are.element are.is_slice) (text_side (term_of b) b_is) (inl (refl, are))
  converts_from {s} {u} {a} {b} from to (c.from_characters are b_is) = at_sides a b _ (list_side (term_of a) are.element are.is_slice) (text_side (term_of b) b_is) (inr (refl, are))
  converts_from {s} {u} {a} {b} from to (c.bytes a_is are) = at_sides a b _ (text_side (term_of a) a_is) (list_side (term_of b) are.element are.is_slice) (inl (refl, are))
  converts_from {s} {u} {a} {b} from to (c.characters a_is are) = at_sides a b _ (text_side (term_of a) a_is) (list_side (term_of b) are.element are.is_slice) (inr (refl, are))

  pub converts_once : (s u : GoType) → Once (ConvertsBy table s u)
  converts_once s u i j it also =
      let from = underlying_once s it.from also.from it.from_by also.from_by in
      let to = underlying_once u it.to also.to it.to_by also.to_by in
      let first = converts_from also.from_by also.to_by (subst (λ x. Converts table s u x also.to i) from (subst (λ y. Converts table s u it.from y i) to it.converts)) in
      from_once also.from also.to (side (term_of also.from)) (side (term_of also.to)) i j first (converts_from also.from_by also.to_by also.converts)
