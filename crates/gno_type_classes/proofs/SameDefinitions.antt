-- What rules ask of types stands in each table with the same definitions.
use Rattle.std.proofs.Common.{ℕ, ◌≡◌, sym, subst, List, [], ◌∷◌, Bool, inl, inr, Option, Some, slice_get}
use Rattle.gno_assignability.specs.Assignability.{HaveOneUnderlying, IsAssignable, TakesUntyped}
use Rattle.gno_assignability.specs.Assignability.{IsAssignable as assign, TakesUntyped as untyped}
use Rattle.gno_constants.specs.declared.constant.Constant.{Constant}
use Rattle.gno_base.specs.declared.kind.Kind.{Kind}
use Rattle.gno_embedding.specs.Embedding.{Embeds, IsComplete, IsKnown, Leads, base}
use Rattle.gno_embedding.specs.Embedding.{Leads as leads}
use Rattle.gno_method_sets.specs.Implementing.{HasMethod, Implements}
use Rattle.gno_promotion.specs.MethodSets.{DeclaresBy, HasMembers, InMethodSet, IsEntry, IsPromoted, Member}
use Rattle.gno_selectors.specs.Selectors.{IsAmbiguous, IsNamed, Passes, Selects}
use Rattle.gno_selectors.specs.declared.selection.Passed.{Passed}
use Rattle.gno_terms.specs.declared.term.DefinitionOf.{DefinitionOf}
use Rattle.gno_terms.specs.declared.term.GoType.{GoType}
use Rattle.gno_terms.specs.declared.term.MethodOf.{MethodOf}
use Rattle.gno_terms.specs.declared.term.TermOf.{TermOf}
use Rattle.gno_terms.specs.declared.term.TermOf.TheVariants as t
use Rattle.gno_terms.specs.Lawful.{Each}
use Rattle.gno_terms.specs.Tables.{Defines, Table, Underlying, UnderlyingBy}
use Rattle.gno_terms.specs.Terms.{term_of}
use Rattle.gno_type_rows.specs.Holding.{AreComparable, IsComparable, Slots, SlotsOfAll}
use Rattle.gno_type_rows.specs.Holding.{AreComparable as comparables, IsComparable as comparable, Slots as slots, SlotsOfAll as all_slots}
use Rattle.gno_typing.specs.Calls.{Function, IsFunction}
use Rattle.gno_typing.specs.Classes.{Compares, Has, IsBoxed, IsOf, IsRepresentable, MayBe, Takes}
use Rattle.gno_typing.specs.Conversions.{ArePointers, Converts, ConvertsBy, ElementsAre}
use Rattle.gno_typing.specs.Conversions.{Converts as converts}
use Rattle.gno_typing.specs.Indexes.{Elements, HasElements, HasKeys}
use Rattle.gno_typing.specs.Indexes.{HasElements as elements}
use Rattle.gno_typing.specs.Selectors.{Follows, HasHolder, Holder}
use Rattle.gno_typing.specs.Selectors.{HasHolder as holder}
use Rattle.gno_typed.specs.declared.expr.ConversionKind.{ConversionKind}

each_of : {A : Type 0} (P Q : A → Type 0) → ((x : A) → P x → Q x) → (xs : List A) → Each P xs → Each Q xs
each_of P Q go [] h = h
each_of P Q go (x ∷ xs) h = (go x h.0, each_of P Q go xs h.1)

-- ---- definitions, and what is under a type

module _ (a b : Table) (same : a.definitions ≡ b.definitions) where
  defines : (d : DefinitionOf GoType) → Defines a d → Defines b d
  defines d h = (h.0, subst (λ (ds : List (DefinitionOf GoType)). slice_get ds h.0 ≡ Some d) same h.1)

  under_by : (s u : GoType) (x : TermOf GoType) → UnderlyingBy a s u x → UnderlyingBy b s u x
  under_by s u (t.Defined path name local) h = (h.0, defines h.0 h.1, h.2, h.3)
  under_by s u t.Error h = h
  under_by s u (t.Basic kind) h = h
  under_by s u (t.Pointer x) h = h
  under_by s u (t.Slice x) h = h
  under_by s u (t.Array n x) h = h
  under_by s u (t.Map x y) h = h
  under_by s u (t.Function ps variadic rs) h = h
  under_by s u (t.Struct fs) h = h
  under_by s u (t.Interface ms) h = h
  under_by s u t.Realm h = h
  under_by s u t.UntypedBool h = h
  under_by s u t.UntypedWhole h = h
  under_by s u t.UntypedRune h = h
  under_by s u t.UntypedText h = h
  under_by s u t.UntypedNil h = h

  pub underlying_same : (s u : GoType) → Underlying a s u → Underlying b s u
  underlying_same s u = under_by s u (term_of s)

  pub known_same : (s : GoType) → IsKnown a s → IsKnown b s
  known_same s h = (h.0, underlying_same s h.0 h.1)

  declares_by : (s : GoType) (ms : List (MethodOf GoType)) (x : TermOf GoType) → DeclaresBy a s ms x → DeclaresBy b s ms x
  declares_by s ms (t.Defined path name local) h = (h.0, defines h.0 h.1, h.2, h.3)
  declares_by s ms t.Error h = h
  declares_by s ms (t.Basic kind) h = h
  declares_by s ms (t.Pointer x) h = h
  declares_by s ms (t.Slice x) h = h
  declares_by s ms (t.Array n x) h = h
  declares_by s ms (t.Map x y) h = h
  declares_by s ms (t.Function ps variadic rs) h = h
  declares_by s ms (t.Struct fs) h = h
  declares_by s ms (t.Interface ns) h = h
  declares_by s ms t.Realm h = h
  declares_by s ms t.UntypedBool h = h
  declares_by s ms t.UntypedWhole h = h
  declares_by s ms t.UntypedRune h = h
  declares_by s ms t.UntypedText h = h
  declares_by s ms t.UntypedNil h = h

  -- ---- embedded fields, members

  embeds_same : (s : GoType) (place : ℕ) (pointer : Bool) (u : GoType) → Embeds a s place pointer u → Embeds b s place pointer u
  embeds_same s place pointer u h = record { underlying = h.underlying; by = underlying_same s h.underlying h.by; field = h.field; at = h.at; embedded = h.embedded; is_pointer = h.is_pointer; to = h.to }

  leads_same : (s : GoType) (path : List ℕ) (followed : Bool) (u : GoType) → Leads a s path followed u → Leads b s path followed u
  leads_same s _ _ _ leads.here = leads.here
  leads_same s _ _ _ (leads.along place pointer v h e) = leads.along place pointer v (leads_same s _ _ _ h) (embeds_same _ place pointer v e)

  pub passes_same : (s : GoType) (way : List Passed) (u : GoType) → Passes a s way u → Passes b s way u
  passes_same s [] u h = h
  passes_same s (p ∷ way) u h = (h.0, embeds_same s p.place p.pointer h.0 h.1, passes_same h.0 way u h.2)

  members_same : (s : GoType) (ms : List Member) → HasMembers a s ms → HasMembers b s ms
  members_same s ms h = record { declared = h.declared; declares = declares_by s h.declared (term_of s) h.declares; underlying = h.underlying; by = underlying_same s h.underlying h.by; are = h.are }

  entry_same : (s : GoType) (path : List ℕ) (followed : Bool) (place : ℕ) (member : Member) → IsEntry a s path followed place member → IsEntry b s path followed place member
  entry_same s path followed place member h = record { of = h.of; leads = leads_same s path followed h.of h.leads; members = h.members; has = members_same h.of h.members h.has; at = h.at }

  pub named_same : (s : GoType) (name «package» path : List ℕ) (place : ℕ) (member : Member) → IsNamed a s name «package» path place member → IsNamed b s name «package» path place member
  named_same s name «package» path place member h = record { followed = h.followed; entry = entry_same s path h.followed place member h.entry; name_is = h.name_is; package_is = h.package_is }

  -- ---- values

  mutual
    pub slots_same : (s : GoType) (n : ℕ) → Slots a s n → Slots b s n
    slots_same _ _ (slots.one single e) = slots.one single e
    slots_same _ _ (slots.of_array length m of is h e) = slots.of_array length m of is (slots_same of m h) e
    slots_same _ _ (slots.of_struct fs m is h e) = slots.of_struct fs m is (all_slots_same _ m h) e
    slots_same _ _ (slots.of_defined d is by of h) = slots.of_defined d is (defines d by) of (slots_same d.underlying _ h)

    all_slots_same : (ss : List GoType) (n : ℕ) → SlotsOfAll a ss n → SlotsOfAll b ss n
    all_slots_same _ _ (all_slots.none e) = all_slots.none e
    all_slots_same _ _ (all_slots.more m n h hs e) = all_slots.more m n (slots_same _ m h) (all_slots_same _ n hs) e

  mutual
    pub comparable_same : (s : GoType) → IsComparable a s → IsComparable b s
    comparable_same _ (comparable.by_kind single e) = comparable.by_kind single e
    comparable_same _ (comparable.by_element length of is h) = comparable.by_element length of is (comparable_same of h)
    comparable_same _ (comparable.by_fields fs is h) = comparable.by_fields fs is (all_comparable_same _ h)
    comparable_same _ (comparable.by_underlying d is by of h) = comparable.by_underlying d is (defines d by) of (comparable_same d.underlying h)

    all_comparable_same : (ss : List GoType) → AreComparable a ss → AreComparable b ss
    all_comparable_same _ comparables.no_more = comparables.no_more
    all_comparable_same _ (comparables.one_more h hs) = comparables.one_more (comparable_same _ h) (all_comparable_same _ hs)

  pub compares_same : (s : GoType) → Compares a s → Compares b s
  compares_same s h = record { slots = h.slots; sized = slots_same s h.slots h.sized; comparable = comparable_same s h.comparable }

  -- ---- what types are

  pub of_same : (class : TermOf GoType → Bool) (s : GoType) → IsOf class a s → IsOf class b s
  of_same class s h = record { underlying = h.underlying; by = underlying_same s h.underlying h.by; holds = h.holds }

  pub representable_same : (x : Constant) (s : GoType) → IsRepresentable a x s → IsRepresentable b x s
  representable_same x s h = record { underlying = h.underlying; by = underlying_same s h.underlying h.by; value = h.value }

  pub may_be_same : (x : Constant) (s : GoType) → MayBe a x s → MayBe b x s
  may_be_same x s (inl h) = inl h
  may_be_same x s (inr h) = inr (representable_same x s h)

  pub function_same : (s : GoType) (g : Function) → IsFunction a s g → IsFunction b s g
  function_same s g h = record { underlying = h.underlying; by = underlying_same s h.underlying h.by; is = h.is }

  pub keys_same : (s key value : GoType) → HasKeys a s key value → HasKeys b s key value
  keys_same s key value h = record { underlying = h.underlying; by = underlying_same s h.underlying h.by; is = h.is }

  pub follows_same : (s u : GoType) → Follows a s u → Follows b s u
  follows_same s u h = record { underlying = h.underlying; by = underlying_same s h.underlying h.by; is = h.is }

  pub elements_same : (s : GoType) (e : Elements) → HasElements a s e → HasElements b s e
  elements_same s _ (elements.of_text u by is e) = elements.of_text u (underlying_same s u by) is e
  elements_same s _ (elements.of_slice u of by is e) = elements.of_slice u of (underlying_same s u by) is e
  elements_same s _ (elements.of_array u of n by is e) = elements.of_array u of n (underlying_same s u by) is e
  elements_same s _ (elements.of_pointer u p q of n by is under array e) = elements.of_pointer u p q of n (underlying_same s u by) is (underlying_same p q under) array e

  elements_are_same : (kind : Kind) (u : GoType) → ElementsAre kind a u → ElementsAre kind b u
  elements_are_same kind u h = record { element = h.element; is_slice = h.is_slice; underlying = h.underlying; by = underlying_same h.element h.underlying h.by; is = h.is }

-- ---- where the other direction is wanted as well

module _ (a b : Table) (same : a.definitions ≡ b.definitions) where
  pub complete_same : (s : GoType) → IsComplete a s → IsComplete b s
  complete_same s h path followed u l = known_same a b same u (h path followed u (leads_same b a (sym same) s path followed u l))

  pub selects_same : (s : GoType) (name «package» path : List ℕ) (place : ℕ) (member : Member) → Selects a s name «package» path place member → Selects b s name «package» path place member
  selects_same s name «package» path place member h = record {
    named = named_same a b same s name «package» path place member h.named;
    least = λ p k other n. h.least p k other (named_same b a (sym same) s name «package» p k other n);
    no_blank = h.no_blank;
  }

  pub ambiguous_same : (s : GoType) (name «package» : List ℕ) → IsAmbiguous a s name «package» → IsAmbiguous b s name «package»
  ambiguous_same s name «package» h = record {
    path = h.path;
    place = h.place;
    member = h.member;
    named = named_same a b same s name «package» h.path h.place h.member h.named;
    rival_path = h.rival_path;
    rival_place = h.rival_place;
    rival = h.rival;
    rival_named = named_same a b same s name «package» h.rival_path h.rival_place h.rival h.rival_named;
    as_deep = h.as_deep;
    apart = h.apart;
    least = λ p k other n. h.least p k other (named_same b a (sym same) s name «package» p k other n);
    no_blank = h.no_blank;
  }

  promoted_same : (s : GoType) (m : MethodOf GoType) (followed : Bool) → IsPromoted a s m followed → IsPromoted b s m followed
  promoted_same s m followed h = record {
    path = h.path;
    place = h.place;
    entry = entry_same a b same s h.path followed h.place _ h.entry;
    least = λ p f k other n. h.least p f k other (entry_same b a (sym same) s p f k other n);
    named = h.named;
  }

  in_set_same : (s : GoType) (m : MethodOf GoType) → InMethodSet a s m → InMethodSet b s m
  in_set_same s m h = record {
    followed = h.followed;
    promoted = promoted_same (base s) m h.followed h.promoted;
    receives = h.receives;
    no_interface = λ e u by. h.no_interface e u (underlying_same b a (sym same) (base s) u by);
  }

  has_method_same : (s : GoType) (m : MethodOf GoType) → HasMethod a s m → HasMethod b s m
  has_method_same s m h = record { method = h.method; in_set = in_set_same s h.method h.in_set; name = h.name; package_is = h.package_is; type = h.type }

  pub implements_same : (s u : GoType) → Implements a s u → Implements b s u
  implements_same s u h = record { underlying = h.underlying; by = underlying_same a b same u h.underlying h.by; methods = h.methods; is_interface = h.is_interface; has = each_of (HasMethod a s) (HasMethod b s) (has_method_same s) h.methods h.has }

  pub has_same : (s u : GoType) → Has a s u → Has b s u
  has_same s u h = record { complete = complete_same (base s) h.complete; implements = implements_same s u h.implements }

  untyped_same : (default : Kind) (x : Option Constant) (to : GoType) → TakesUntyped a default x to → TakesUntyped b default x to
  untyped_same default x to (untyped.as_basic kind u by is becomes) = untyped.as_basic kind u (underlying_same a b same to u by) is becomes
  untyped_same default x to (untyped.in_interface h becomes) = untyped.in_interface (implements_same _ to h) becomes

  one_underlying_same : (from to : GoType) → HaveOneUnderlying a from to → HaveOneUnderlying b from to
  one_underlying_same from to h = record { not_both = h.not_both; underlying = h.underlying; by = underlying_same a b same from h.underlying h.by; other = h.other; other_by = underlying_same a b same to h.other h.other_by; identical = h.identical }

  pub assignable_same : (from : GoType) (x : Option Constant) (to : GoType) → IsAssignable a from x to → IsAssignable b from x to
  assignable_same from x to (assign.identical h) = assign.identical h
  assignable_same from x to (assign.nil u is by has) = assign.nil u is (underlying_same a b same to u by) has
  assignable_same from x to (assign.untyped default is h) = assign.untyped default is (untyped_same default x to h)
  assignable_same from x to (assign.interface is h) = assign.interface is (implements_same from to h)
  assignable_same from x to (assign.underlying is h) = assign.underlying is (one_underlying_same from to h)

  pub takes_same : (u s : GoType) → Takes a u s → Takes b u s
  takes_same u s h = record { complete = complete_same (base s) h.complete; known = known_same a b same u h.known; assignable = assignable_same s _ u h.assignable }

  pub boxed_same : (s u : GoType) → IsBoxed a s u → IsBoxed b s u
  boxed_same s u h = record { value = λ i. h.value (of_same b a (sym same) _ s i); interface = of_same a b same _ u h.interface }

  pub holder_same : (s : GoType) (h : Holder) → HasHolder a s h → HasHolder b s h
  holder_same s _ (holder.itself none e) = holder.itself (λ u f. none u (follows_same b a (sym same) s u f)) e
  holder_same s _ (holder.pointed u x f by free e) = holder.pointed u x (follows_same a b same s u f) (underlying_same a b same u x by) free e

  pointers_same : (s u : GoType) → ArePointers a s u → ArePointers b s u
  pointers_same s u h = record {
    from = h.from;
    is_from = h.is_from;
    to = h.to;
    is_to = h.is_to;
    from_underlying = h.from_underlying;
    from_by = underlying_same a b same h.from h.from_underlying h.from_by;
    to_underlying = h.to_underlying;
    to_by = underlying_same a b same h.to h.to_underlying h.to_by;
    identical = h.identical;
  }

  converts_same : (s u x y : GoType) (how : ConversionKind) → Converts a s u x y how → Converts b s u x y how
  converts_same s u x y _ (converts.between_interfaces p q h) = converts.between_interfaces p q (has_same s u h)
  converts_same s u x y _ (converts.to_interface p q h) = converts.to_interface p q (has_same s u h)
  converts_same s u x y _ (converts.same p h) = converts.same p h
  converts_same s u x y _ (converts.pointers h different) = converts.pointers (pointers_same s u h) different
  converts_same s u x y _ (converts.integers p q different) = converts.integers p q different
  converts_same s u x y _ (converts.character p q) = converts.character p q
  converts_same s u x y _ (converts.from_bytes h p) = converts.from_bytes (elements_are_same a b same _ x h) p
  converts_same s u x y _ (converts.from_characters h p) = converts.from_characters (elements_are_same a b same _ x h) p
  converts_same s u x y _ (converts.bytes p h) = converts.bytes p (elements_are_same a b same _ y h)
  converts_same s u x y _ (converts.characters p h) = converts.characters p (elements_are_same a b same _ y h)

  pub converts_by_same : (s u : GoType) (how : ConversionKind) → ConvertsBy a s u how → ConvertsBy b s u how
  converts_by_same s u how h = record { from = h.from; from_by = underlying_same a b same s h.from h.from_by; to = h.to; to_by = underlying_same a b same u h.to h.to_by; converts = converts_same s u h.from h.to how h.converts }
