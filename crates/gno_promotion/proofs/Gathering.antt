-- What is pushed are the members of a type.
use Rattle.std.proofs.Common.{◌≡◌, refl, sym, ap, ap₂, ◌∙◌, subst, ℕ, suc, ◌+◌, ◌<◌, List, [], ◌∷◌, ◌++◌, append_assoc, drop, drop-cons, get_or, length, map, true, true≢false, arith}
use Rattle.std.proofs.lemmas.List.{append-nil, map-append}
use Rattle.std.proofs.lemmas.Option.{slice_get_within}
use Rattle.std.proofs.lemmas.Simd.{map-map}
use Rattle.gno_promotion.specs.Candidates.{AreOfReached, ArePushed, AreReachedPushed, AreReachedSo, IsBelow, candidate_of, candidate_with, candidates_of, of_field, of_method, way_of}
use Rattle.gno_embedding.specs.declared.ways.Reached.{Reached}
use Rattle.gno_promotion.specs.declared.candidate.CandidateOf.{CandidateOf}
use Rattle.gno_promotion.specs.declared.candidate.Way.{Way}
use Rattle.gno_promotion.specs.MethodSets.{DeclaresBy, field, members, method}
use Rattle.gno_terms.specs.declared.term.DefinitionOf.{DefinitionOf}
use Rattle.gno_terms.specs.declared.term.FieldOf.{FieldOf}
use Rattle.gno_terms.specs.declared.term.GoType.{GoType}
use Rattle.gno_terms.specs.declared.term.MethodOf.{MethodOf}
use Rattle.gno_terms.specs.declared.term.TermOf.{TermOf}
use Rattle.gno_terms.specs.declared.term.TermOf.TheVariants as t
use Rattle.gno_terms.specs.declared.term.TypeRef.{TypeRef}
use Rattle.gno_terms.specs.Lawful.{Each}
use Rattle.gno_terms.specs.Tables.{Table, Below, Defines, Is, PartsBelow, Underlying, UnderlyingBy, deep, error_interface, type_at, type_or}
use Rattle.gno_terms.specs.Terms.{field_of, field_with, method_of, method_with, term_of, term_with}
use Rattle.gno_terms.proofs.Layers.{term_of-type_of}
use Rattle.gno_terms.proofs.Parts.{Each-append, Each-map, Each_before_map}
use Rattle.gno_type_rows.specs.RowTypes.{definition_with, is_defined}
use Rattle.gno_type_rows.proofs.Defining.{defined_with}

-- ---- candidates through a function of their types, and as members

module _ {A B : Type 0} (f : A → B) (way : Way) where
  methods_with : (ms : List (MethodOf A)) → map (candidate_with f) (map (of_method way) ms) ≡ map (of_method way) (map (method_with f) ms)
  methods_with ms = map-map (candidate_with f) (of_method way) ms ∙ sym (map-map (of_method way) (method_with f) ms)

  fields_with : (fs : List (FieldOf A)) → map (candidate_with f) (map (of_field way) fs) ≡ map (of_field way) (map (field_with f) fs)
  fields_with fs = map-map (candidate_with f) (of_field way) fs ∙ sym (map-map (of_field way) (field_with f) fs)

  pub candidates_with : (ds : List (MethodOf A)) (x : TermOf A) → map (candidate_with f) (candidates_of way ds x) ≡ candidates_of way (map (method_with f) ds) (term_with f x)
  candidates_with ds (t.Struct fs) = map-append (candidate_with f) (map (of_method way) ds) (map (of_field way) fs) ∙ ap₂ (λ us vs. us ++ vs) (methods_with ds) (fields_with fs)
  candidates_with ds (t.Interface ms) = map-append (candidate_with f) (map (of_method way) ds) (map (of_method way) ms) ∙ ap₂ (λ us vs. us ++ vs) (methods_with ds) (methods_with ms)
  candidates_with ds (t.Pointer a) = refl
  candidates_with ds (t.Basic kind) = methods_with ds
  candidates_with ds t.UntypedBool = methods_with ds
  candidates_with ds t.UntypedWhole = methods_with ds
  candidates_with ds t.UntypedRune = methods_with ds
  candidates_with ds t.UntypedText = methods_with ds
  candidates_with ds t.UntypedNil = methods_with ds
  candidates_with ds t.Error = methods_with ds
  candidates_with ds t.Realm = methods_with ds
  candidates_with ds (t.Defined path name local) = methods_with ds
  candidates_with ds (t.Slice a) = methods_with ds
  candidates_with ds (t.Array n a) = methods_with ds
  candidates_with ds (t.Map a b) = methods_with ds
  candidates_with ds (t.Function ps variadic rs) = methods_with ds

module _ (way : Way) where
  as_methods : (ms : List (MethodOf GoType)) → map (of_method way) ms ≡ map (candidate_of way) (map method ms)
  as_methods ms = sym (map-map (candidate_of way) method ms)

  as_fields : (fs : List (FieldOf GoType)) → map (of_field way) fs ≡ map (candidate_of way) (map field fs)
  as_fields fs = sym (map-map (candidate_of way) field fs)

  candidates_are : (ds : List (MethodOf GoType)) (x : TermOf GoType) → candidates_of way ds x ≡ map (candidate_of way) (members ds x)
  candidates_are ds (t.Struct fs) = ap₂ (λ us vs. us ++ vs) (as_methods ds) (as_fields fs) ∙ sym (map-append (candidate_of way) (map method ds) (map field fs))
  candidates_are ds (t.Interface ms) = ap₂ (λ us vs. us ++ vs) (as_methods ds) (as_methods ms) ∙ sym (map-append (candidate_of way) (map method ds) (map method ms))
  candidates_are ds (t.Pointer a) = refl
  candidates_are ds (t.Basic kind) = as_methods ds
  candidates_are ds t.UntypedBool = as_methods ds
  candidates_are ds t.UntypedWhole = as_methods ds
  candidates_are ds t.UntypedRune = as_methods ds
  candidates_are ds t.UntypedText = as_methods ds
  candidates_are ds t.UntypedNil = as_methods ds
  candidates_are ds t.Error = as_methods ds
  candidates_are ds t.Realm = as_methods ds
  candidates_are ds (t.Defined path name local) = as_methods ds
  candidates_are ds (t.Slice a) = as_methods ds
  candidates_are ds (t.Array n a) = as_methods ds
  candidates_are ds (t.Map a b) = as_methods ds
  candidates_are ds (t.Function ps variadic rs) = as_methods ds

-- ---- by the table

module _ (table : Table) where
  abbrev at : TypeRef → GoType
  at = type_at table.types

  abbrev AreIn : List (MethodOf TypeRef) → Type 0
  AreIn ms = Each (Below (length table.types)) (map method_of ms)

  methods_below : (way : Way) (ms : List (MethodOf TypeRef)) → AreIn ms → Each (IsBelow table) (map (of_method way) ms)
  methods_below way ms h = Each-map (IsBelow table) (of_method way) ms (Each_before_map (Below (length table.types)) method_of ms h)

  fields_below : (way : Way) (fs : List (FieldOf TypeRef)) → Each (Below (length table.types)) (map field_of fs) → Each (IsBelow table) (map (of_field way) fs)
  fields_below way fs h = Each-map (IsBelow table) (of_field way) fs (Each_before_map (Below (length table.types)) field_of fs h)

  candidates_below : (way : Way) (ds : List (MethodOf TypeRef)) (x : TermOf TypeRef) → AreIn ds → PartsBelow (length table.types) x → Each (IsBelow table) (candidates_of way ds x)
  candidates_below way ds (t.Struct fs) h k = Each-append (IsBelow table) (map (of_method way) ds) (map (of_field way) fs) (methods_below way ds h) (fields_below way fs k)
  candidates_below way ds (t.Interface ms) h k = Each-append (IsBelow table) (map (of_method way) ds) (map (of_method way) ms) (methods_below way ds h) (methods_below way ms k)
  candidates_below way ds (t.Pointer a) h k = tt
  candidates_below way ds (t.Basic kind) h k = methods_below way ds h
  candidates_below way ds t.UntypedBool h k = methods_below way ds h
  candidates_below way ds t.UntypedWhole h k = methods_below way ds h
  candidates_below way ds t.UntypedRune h k = methods_below way ds h
  candidates_below way ds t.UntypedText h k = methods_below way ds h
  candidates_below way ds t.UntypedNil h k = methods_below way ds h
  candidates_below way ds t.Error h k = methods_below way ds h
  candidates_below way ds t.Realm h k = methods_below way ds h
  candidates_below way ds (t.Defined path name local) h k = methods_below way ds h
  candidates_below way ds (t.Slice a) h k = methods_below way ds h
  candidates_below way ds (t.Array n a) h k = methods_below way ds h
  candidates_below way ds (t.Map a b) h k = methods_below way ds h
  candidates_below way ds (t.Function ps variadic rs) h k = methods_below way ds h

  module _ (s : GoType) (way : Way) (old new : List (CandidateOf TypeRef)) (ds : List (MethodOf TypeRef)) (x : TermOf TypeRef) where
    -- what is pushed for a type of these methods and of this underlying type
    pub pushed : DeclaresBy table s (map (method_with at) ds) (term_of s) → Underlying table s (deep table.types x) → AreIn ds → PartsBelow (length table.types) x → new ≡ old ++ candidates_of way ds x → ArePushed table s way old new
    pushed declares by in_table below is = record {
      own = candidates_of way ds x;
      members = record {
        members = members (map (method_with at) ds) (term_of (deep table.types x));
        has = record { declared = map (method_with at) ds; declares = declares; underlying = deep table.types x; by = by; are = refl };
        are = candidates_with at way ds x ∙ candidates_are way (map (method_with at) ds) (term_with at x) ∙ ap (λ y. map (candidate_of way) (members (map (method_with at) ds) y)) (sym (term_of-type_of (term_with at x)));
        below = candidates_below way ds x in_table below;
      };
      all = is;
    }

  -- ---- a defined type

  defined_underlying : (s u : GoType) (y : TermOf GoType) (d : DefinitionOf GoType) → is_defined y ≡ true → Defines table d → d.of ≡ s → d.underlying ≡ u → UnderlyingBy table s u y
  defined_underlying s u (t.Defined path name local) d h defines of under = (d, defines, of, under)
  defined_underlying s u _ d h defines of under = absurd (true≢false (sym h))

  defined_declares : (s : GoType) (y : TermOf GoType) (d : DefinitionOf GoType) → is_defined y ≡ true → Defines table d → d.of ≡ s → DeclaresBy table s d.methods y
  defined_declares s (t.Defined path name local) d h defines of = (d, defines, of, refl)
  defined_declares s _ d h defines of = absurd (true≢false (sym h))

  pub at_is : (r : TypeRef) (s : GoType) → Is table r s → at r ≡ s
  at_is r s is = ap type_or is

  pub one_type : (r : TypeRef) (s u : GoType) → Is table r s → Is table r u → s ≡ u
  one_type r s u a b = sym (at_is r s a) ∙ at_is r u b

  pub pushed_defined : (r : TypeRef) (s : GoType) → Is table r s → is_defined (term_of s) ≡ true → (d : DefinitionOf TypeRef) → Defines table (definition_with at d) → d.of ≡ r → AreIn d.methods
      → (x : TermOf TypeRef) → Is table d.underlying (deep table.types x) → PartsBelow (length table.types) x → (ds : List (MethodOf TypeRef)) → ds ≡ d.methods → (way : Way) (old new : List (CandidateOf TypeRef)) → new ≡ old ++ candidates_of way ds x → ArePushed table s way old new
  pushed_defined r s is defined d defines own in_table x under below ds same way old new e =
      let of : at d.of ≡ s = ap at own ∙ at_is r s is in
      pushed s way old new ds x
      (subst (λ (l : List (MethodOf TypeRef)). DeclaresBy table s (map (method_with at) l) (term_of s)) (sym same) (defined_declares s (term_of s) (definition_with at d) defined defines of))
      (defined_underlying s (deep table.types x) (term_of s) (definition_with at d) defined defines of (at_is d.underlying (deep table.types x) under))
      (subst AreIn (sym same) in_table) below e

  pub is_a_defined : (x : TermOf TypeRef) → is_defined x ≡ true → is_defined (term_of (deep table.types x)) ≡ true
  is_a_defined x h = ap is_defined (term_of-type_of (term_with at x)) ∙ defined_with at x ∙ h

  pub row_below : (r : TypeRef) (s : GoType) → Is table r s → Below (length table.types) r
  row_below r s is = slice_get_within table.types r.0 s is

  -- ---- another type

  by_term : (s : GoType) (x : TermOf TypeRef) → s ≡ deep table.types x → (P : TermOf GoType → Type 0) → P (term_with at x) → P (term_of s)
  by_term s x e P p = subst P (sym (ap term_of e ∙ term_of-type_of (term_with at x))) p

  pub pushed_error : (y : TermOf TypeRef) → y ≡ t.Error → (error : TypeRef) → Is table error error_interface → (x : TermOf TypeRef) → Is table error (deep table.types x) → PartsBelow (length table.types) x
      → (way : Way) (old new : List (CandidateOf TypeRef)) → new ≡ old ++ candidates_of way [] x → ArePushed table (deep table.types y) way old new
  pushed_error y is error at_error x at_x below way old new e =
      pushed (deep table.types y) way old new [] x
      (by_term (deep table.types y) y refl (DeclaresBy table (deep table.types y) []) (subst (λ (z : TermOf TypeRef). DeclaresBy table (deep table.types y) [] (term_with at z)) (sym is) refl))
      (by_term (deep table.types y) y refl (UnderlyingBy table (deep table.types y) (deep table.types x)) (subst (λ (z : TermOf TypeRef). UnderlyingBy table (deep table.types y) (deep table.types x) (term_with at z)) (sym is) (one_type error (deep table.types x) error_interface at_x at_error)))
      tt below e

  own_declares : (s : GoType) (x : TermOf TypeRef) → ((path name : List ℕ) (local : ℕ) → x ≡ t.Defined path name local → ⊥) → DeclaresBy table s [] (term_with at x)
  own_declares s (t.Defined path name local) f = absurd (f path name local refl)
  own_declares s (t.Basic kind) f = refl
  own_declares s t.UntypedBool f = refl
  own_declares s t.UntypedWhole f = refl
  own_declares s t.UntypedRune f = refl
  own_declares s t.UntypedText f = refl
  own_declares s t.UntypedNil f = refl
  own_declares s t.Error f = refl
  own_declares s t.Realm f = refl
  own_declares s (t.Pointer a) f = refl
  own_declares s (t.Slice a) f = refl
  own_declares s (t.Array n a) f = refl
  own_declares s (t.Map a b) f = refl
  own_declares s (t.Function ps variadic rs) f = refl
  own_declares s (t.Struct fs) f = refl
  own_declares s (t.Interface ms) f = refl

  own_underlying : (s : GoType) (x : TermOf TypeRef) → (x ≡ t.Error → ⊥) → ((path name : List ℕ) (local : ℕ) → x ≡ t.Defined path name local → ⊥) → UnderlyingBy table s s (term_with at x)
  own_underlying s (t.Defined path name local) g f = absurd (f path name local refl)
  own_underlying s t.Error g f = absurd (g refl)
  own_underlying s (t.Basic kind) g f = refl
  own_underlying s t.UntypedBool g f = refl
  own_underlying s t.UntypedWhole g f = refl
  own_underlying s t.UntypedRune g f = refl
  own_underlying s t.UntypedText g f = refl
  own_underlying s t.UntypedNil g f = refl
  own_underlying s t.Realm g f = refl
  own_underlying s (t.Pointer a) g f = refl
  own_underlying s (t.Slice a) g f = refl
  own_underlying s (t.Array n a) g f = refl
  own_underlying s (t.Map a b) g f = refl
  own_underlying s (t.Function ps variadic rs) g f = refl
  own_underlying s (t.Struct fs) g f = refl
  own_underlying s (t.Interface ms) g f = refl

  pub pushed_own : (x : TermOf TypeRef) → (x ≡ t.Error → ⊥) → ((path name : List ℕ) (local : ℕ) → x ≡ t.Defined path name local → ⊥) → PartsBelow (length table.types) x
      → (way : Way) (old new : List (CandidateOf TypeRef)) → new ≡ old ++ candidates_of way [] x → ArePushed table (deep table.types x) way old new
  pushed_own x g f below way old new e =
      pushed (deep table.types x) way old new [] x
      (by_term (deep table.types x) x refl (DeclaresBy table (deep table.types x) []) (own_declares (deep table.types x) x f))
      (by_term (deep table.types x) x refl (UnderlyingBy table (deep table.types x) (deep table.types x)) (own_underlying (deep table.types x) x g f))
      tt below e

-- ---- the loop over the types

pub split : (its : List Reached) (i : ℕ) (d : Reached) → i < length its → drop i its ≡ get_or its i d ∷ drop (i + 1) its
split its i d h = let e : suc i ≡ i + 1 = omega arith in drop-cons its i d h ∙ ap (λ n. get_or its i d ∷ drop n its) e

module _ (table : Table) (its left : List Reached) (old : List (CandidateOf TypeRef)) where
  pub so_none : AreReachedSo table its its old old
  so_none = record { own = []; members = λ more h. h; all = sym (append-nil old) }

  pub so_more : (it : Reached) (rest : List Reached) (mid new : List (CandidateOf TypeRef)) (s : GoType) → left ≡ it ∷ rest → AreReachedSo table its left old mid → Is table it.of s → ArePushed table s (way_of it) mid new → AreReachedSo table its rest old new
  so_more it rest mid new s e so is p = record {
    own = so.own ++ p.own;
    members = λ more h. subst (AreOfReached table its) (sym (append_assoc so.own p.own more)) (so.members (p.own ++ more)
        (subst (λ l. AreOfReached table l (p.own ++ more)) (sym e) (record { of = s; is = is; own = p.own; members = p.members; rest = more; more = h; all = refl })));
    all = p.all ∙ ap (λ us. us ++ p.own) so.all ∙ append_assoc old so.own p.own;
  }

  pub so_all : (new : List (CandidateOf TypeRef)) → left ≡ [] → AreReachedSo table its left old new → AreReachedPushed table its old new
  so_all new e so = record {
    own = so.own;
    members = subst (AreOfReached table its) (append-nil so.own) (so.members [] (subst (λ l. AreOfReached table l []) (sym e) refl));
    all = so.all;
  }
