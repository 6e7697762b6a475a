-- The members of a type, by its row.
use Rattle.std.proofs.Common.{◌≡◌, refl, sym, ap, ap₂, ◌∙◌, subst, ℕ, ◌+◌, ◌-◌, ◌<◌, ◌≤◌, List, [], ◌++◌, Some, length, map, arith, rules}
use Rattle.std.specs.Prelude.{slice_get}
use Rattle.std.proofs.lemmas.List.{append-nil, map-append}
use Rattle.std.proofs.lemmas.Option.{same_Some, slice_get_within}
use Rattle.std.proofs.lemmas.Simd.{map-map}
use Rattle.gno_embedding.proofs.Opened.{deep_term, mapped, same_size}
use Rattle.gno_embedding.specs.Embedding.{IsKnown, fields_in}
use Rattle.gno_promotion.proofs.Leading.{IsOneDefinition, one_members}
use Rattle.gno_promotion.specs.MethodSets.{DeclaresBy, HasMembers, Member, field, members, method}
use Rattle.gno_selectors.proofs.Lists.{at_left, at_right, each_at}
use Rattle.gno_selectors.specs.Selectors.{IsSelectionBelow, StandsAt}
use Rattle.gno_selectors.specs.declared.selection.Passed.{Passed}
use Rattle.gno_selectors.specs.declared.selection.Selection.{Selection}
use Rattle.gno_selectors.specs.declared.selection.Selection.TheVariants as r
use Rattle.gno_selectors.specs.Standings.{Holds, IsMember, IsStanding, Name, StandsIn, field_name, member_name, method_name, names, names_in, own}
use Rattle.gno_selectors.specs.declared.standing.Standing.{Standing}
use Rattle.gno_type_rows.proofs.Pushed.{at_it}
use Rattle.gno_terms.specs.declared.term.FieldOf.{FieldOf}
use Rattle.gno_terms.specs.declared.term.GoType.{GoType}
use Rattle.gno_terms.specs.declared.term.MethodOf.{MethodOf}
use Rattle.gno_terms.specs.declared.term.TermOf.{TermOf}
use Rattle.gno_terms.specs.declared.term.TermOf.TheVariants as t
use Rattle.gno_terms.specs.declared.term.TypeRef.{TypeRef}
use Rattle.gno_terms.specs.Lawful.{Each}
use Rattle.gno_terms.specs.Tables.{Table, Below, Is, PartsBelow, Underlying, deep, type_at}
use Rattle.gno_terms.specs.Terms.{field_of, field_with, method_of, method_with, term_of, term_with}

-- the fields of a struct, or the methods of an interface
abbrev pub rest : TermOf GoType → List Member
rest (t.Struct fs) = map field fs
rest (t.Interface ms) = map method ms
rest x = []

pub members_are : (ds : List (MethodOf GoType)) (x : TermOf GoType) → members ds x ≡ map method (own ds x) ++ rest x
members_are ds (t.Struct fs) = refl
members_are ds (t.Interface ms) = refl
members_are ds (t.Pointer a) = refl
members_are ds _ = sym (append-nil (map method ds))

module _ {A B : Type 0} (f : A → B) where
  own_with : (ds : List (MethodOf A)) (x : TermOf A) → own (map (method_with f) ds) (term_with f x) ≡ map (method_with f) (own ds x)
  own_with ds (t.Pointer a) = refl
  own_with ds _ = refl

  names_in_with : (x : TermOf A) → names_in (term_with f x) ≡ names_in x
  names_in_with (t.Struct fs) = map-map field_name (field_with f) fs
  names_in_with (t.Interface ms) = map-map method_name (method_with f) ms
  names_in_with _ = refl

rest_names : (x : TermOf GoType) → map member_name (rest x) ≡ names_in x
rest_names (t.Struct fs) = map-map member_name field fs
rest_names (t.Interface ms) = map-map member_name method ms
rest_names _ = refl

-- the members by a row: its own methods, and the term of its underlying type
abbrev pub members_at : (TypeRef → GoType) → List (MethodOf TypeRef) → TermOf TypeRef → List Member
members_at at methods x = map method (map (method_with at) methods) ++ rest (term_with at x)

pub names_at : (at : TypeRef → GoType) (methods : List (MethodOf TypeRef)) (x : TermOf TypeRef) → map member_name (members_at at methods x) ≡ names methods x
names_at at methods x =
    map-append member_name (map method (map (method_with at) methods)) (rest (term_with at x))
    ∙ ap₂ (λ us vs. us ++ vs) (map-map member_name method (map (method_with at) methods) ∙ map-map method_name (method_with at) methods) (rest_names (term_with at x) ∙ names_in_with at x)

module _ (table : Table) where
  abbrev at : TypeRef → GoType
  at = type_at table.types

  own_each : (n : ℕ) (ds : List (MethodOf TypeRef)) (x : TermOf TypeRef) → Each (Below n) (map method_of ds) → Each (Below n) (map method_of (own ds x))
  own_each n ds (t.Pointer a) h = tt
  own_each n ds _ h = h

  -- what a row says of its type
  pub record IsRow (of : TypeRef) (declared : List (MethodOf TypeRef)) (x : TermOf TypeRef) : Type 0 where
    pub type : GoType
    pub is : Is table of type
    pub declares : DeclaresBy table type (map (method_with at) declared) (term_of type)
    pub underlying : Underlying table type (deep table.types x)

  pub row_of : (of : TypeRef) (declared : List (MethodOf TypeRef)) (x : TermOf TypeRef) → Below (length table.types) of → ((s : GoType) → Is table of s → IsKnown table s)
      → ((s : GoType) → Is table of s → IsKnown table s → DeclaresBy table s (map (method_with at) declared) (term_of s)) → ((s : GoType) → Is table of s → Underlying table s (deep table.types x)) → IsRow of declared x
  row_of of declared x below known declares under =
      let is = at_it table.types of below in
      record { type = type_at table.types of; is = is; declares = declares (type_at table.types of) is (known (type_at table.types of) is); underlying = under (type_at table.types of) is }

  module _ (of : TypeRef) (declared : List (MethodOf TypeRef)) (x : TermOf TypeRef) (row : IsRow of declared x) where
    abbrev here : List Member
    here = members_at at (own declared x) x

    pub has_members : HasMembers table row.type here
    has_members = record {
      declared = map (method_with at) declared;
      declares = row.declares;
      underlying = deep table.types x;
      by = row.underlying;
      are = sym (ap (members (map (method_with at) declared)) (deep_term table.types x) ∙ members_are (map (method_with at) declared) (term_with at x) ∙ ap (λ ms. map method ms ++ rest (term_with at x)) (own_with at declared x));
    }

    pub stands : (name : Name) (standing : Standing) → IsStanding name (names (own declared x) x) standing → StandsIn table of name standing
    stands name standing h = record { type = row.type; is = row.is; members = here; has = has_members; standing_is = subst (λ ns. IsStanding name ns standing) (sym (names_at at (own declared x) x)) h }

    -- the member at a place
    module _ (one : IsOneDefinition table) (place : ℕ) (m : Member) (is : IsMember table of place m) where
      pub member_at : slice_get here place ≡ Some m
      member_at =
          let same : is.type ≡ row.type = same_Some is.type row.type (sym is.is ∙ row.is) in
          ap (λ ms. slice_get ms place) (sym (one_members table one is.type row.type is.members here same is.has has_members)) ∙ is.at

      size_of_own : length (map method (map (method_with at) (own declared x))) ≡ length (own declared x)
      size_of_own = same_size method (map (method_with at) (own declared x)) ∙ same_size (method_with at) (own declared x)

      pub own_at : (n : MethodOf TypeRef) → slice_get (own declared x) place ≡ Some n → m ≡ method (method_with at n)
      own_at n h =
          let ms = map method (map (method_with at) (own declared x)) in
          let w = slice_get_within (own declared x) place n h in
          let size = size_of_own in
          let left : slice_get here place ≡ slice_get ms place = at_left ms (rest (term_with at x)) place (omega (arith, w, size)) in
          same_Some m (method (method_with at n)) (sym member_at ∙ left ∙ mapped method (map (method_with at) (own declared x)) place (method_with at n) (mapped (method_with at) (own declared x) place n h))

      pub rest_at : (i : ℕ) → place ≡ length (own declared x) + i → slice_get (rest (term_with at x)) i ≡ Some m
      rest_at i e =
          let size = size_of_own in
          sym (at_right (map method (map (method_with at) (own declared x))) (rest (term_with at x)) i place (omega (arith, e, size))) ∙ member_at

      module _ (methods : List (MethodOf TypeRef)) (are : methods ≡ own declared x) where
        pub holds_own : (way : List Passed) (it : Selection) → (n : MethodOf TypeRef) × (slice_get methods place ≡ Some n) × (it ≡ r.Method way of n) → Holds table way of m it
        holds_own way it h = subst (Holds table way of m) (sym h.2) (refl, refl, own_at h.0 (ap (λ ms. slice_get ms place) (sym are) ∙ h.1))

        pub below_own : (way : List Passed) (it : Selection) → Each (Below (length table.types)) (map method_of declared) → (n : MethodOf TypeRef) × (slice_get methods place ≡ Some n) × (it ≡ r.Method way of n) → IsSelectionBelow (length table.types) it
        below_own way it each h = subst (IsSelectionBelow (length table.types)) (sym h.2)
            (slice_get_within table.types of.0 is.type is.is, each_at (Below (length table.types)) (map method_of (own declared x)) place h.0.of (own_each (length table.types) declared x each) (mapped method_of (own declared x) place h.0 (ap (λ ms. slice_get ms place) (sym are) ∙ h.1)))

        pub past_own : length methods ≤ place → slice_get (rest (term_with at x)) (place - length methods) ≡ Some m
        past_own w = rest_at (place - length methods) (let e : length methods ≡ length (own declared x) = ap length are in omega (arith, e, w))

  -- ---- the fields or methods of an underlying type

  rest_by : (x y : TermOf TypeRef) (i : ℕ) (m : Member) → x ≡ y → slice_get (rest (term_with at x)) i ≡ Some m → slice_get (rest (term_with at y)) i ≡ Some m
  rest_by x y i m e h = ap (λ z. slice_get (rest (term_with at z)) i) (sym e) ∙ h

  pub field_within : (x : TermOf TypeRef) (fs : List (FieldOf TypeRef)) (i : ℕ) (m : Member) → x ≡ t.Struct fs → slice_get (rest (term_with at x)) i ≡ Some m → i < length fs
  field_within x fs i m e h =
      let w = slice_get_within (map field (map (field_with at) fs)) i m (rest_by x (t.Struct fs) i m e h) in
      let size : length (map field (map (field_with at) fs)) ≡ length fs = same_size field (map (field_with at) fs) ∙ same_size (field_with at) fs in
      omega (arith, w, size)

  pub method_within : (x : TermOf TypeRef) (ms : List (MethodOf TypeRef)) (i : ℕ) (m : Member) → x ≡ t.Interface ms → slice_get (rest (term_with at x)) i ≡ Some m → i < length ms
  method_within x ms i m e h =
      let w = slice_get_within (map method (map (method_with at) ms)) i m (rest_by x (t.Interface ms) i m e h) in
      let size : length (map method (map (method_with at) ms)) ≡ length ms = same_size method (map (method_with at) ms) ∙ same_size (method_with at) ms in
      omega (arith, w, size)

  pub is_field : (x : TermOf TypeRef) (fs : List (FieldOf TypeRef)) (i : ℕ) (m : Member) → x ≡ t.Struct fs → slice_get (rest (term_with at x)) i ≡ Some m → (f : FieldOf TypeRef) → slice_get fs i ≡ Some f → m ≡ field (field_with at f)
  is_field x fs i m e h f there = same_Some m (field (field_with at f)) (sym (rest_by x (t.Struct fs) i m e h) ∙ mapped field (map (field_with at) fs) i (field_with at f) (mapped (field_with at) fs i f there))

  pub is_method : (x : TermOf TypeRef) (ms : List (MethodOf TypeRef)) (i : ℕ) (m : Member) → x ≡ t.Interface ms → slice_get (rest (term_with at x)) i ≡ Some m → (n : MethodOf TypeRef) → slice_get ms i ≡ Some n → m ≡ method (method_with at n)
  is_method x ms i m e h n there = same_Some m (method (method_with at n)) (sym (rest_by x (t.Interface ms) i m e h) ∙ mapped method (map (method_with at) ms) i (method_with at n) (mapped (method_with at) ms i n there))

  pub nothing_else : (x : TermOf TypeRef) (i : ℕ) (m : Member) → ((fs : List (FieldOf TypeRef)) → x ≡ t.Struct fs → ⊥) → ((ms : List (MethodOf TypeRef)) → x ≡ t.Interface ms → ⊥) → slice_get (rest (term_with at x)) i ≡ Some m → ⊥
  nothing_else (t.Struct fs) i m f g h = f fs refl
  nothing_else (t.Interface ms) i m f g h = g ms refl
  nothing_else _ i m f g h = search (rules, h)

  pub stands_at : (of : TypeRef) (x : TermOf TypeRef) (fs : List (FieldOf TypeRef)) (i : ℕ) (f : FieldOf TypeRef) → ((s : GoType) → Is table of s → Underlying table s (deep table.types x)) → x ≡ t.Struct fs → slice_get fs i ≡ Some f → StandsAt table of i f
  stands_at of x fs i f under e there = λ u is. record {
    underlying = deep table.types x;
    by = under u is;
    at = ap (λ y. slice_get (fields_in y) i) (deep_term table.types x ∙ ap (term_with at) e) ∙ mapped (field_with at) fs i f there;
  }

  pub field_below : (n : ℕ) (x : TermOf TypeRef) (fs : List (FieldOf TypeRef)) (i : ℕ) (f : FieldOf TypeRef) → x ≡ t.Struct fs → PartsBelow n x → slice_get fs i ≡ Some f → Below n f.of
  field_below n x fs i f e below there = each_at (Below n) (map field_of fs) i f.of (subst (PartsBelow n) e below) (mapped field_of fs i f there)

  pub method_below : (n : ℕ) (x : TermOf TypeRef) (ms : List (MethodOf TypeRef)) (i : ℕ) (m : MethodOf TypeRef) → x ≡ t.Interface ms → PartsBelow n x → slice_get ms i ≡ Some m → Below n m.of
  method_below n x ms i m e below there = each_at (Below n) (map method_of ms) i m.of (subst (PartsBelow n) e below) (mapped method_of ms i m there)

  -- what is held of them
  module _ (of : TypeRef) (x : TermOf TypeRef) (i : ℕ) (m : Member) (at_i : slice_get (rest (term_with at x)) i ≡ Some m) (way : List Passed) (it : Selection) where
    pub holds_field : (fs : List (FieldOf TypeRef)) → x ≡ t.Struct fs → ((s : GoType) → Is table of s → Underlying table s (deep table.types x)) → (f : FieldOf TypeRef) × (slice_get fs i ≡ Some f) × (it ≡ r.Field way of i f) → Holds table way of m it
    holds_field fs e under h = subst (Holds table way of m) (sym h.2) (refl, refl, is_field x fs i m e at_i h.0 h.1, stands_at of x fs i h.0 under e h.1)

    pub holds_method : (ms : List (MethodOf TypeRef)) → x ≡ t.Interface ms → (n : MethodOf TypeRef) × (slice_get ms i ≡ Some n) × (it ≡ r.Method way of n) → Holds table way of m it
    holds_method ms e h = subst (Holds table way of m) (sym h.2) (refl, refl, is_method x ms i m e at_i h.0 h.1)

  module _ (of : TypeRef) (below : Below (length table.types) of) (x : TermOf TypeRef) (parts : PartsBelow (length table.types) x) (i : ℕ) (way : List Passed) (it : Selection) where
    pub below_field : (fs : List (FieldOf TypeRef)) → x ≡ t.Struct fs → (f : FieldOf TypeRef) × (slice_get fs i ≡ Some f) × (it ≡ r.Field way of i f) → IsSelectionBelow (length table.types) it
    below_field fs e h = subst (IsSelectionBelow (length table.types)) (sym h.2) (below, field_below (length table.types) x fs i h.0 e parts h.1)

    pub below_method : (ms : List (MethodOf TypeRef)) → x ≡ t.Interface ms → (n : MethodOf TypeRef) × (slice_get ms i ≡ Some n) × (it ≡ r.Method way of n) → IsSelectionBelow (length table.types) it
    below_method ms e h = subst (IsSelectionBelow (length table.types)) (sym h.2) (below, method_below (length table.types) x ms i h.0 e parts h.1)
