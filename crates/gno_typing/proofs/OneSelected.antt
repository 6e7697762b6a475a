-- What a name selects is found once, in a table in which a type has one definition at most.
use Rattle.std.proofs.Common.{◌≡◌, refl, sym, ap, ◌∙◌, subst, ℕ, ◌+◌, ◌<◌, List, [], ◌∷◌, ◌++◌, true, not, Some, length, map, reverse, arith, inl, inr, ◌⊎◌, rules}
use Rattle.std.specs.Prelude.{slice_get}
use Rattle.std.proofs.lemmas.List.{map-append, reverse-append, reverse-reverse}
use Rattle.std.proofs.lemmas.Option.{same_Some}
use Rattle.gno_embedding.specs.Embedding.{Embeds, Leads, fields_in}
use Rattle.gno_embedding.specs.Walking.{HasOneDefinition}
use Rattle.gno_embedding.proofs.Opened.{mapped}
use Rattle.gno_embedding.proofs.Paths.{head_is, same_embeds, same_leads, same_underlying, tail_is}
use Rattle.gno_promotion.specs.MethodSets.{Member, field, members, method}
use Rattle.gno_promotion.proofs.Leading.{one_members}
use Rattle.gno_selectors.specs.Selectors.{IsNamed, Passes, Selects, path_of, place_of}
use Rattle.gno_selectors.specs.declared.selection.Passed.{Passed}
use Rattle.gno_selectors.proofs.Lists.{at_right}
use Rattle.gno_selectors.proofs.Ways.{leads_to}
use Rattle.gno_terms.specs.declared.term.FieldOf.{FieldOf}
use Rattle.gno_terms.specs.declared.term.GoType.{GoType}
use Rattle.gno_terms.specs.declared.term.MethodOf.{MethodOf}
use Rattle.gno_terms.specs.declared.term.TermOf.{TermOf}
use Rattle.gno_terms.specs.declared.term.TermOf.TheVariants as t
use Rattle.gno_terms.specs.Tables.{Table, Underlying}
use Rattle.gno_terms.specs.Terms.{term_of}
use Rattle.gno_typing.specs.Selectors.{FieldFound, Follows, HasHolder, IsFieldFound, IsMethodFound, is_pointer_term}
use Rattle.gno_typing.specs.Selectors.{HasHolder as h}
use Rattle.gno_typing.proofs.OneParts.{Once}
use Rattle.gno_typing.proofs.OneTypes.{same_pointer}

-- ---- lists and members

map-reverse : {A B : Type 0} (f : A → B) (xs : List A) → map f (reverse xs) ≡ reverse (map f xs)
map-reverse f [] = refl
map-reverse f (x ∷ xs) = ap (map f) (reverse-append (x ∷ []) xs) ∙ map-append f (reverse xs) (x ∷ []) ∙ ap (λ ys. ys ++ f x ∷ []) (map-reverse f xs) ∙ sym (reverse-append (f x ∷ []) (map f xs))

-- of one path there is one row of places
places_of : (w v : List Passed) → path_of w ≡ path_of v → map place_of w ≡ map place_of v
places_of w v e = sym (reverse-reverse (map place_of w)) ∙ ap reverse (sym (map-reverse place_of w) ∙ e ∙ map-reverse place_of v) ∙ reverse-reverse (map place_of v)

same_field : {f g : FieldOf GoType} → field f ≡ field g → f ≡ g
same_field e = cc

same_method : {m n : MethodOf GoType} → method m ≡ method n → m ≡ n
same_method e = cc

-- a field stands behind the methods that are declared
behind_declared : (declared : List (MethodOf GoType)) (x : TermOf GoType) (i : ℕ) (f : FieldOf GoType) → slice_get (fields_in x) i ≡ Some f → slice_get (members declared x) (length (map method declared) + i) ≡ Some (field f)
behind_declared declared (t.Struct fs) i f at = at_right (map method declared) (map field fs) i _ refl ∙ mapped field fs i f at
behind_declared declared _ i f at = absurd (search (rules, at))

same_place : (n i j k : ℕ) → n + i ≡ k → n + j ≡ k → i ≡ j
same_place n i j k a b = omega (arith, a, b)

module _ (table : Table) (one : HasOneDefinition table) where
  -- ---- of which type the name is

  follows_once : (s : GoType) → Once (Follows table s)
  follows_once s u v it also = same_pointer (sym it.is ∙ ap term_of (same_underlying table one s it.underlying also.underlying it.by also.by) ∙ also.is)

  pub holder_once : (s : GoType) → Once (HasHolder table s)
  holder_once s x y (h.itself none is) (h.itself never also) = is ∙ sym also
  holder_once s x y (h.itself none is) (h.pointed u b follows by never also) = absurd (none u follows)
  holder_once s x y (h.pointed u b follows by other is) (h.itself never also) = absurd (never u follows)
  holder_once s x y (h.pointed u b follows by other is) (h.pointed v c to known never also) = is ∙ ap (λ z. record { of = z; pointer = true; fields_alone = not (is_pointer_term (term_of s)) }) (follows_once s u v follows to) ∙ sym also

  -- ---- ways

  one_way_by : (s : GoType) (w v : List Passed) (u x : GoType) → map place_of w ≡ map place_of v → Passes table s w u → Passes table s v x → (w ≡ v) × (u ≡ x)
  one_way_by s [] [] u x e a b = (refl, a ∙ sym b)
  one_way_by s [] (q ∷ v) u x e a b = absurd (search (rules, e))
  one_way_by s (p ∷ w) [] u x e a b = absurd (search (rules, e))
  one_way_by s (p ∷ w) (q ∷ v) u x e a b =
      let place : p.place ≡ q.place = head_is e in
      let same = same_embeds table one s q.place p.pointer q.pointer a.0 b.0 (subst (λ n. Embeds table s n p.pointer a.0) place a.1) b.1 in
      let rest = one_way_by b.0 w v u x (tail_is e) (subst (λ z. Passes table z w u) same.1 a.2) b.2 in
      let first : p ≡ q = λ i. record { place = place i; pointer = same.0 i } in
      (ap (λ z. z ∷ w) first ∙ ap (λ z. q ∷ z) rest.0, rest.1)

  module _ (s : GoType) (name «package» : List ℕ) where
    -- ---- one member is selected

    abbrev Selected : List ℕ → ℕ → Member → Type 0
    Selected path place m = Selects table s name «package» path place m

    nearest : (p q : List ℕ) (j k : ℕ) → (length p < length q) ⊎ ((q ≡ p) × (k ≡ j)) → (length q < length p) ⊎ ((p ≡ q) × (j ≡ k)) → (p ≡ q) × (j ≡ k)
    nearest p q j k (inl near) (inl nearer) = absurd (omega (arith, near, nearer))
    nearest p q j k (inl near) (inr same) = same
    nearest p q j k (inr same) other = (sym same.0, sym same.1)

    one_place : (p q : List ℕ) (j k : ℕ) (m n : Member) → Selected p j m → Selected q k n → (p ≡ q) × (j ≡ k)
    one_place p q j k m n a b = nearest p q j k (a.least q k n b.named) (b.least p j m a.named)

    one_member : (p q : List ℕ) (j k : ℕ) (m n : Member) → p ≡ q → j ≡ k → Selected p j m → Selected q k n → m ≡ n
    one_member p q j k m n path place a b =
        let it = a.named.entry in
        let also = b.named.entry in
        let of = same_leads table one s q a.named.followed b.named.followed it.of also.of (subst (λ z. Leads table s z a.named.followed it.of) path it.leads) also.leads in
        let all = one_members table one it.of also.of it.members also.members of.1 it.has also.has in
        same_Some m n (sym it.at ∙ ap (slice_get it.members) place ∙ ap (λ ms. slice_get ms k) all ∙ also.at)

    record Same (w v : List Passed) (u x : GoType) (m n : Member) : Type 0 where
      pub way : w ≡ v
      pub of : u ≡ x
      pub member : m ≡ n

    one_found : (w v : List Passed) (u x : GoType) (j k : ℕ) (m n : Member) → Passes table s w u → Passes table s v x → Selected (path_of w) j m → Selected (path_of v) k n → Same w v u x m n
    one_found w v u x j k m n to also_to a b =
        let at = one_place (path_of w) (path_of v) j k m n a b in
        let way = one_way_by s w v u x (places_of w v at.0) to also_to in
        record { way = way.0; of = way.1; member = one_member (path_of w) (path_of v) j k m n at.0 at.1 a b }

    -- ---- methods

    pub method_once : Once (IsMethodFound table s name «package»)
    method_once x y it also =
        let same = one_found x.way y.way x.of y.of it.place also.place (method x.method) (method y.method) it.passes also.passes it.selects also.selects in
        let m : x.method ≡ y.method = same_method same.member in
        λ i. record { way = same.way i; of = same.of i; method = m i }

    -- ---- fields

    -- a field of the type that has this one stands at one place with it, where it is the same
    module _ (x : FieldFound) (it : IsFieldFound table s name «package» x) where
      abbrev declared : List (MethodOf GoType)
      declared = it.selects.named.entry.has.declared

      there : it.selects.named.entry.of ≡ it.of
      there =
          let leads = leads_to table s x.way it.of it.passes in
          (same_leads table one s (path_of x.way) it.selects.named.followed leads.0 it.selects.named.entry.of it.of it.selects.named.entry.leads leads.1).1

      members_are : it.selects.named.entry.members ≡ members declared (term_of it.underlying)
      members_are =
          let has = it.selects.named.entry.has in
          has.are ∙ ap (λ u. members declared (term_of u)) (same_underlying table one it.of has.underlying it.underlying (subst (λ z. Underlying table z has.underlying) there has.by) it.by)

      named_at : (i : ℕ) → slice_get (fields_in (term_of it.underlying)) i ≡ Some x.field → IsNamed table s name «package» (path_of x.way) (length (map method declared) + i) (field x.field)
      named_at i at =
          let named = it.selects.named in
          record {
            followed = named.followed;
            entry = record { of = named.entry.of; leads = named.entry.leads; members = named.entry.members; has = named.entry.has; at = ap (λ ms. slice_get ms (length (map method declared) + i)) members_are ∙ behind_declared declared (term_of it.underlying) i x.field at };
            name_is = named.name_is;
            package_is = named.package_is;
          }

      as_near : (path : List ℕ) (j k : ℕ) → (length path < length path) ⊎ ((path ≡ path) × (j ≡ k)) → j ≡ k
      as_near path j k (inl near) = absurd (omega (arith, near))
      as_near path j k (inr same) = same.1

      stands_at : (i : ℕ) → slice_get (fields_in (term_of it.underlying)) i ≡ Some x.field → length (map method declared) + i ≡ it.place
      stands_at i at = as_near (path_of x.way) _ it.place (it.selects.least (path_of x.way) (length (map method declared) + i) (field x.field) (named_at i at))

      one_index : (i : ℕ) → slice_get (fields_in (term_of it.underlying)) i ≡ Some x.field → x.index ≡ i
      one_index i at = same_place (length (map method declared)) x.index i it.place (stands_at x.index it.at) (stands_at i at)

    pub field_once : Once (IsFieldFound table s name «package»)
    field_once x y it also =
        let same = one_found x.way y.way it.of also.of it.place also.place (field x.field) (field y.field) it.passes also.passes it.selects also.selects in
        let f : x.field ≡ y.field = same_field same.member in
        let under : it.underlying ≡ also.underlying = same_underlying table one also.of it.underlying also.underlying (subst (λ z. Underlying table z it.underlying) same.of it.by) also.by in
        let index : x.index ≡ y.index = one_index x it y.index (ap (λ u. slice_get (fields_in (term_of u)) y.index) under ∙ also.at ∙ ap Some (sym f)) in
        λ i. record { way = same.way i; index = index i; field = f i }
