-- How far a search for a name among the members of a type has come.
use Rattle.std.proofs.Common.{◌≡◌, refl, sym, ap, ◌∙◌, subst, ℕ, ◌+◌, ◌<◌, Bool, true, List, Some, map, arith}
use Rattle.std.specs.Prelude.{slice_get, ◌↔◌, IsTrue}
use Rattle.std.proofs.lemmas.Bool.{and_from, and_parts}
use Rattle.std.proofs.lemmas.Option.{same_Some, slice_get_within}
use Rattle.std.proofs.lemmas.Slice.Eq.{bytes_eq-Decides}
use Rattle.std.specs.Str.{bytes_eq}
use Rattle.gno_embedding.proofs.Nearest.{Order, above, below, order}
use Rattle.gno_embedding.proofs.Opened.{mapped}
use Rattle.gno_promotion.proofs.Leading.{IsOneDefinition, one_members}
use Rattle.gno_promotion.specs.MethodSets.{HasMembers, Member}
use Rattle.gno_selectors.proofs.Lists.{unmapped}
use Rattle.gno_selectors.specs.Standings.{Has, IsMember, IsStanding, Name, StandsBefore, StandsIn, is_called, member_name, with_one}
use Rattle.gno_selectors.specs.declared.standing.Standing.{Standing}
use Rattle.gno_selectors.specs.declared.standing.Standing.TheVariants as st
use Rattle.gno_terms.specs.declared.term.GoType.{GoType}
use Rattle.gno_terms.specs.declared.term.TypeRef.{TypeRef}
use Rattle.gno_terms.specs.Tables.{Table, Is}

pub begun : (name : Name) (names : List Name) → StandsBefore 0 name names st.Nowhere
begun name names k w h = omega (arith, w)

module _ (name : Name) (names : List Name) (n : ℕ) where
  not_there : (k : ℕ) → k < n + 1 → slice_get names k ≡ Some name → (slice_get names n ≡ Some name → ⊥) → Order k n → k < n
  not_there k w h f (below lt) = lt
  not_there k w h f (above le) = (let e : k ≡ n = omega (arith, w, le) in absurd (f (ap (slice_get names) (sym e) ∙ h)))

  -- another name stands at place n
  pub passed : (standing : Standing) → (slice_get names n ≡ Some name → ⊥) → StandsBefore n name names standing → StandsBefore (n + 1) name names standing
  passed st.Nowhere f old = λ k w h. old k (not_there k w h f (order k n)) h
  passed (st.At place) f old = ((let w = old.0 in omega (arith, w)), old.1, λ k w h. old.2 k (not_there k w h f (order k n)) h)
  passed st.Twice f old = old

  here_alone : ((k : ℕ) → k < n → slice_get names k ≡ Some name → ⊥) → (k : ℕ) → k < n + 1 → slice_get names k ≡ Some name → Order k n → k ≡ n
  here_alone old k w h (below lt) = absurd (old k lt h)
  here_alone old k w h (above le) = omega (arith, w, le)

  -- the name stands at place n
  pub met : (standing : Standing) → slice_get names n ≡ Some name → StandsBefore n name names standing → StandsBefore (n + 1) name names (with_one n standing)
  met st.Nowhere h old = ((omega arith), h, λ k w e. here_alone old k w e (order k n))
  met (st.At place) h old = (place, n, old.1, h, λ e. (let w = old.0 in omega (arith, w, e)))
  met st.Twice h old = old

called_same : (a b : Name) → is_called a b ≡ true → a ≡ b
called_same a b h =
    let p = and_parts (bytes_eq a.name b.name) (bytes_eq a.«package» b.«package») h in
    let n : a.name ≡ b.name = (bytes_eq-Decides a.name b.name).0 p.0 in
    let q : a.«package» ≡ b.«package» = (bytes_eq-Decides a.«package» b.«package»).0 p.1 in
    λ i. record { name = n i; «package» = q i }

same_called : (a b : Name) → a ≡ b → is_called a b ≡ true
same_called a b e = and_from (bytes_eq a.name b.name) (bytes_eq a.«package» b.«package») ((bytes_eq-Decides a.name b.name).1 (ap (λ (n : Name). n.name) e)) ((bytes_eq-Decides a.«package» b.«package»).1 (ap (λ (n : Name). n.«package») e))

-- the name is that at place k
pub called_at : (names : List Name) (k : ℕ) (n name : Name) (b : Bool) → slice_get names k ≡ Some n → b ≡ is_called n name → IsTrue b ↔ (slice_get names k ≡ Some name)
called_at names k n name b h e = (λ t. h ∙ ap Some (called_same n name (sym e ∙ t)), λ g. e ∙ same_called n name (same_Some n name (sym h ∙ g)))

pub stands_as : (table : Table) (of : TypeRef) (name : Name) (x y : Standing) → x ≡ y → StandsIn table of name x → StandsIn table of name y
stands_as table of name x y e h = subst (StandsIn table of name) e h

module _ (table : Table) (one : IsOneDefinition table) (of : TypeRef) (name : Name) where
  -- the members of its type are these alone
  pub standing_of : (standing : Standing) → StandsIn table of name standing → (s : GoType) (ms : List Member) → Is table of s → HasMembers table s ms → IsStanding name (map member_name ms) standing
  standing_of standing stands s ms is has =
      let type : stands.type ≡ s = same_Some stands.type s (sym stands.is ∙ is) in
      subst (λ l. IsStanding name (map member_name l) standing) (one_members table one stands.type s stands.members ms type stands.has has) stands.standing_is

  name_at : (has : Has table name of) → slice_get (map member_name has.is_member.members) has.place ≡ Some name
  name_at has = mapped member_name has.is_member.members has.place has.member has.is_member.at ∙ ap Some has.name_is

  pub has_none : StandsIn table of name st.Nowhere → Has table name of → ⊥
  has_none stands has =
      let m = has.is_member in
      standing_of st.Nowhere stands m.type m.members m.is m.has has.place (slice_get_within (map member_name m.members) has.place name (name_at has)) (name_at has)

  has_at : (type : GoType) (ms : List Member) (k : ℕ) → Is table of type → HasMembers table type ms → slice_get (map member_name ms) k ≡ Some name → Has table name of
  has_at type ms k is has h =
      let m = unmapped member_name ms k name h in
      record { place = k; member = m.0; is_member = record { type = type; is = is; members = ms; has = has; at = m.1 }; name_is = m.2 }

  -- it stands at some place
  pub has_some : (standing : Standing) → StandsIn table of name standing → (standing ≡ st.Nowhere → ⊥) → Has table name of
  has_some st.Nowhere stands f = absurd (f refl)
  has_some (st.At place) stands f = has_at stands.type stands.members place stands.is stands.has stands.standing_is.1
  has_some st.Twice stands f = has_at stands.type stands.members stands.standing_is.0 stands.is stands.has stands.standing_is.2

  -- the one member of the name
  pub only_member : (place : ℕ) → StandsIn table of name (st.At place) → (m : Member) × IsMember table of place m × (member_name m ≡ name)
  only_member place stands =
      let m = unmapped member_name stands.members place name stands.standing_is.1 in
      (m.0, record { type = stands.type; is = stands.is; members = stands.members; has = stands.has; at = m.1 }, m.2)
