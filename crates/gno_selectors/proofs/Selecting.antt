-- What is found is what the name selects.
use Rattle.std.proofs.Common.{◌≡◌, refl, sym, ap, ◌∙◌, subst, ℕ, suc, ◌+◌, ◌<◌, ◌≤◌, List, [], ◌∷◌, Bool, true, false, Some, length, map, arith, inl, inr}
use Rattle.std.specs.Prelude.{slice_get, ◌⊎◌}
use Rattle.std.proofs.lemmas.Bool.{cases_lt}
use Rattle.std.proofs.lemmas.Option.{same_Some, slice_get_within}
use Rattle.gno_embedding.proofs.Nearest.{Order, above, below, one_place, order}
use Rattle.gno_embedding.proofs.Opened.{mapped}
use Rattle.gno_embedding.proofs.Paths.{nothing_of, same_leads}
use Rattle.gno_embedding.specs.Embedding.{Leads, here}
use Rattle.gno_embedding.specs.Reaching.{AreReached, In, IsReached}
use Rattle.gno_embedding.specs.declared.ways.Reached.{Reached}
use Rattle.gno_promotion.proofs.Leading.{IsOneDefinition}
use Rattle.gno_promotion.specs.MethodSets.{HasMembers, Member, name_of, package_of}
use Rattle.gno_selectors.proofs.Lists.{distinct_at, each_at, position, rises_at, unmapped}
use Rattle.gno_selectors.proofs.Standings.{standing_of}
use Rattle.gno_selectors.proofs.Ways.{leads_to, path_size}
use Rattle.gno_selectors.specs.Selectors.{IsAmbiguous, IsBlank, IsMissing, IsNamed, IsSelected, IsSelection, Passes, Selects, path_of}
use Rattle.gno_selectors.specs.Standings.{GoesFrom, Has, HasRival, Holds, IsFirst, IsMember, LackFrom, Name, StandsIn, called, member_name}
use Rattle.gno_selectors.specs.declared.selection.Passed.{Passed}
use Rattle.gno_selectors.specs.declared.selection.Selection.{Selection}
use Rattle.gno_selectors.specs.declared.selection.Selection.TheVariants as r
use Rattle.gno_selectors.specs.declared.standing.Standing.TheVariants as st
use Rattle.gno_terms.specs.declared.term.GoType.{GoType}
use Rattle.gno_terms.specs.declared.term.TypeRef.{TypeRef}
use Rattle.gno_terms.specs.Tables.{Table, Is}

-- no two numbers stand for one type
abbrev pub IsOneNumber : Table → Type 0
IsOneNumber table = (a b : TypeRef) (s : GoType) → Is table a s → Is table b s → a ≡ b

module _ (table : Table) (one : IsOneDefinition table) (s : GoType) (name «package» : List ℕ) where
  abbrev key : Name
  key = called name «package»

  abbrev Named : List ℕ → ℕ → Member → Type 0
  Named path place m = IsNamed table s name «package» path place m

  -- what is held is selected
  pub holds : (way : List Passed) (of : TypeRef) (m : Member) (it : Selection) → Holds table way of m it → IsSelected table s name «package» way of m → IsSelection table s name «package» it
  holds way of m r.Missing h is = absurd h
  holds way of m r.Ambiguous h is = absurd h
  holds way of m (r.Field w o place f) h is = (
    subst (IsSelected table s name «package» w o) h.2 (subst (λ t. IsSelected table s name «package» w t m) (sym h.1) (subst (λ l. IsSelected table s name «package» l of m) (sym h.0) is)),
    h.3,
  )
  holds way of m (r.Method w o n) h is = subst (IsSelected table s name «package» w o) h.2 (subst (λ t. IsSelected table s name «package» w t m) (sym h.1) (subst (λ l. IsSelected table s name «package» l of m) (sym h.0) is))

  key_of : (m : Member) → name_of m ≡ name → package_of m ≡ «package» → member_name m ≡ key
  key_of m a b = λ i. record { name = a i; «package» = b i }

  entry_at : (path : List ℕ) (place : ℕ) (m : Member) (n : Named path place m) → slice_get (map member_name n.entry.members) place ≡ Some key
  entry_at path place m n = mapped member_name n.entry.members place m n.entry.at ∙ ap Some (key_of m n.name_is n.package_is)

  named_by : (path : List ℕ) (f : Bool) (u : GoType) (ms : List Member) (place : ℕ) (m : Member) → Leads table s path f u → HasMembers table u ms → slice_get ms place ≡ Some m → member_name m ≡ key → Named path place m
  named_by path f u ms place m leads has at e = record {
    followed = f;
    entry = record { of = u; leads = leads; members = ms; has = has; at = at };
    name_is = ap (λ (k : Name). k.name) e;
    package_is = ap (λ (k : Name). k.«package») e;
  }

  -- the places of the name in one type
  module _ (of : TypeRef) (u : GoType) (is : Is table of u) (path : List ℕ) (followed : Bool) (leads : Leads table s path followed u) (no_blank : IsBlank name → ⊥) where
    named_in : (ms : List Member) (place : ℕ) → HasMembers table u ms → slice_get (map member_name ms) place ≡ Some key → (m : Member) × Named path place m
    named_in ms place has h = (let m = unmapped member_name ms place key h in (m.0, named_by path followed u ms place m.0 leads has m.1 m.2))

    -- two places
    pub twice : StandsIn table of key st.Twice → ((p : List ℕ) (k : ℕ) (other : Member) → Named p k other → length path ≤ length p) → IsAmbiguous table s name «package»
    twice stands least =
        let same : stands.type ≡ u = same_Some stands.type u (sym stands.is ∙ is) in
        let has : HasMembers table u stands.members = subst (λ v. HasMembers table v stands.members) same stands.has in
        let h = stands.standing_is in
        let m = named_in stands.members h.0 has h.2 in
        let n = named_in stands.members h.1 has h.3 in
        record {
          path = path;
          place = h.0;
          member = m.0;
          named = m.1;
          rival_path = path;
          rival_place = h.1;
          rival = n.0;
          rival_named = n.1;
          as_deep = refl;
          apart = λ e f. h.4 (sym f);
          least = least;
          no_blank = no_blank;
        }

    -- one place
    module _ (place : ℕ) (stands : StandsIn table of key (st.At place)) (others : (p : List ℕ) (k : ℕ) (other : Member) (n : Named p k other) → (length path < length p) ⊎ ((p ≡ path) × (n.entry.of ≡ u))) where
      only : (p : List ℕ) (k : ℕ) (other : Member) (n : Named p k other) → (length path < length p) ⊎ ((p ≡ path) × (n.entry.of ≡ u)) → (length path < length p) ⊎ ((p ≡ path) × (k ≡ place))
      only p k other n (inl far) = inl far
      only p k other n (inr h) =
          let has : HasMembers table u n.entry.members = subst (λ v. HasMembers table v n.entry.members) h.1 n.entry.has in
          let at = entry_at p k other n in
          inr (h.0, (standing_of table one of key (st.At place) stands u n.entry.members is has).2 k (slice_get_within (map member_name n.entry.members) k key at) at)

      pub selects : (m : Member) → IsMember table of place m → Selects table s name «package» path place m
      selects m member =
          let type : member.type ≡ u = same_Some member.type u (sym member.is ∙ is) in
          let has : HasMembers table u member.members = subst (λ v. HasMembers table v member.members) type member.has in
          let standing = standing_of table one of key (st.At place) stands u member.members is has in
          let n = unmapped member_name member.members place key standing.1 in
          let same : n.0 ≡ m = same_Some n.0 m (sym n.1 ∙ member.at) in
          record {
            named = named_by path followed u member.members place m leads has member.at (ap member_name (sym same) ∙ n.2);
            least = λ p k other named. only p k other named (others p k other named);
            no_blank = no_blank;
          }

  -- ---- the type itself

  module _ (t : TypeRef) (is : Is table t s) (no_blank : IsBlank name → ⊥) where
    at_itself : (p : List ℕ) (k : ℕ) (other : Member) (n : Named p k other) → (0 < length p) ⊎ ((p ≡ []) × (n.entry.of ≡ s))
    at_itself [] k other n = inr (refl, (nothing_of table s n.followed n.entry.of n.entry.leads).1)
    at_itself (q ∷ p) k other n = inl (omega arith)

    pub own_twice : StandsIn table t key st.Twice → IsAmbiguous table s name «package»
    own_twice stands = twice t s is [] false here no_blank stands (λ p k other n. omega arith)

    pub own_selected : (place : ℕ) → StandsIn table t key (st.At place) → (m : Member) → IsMember table t place m → IsSelected table s name «package» [] t m
    own_selected place stands m member = record { type = s; is = is; passes = refl; place = place; selects = selects t s is [] false here no_blank place stands at_itself m member }

    -- ---- the types that embedded fields lead to

    module _ (number : IsOneNumber table) (nowhere : StandsIn table t key st.Nowhere) (its : List Reached) (are : AreReached table s its) where
      -- the type where an entry of the name stands
      record Covered (p : List ℕ) (k : ℕ) (other : Member) (n : Named p k other) : Type 0 where
        pub place : ℕ
        pub it : Reached
        pub at : slice_get its place ≡ Some it
        pub type : Is table it.of n.entry.of
        pub near : it.depth ≤ length p
        pub has : Has table key it.of

      no_own : (p : List ℕ) (k : ℕ) (other : Member) (n : Named p k other) → n.entry.of ≡ s → ⊥
      no_own p k other n e =
          let has : HasMembers table s n.entry.members = subst (λ v. HasMembers table v n.entry.members) e n.entry.has in
          let at = entry_at p k other n in
          standing_of table one t key st.Nowhere nowhere s n.entry.members is has k (slice_get_within (map member_name n.entry.members) k key at) at

      cover_by : (p : List ℕ) (k : ℕ) (other : Member) (n : Named p k other) → (n.entry.of ≡ s) ⊎ ((it : Reached) × In it its × Is table it.of n.entry.of × (it.depth ≤ length p)) → Covered p k other n
      cover_by p k other n (inl e) = absurd (no_own p k other n e)
      cover_by p k other n (inr h) =
          let place = position its h.0 h.1 in
          record {
            place = place.0;
            it = h.0;
            at = place.1;
            type = h.2;
            near = h.3;
            has = record { place = k; member = other; is_member = record { type = n.entry.of; is = h.2; members = n.entry.members; has = n.entry.has; at = n.entry.at }; name_is = key_of other n.name_is n.package_is };
          }

      cover : (p : List ℕ) (k : ℕ) (other : Member) (n : Named p k other) → Covered p k other n
      cover p k other n = cover_by p k other n (are.least p n.followed n.entry.of n.entry.leads)

      pub missing : LackFrom table key its 0 → IsMissing table s name «package»
      missing lack = inr (λ p k other n. let c = cover p k other n in lack c.place c.it (omega arith) c.at c.has)

      -- the first that has the name
      module _ (first : ℕ) (is_first : IsFirst table key its 0 first) where
        abbrev it : Reached
        it = is_first.it

        abbrev reached : IsReached table s it
        reached = each_at (IsReached table s) its first it are.each is_first.at

        behind_by : (p : List ℕ) (k : ℕ) (other : Member) (n : Named p k other) (c : Covered p k other n) → Order c.place first → first ≤ c.place
        behind_by p k other n c (above w) = w
        behind_by p k other n c (below w) = absurd (is_first.first c.place c.it (omega arith) w c.at c.has)

        behind : (p : List ℕ) (k : ℕ) (other : Member) (n : Named p k other) (c : Covered p k other n) → first ≤ c.place
        behind p k other n c = behind_by p k other n c (order c.place first)

        least : (p : List ℕ) (k : ℕ) (other : Member) → Named p k other → it.depth ≤ length p
        least p k other n =
            let c = cover p k other n in
            let w = rises_at its are.rises first c.place it c.it is_first.at c.at (behind p k other n c) in
            let near = c.near in
            omega (arith, w, near)

        least_path : (p : List ℕ) (k : ℕ) (other : Member) → Named p k other → length reached.path ≤ length p
        least_path p k other n = (let w = least p k other n in let d = reached.depth in omega (arith, w, d))

        -- the member by a way to a type
        named_there : (of : TypeRef) (u : GoType) → Is table of u → (p : List ℕ) (f : Bool) → Leads table s p f u → (has : Has table key of) → Named p has.place has.member
        named_there of u at p f leads has =
            let m = has.is_member in
            let type : m.type ≡ u = same_Some m.type u (sym m.is ∙ at) in
            named_by p f u m.members has.place has.member leads (subst (λ v. HasMembers table v m.members) type m.has) m.at has.name_is

        pub two_ways : it.twice ≡ true → IsAmbiguous table s name «package»
        two_ways e =
            let w = reached.twice e in
            record {
              path = reached.path;
              place = is_first.has.place;
              member = is_first.has.member;
              named = named_there it.of reached.type reached.is reached.path it.followed reached.leads is_first.has;
              rival_path = w.0;
              rival_place = is_first.has.place;
              rival = is_first.has.member;
              rival_named = named_there it.of reached.type reached.is w.0 w.1 w.2 is_first.has;
              as_deep = w.3 ∙ sym reached.depth;
              apart = λ a b. w.4 a;
              least = least_path;
              no_blank = no_blank;
            }

        pub two_members : StandsIn table it.of key st.Twice → IsAmbiguous table s name «package»
        two_members stands = twice it.of reached.type reached.is reached.path it.followed reached.leads no_blank stands least_path

        pub two_types : HasRival table key its first → IsAmbiguous table s name «package»
        two_types rival =
            let other : IsReached table s rival.other = each_at (IsReached table s) its rival.number rival.other are.each rival.other_at in
            let same : rival.it ≡ it = one_place its first first rival.at is_first.at refl in
            let depth : rival.other.depth ≡ it.depth = rival.as_deep ∙ ap (λ (z : Reached). z.depth) same in
            record {
              path = reached.path;
              place = is_first.has.place;
              member = is_first.has.member;
              named = named_there it.of reached.type reached.is reached.path it.followed reached.leads is_first.has;
              rival_path = other.path;
              rival_place = rival.has.place;
              rival = rival.has.member;
              rival_named = named_there rival.other.of other.type other.is other.path rival.other.followed other.leads rival.has;
              as_deep = other.depth ∙ depth ∙ sym reached.depth;
              apart = λ a b.
                  (let type : other.type ≡ reached.type = (same_leads table one s reached.path rival.other.followed it.followed other.type reached.type (subst (λ p. Leads table s p rival.other.followed other.type) a other.leads) reached.leads).1 in
                  let numbers : rival.other.of ≡ it.of = number rival.other.of it.of reached.type (other.is ∙ ap Some type) reached.is in
                  let places = distinct_at its are.distinct rival.number first rival.other it rival.other_at is_first.at numbers in
                  let w = rival.behind in omega (arith, places, w));
              least = least_path;
              no_blank = no_blank;
            }

        -- one way, one member and one type
        module _ (once : it.twice ≡ false) (alone : HasRival table key its first → ⊥) (way : List Passed) (goes : GoesFrom its 0 (first + 1) way) where
          passes : Passes table s way reached.type × (it.depth ≡ 0 + length way)
          passes = (subst (λ n. GoesFrom its 0 n way) (to_suc first) goes) table s are.steps 0 it.depth s reached.type (refl, refl) (it, is_first.at, reached.is, refl)
            where
              to_suc : (n : ℕ) → n + 1 ≡ suc n
              to_suc n = omega arith

          leads : (f : Bool) × Leads table s (path_of way) f reached.type
          leads = leads_to table s way reached.type passes.0

          size : length (path_of way) ≡ it.depth
          size = (let a = path_size way in let b = passes.1 in omega (arith, a, b))

          path_is : path_of way ≡ reached.path
          path_is = reached.once once (path_of way) leads.0 leads.1 size

          -- an entry at the first type
          at_first : (p : List ℕ) (k : ℕ) (other : Member) (n : Named p k other) → n.entry.of ≡ reached.type → (length (path_of way) < length p) ⊎ (length p ≤ length (path_of way)) → (length (path_of way) < length p) ⊎ ((p ≡ path_of way) × (n.entry.of ≡ reached.type))
          at_first p k other n e (inl far) = inl far
          at_first p k other n e (inr near) =
              let w = least p k other n in
              let z = size in
              inr (reached.once once p n.followed (subst (Leads table s p n.followed) e n.entry.leads) (omega (arith, near, w, z)) ∙ sym path_is, e)

          -- an entry at another type
          farther : (p : List ℕ) (k : ℕ) (other : Member) (n : Named p k other) (c : Covered p k other n) → first < c.place → (it.depth < c.it.depth) ⊎ (c.it.depth ≤ it.depth) → length (path_of way) < length p
          farther p k other n c w (inl far) = (let z = size in let near = c.near in omega (arith, far, z, near))
          farther p k other n c w (inr near) =
              let rise = rises_at its are.rises first c.place it c.it is_first.at c.at (omega (arith, w)) in
              absurd (alone (record { it = it; at = is_first.at; number = c.place; behind = w; other = c.it; other_at = c.at; has = c.has; as_deep = omega (arith, near, rise) }))

          other_by : (p : List ℕ) (k : ℕ) (other : Member) (n : Named p k other) (c : Covered p k other n) → first ≤ c.place → Order first c.place → (length (path_of way) < length p) ⊎ ((p ≡ path_of way) × (n.entry.of ≡ reached.type))
          other_by p k other n c le (below w) = inl (farther p k other n c w (cases_lt it.depth c.it.depth))
          other_by p k other n c le (above w) =
              let same : c.it ≡ it = one_place its c.place first c.at is_first.at (omega (arith, le, w)) in
              let type : n.entry.of ≡ reached.type = same_Some n.entry.of reached.type (sym c.type ∙ ap (λ (z : Reached). slice_get table.types z.of.0) same ∙ reached.is) in
              at_first p k other n type (cases_lt (length (path_of way)) (length p))

          others : (p : List ℕ) (k : ℕ) (other : Member) (n : Named p k other) → (length (path_of way) < length p) ⊎ ((p ≡ path_of way) × (n.entry.of ≡ reached.type))
          others p k other n = (let c = cover p k other n in other_by p k other n c (behind p k other n c) (order first c.place))

          pub one_member : (place : ℕ) → StandsIn table it.of key (st.At place) → (m : Member) → IsMember table it.of place m → IsSelected table s name «package» way it.of m
          one_member place stands m member = record {
            type = reached.type;
            is = reached.is;
            passes = passes.0;
            place = place;
            selects = selects it.of reached.type reached.is (path_of way) leads.0 leads.1 no_blank place stands others m member;
          }
