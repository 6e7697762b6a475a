-- What was found in a closed set of types is found in a later table.
use Rattle.std.proofs.Common.{◌≡◌, refl, sym, ap, ◌∙◌, subst, ℕ, List, [], ◌∷◌, Bool, ◌||◌, map, length, inl, inr, take}
use Rattle.std.proofs.lemmas.Option.{slice_get_within}
use Rattle.gno_embedding.specs.Embedding.{Embeds, Leads, here, along}
use Rattle.gno_embedding.specs.Reaching.{In, IsAmong, IsChain, IsClosed, IsFrom}
use Rattle.gno_promotion.specs.MethodSets.{AreSelected, IsEntry, IsPromoted, Member}
use Rattle.gno_promotion.specs.Searches.{IsFound, promoted_with}
use Rattle.gno_promotion.specs.declared.found.PromotedOf.{PromotedOf}
use Rattle.gno_terms.specs.declared.term.GoType.{GoType}
use Rattle.gno_terms.specs.declared.term.MethodOf.{MethodOf}
use Rattle.gno_terms.specs.declared.term.TypeRef.{TypeRef}
use Rattle.gno_terms.specs.Lawful.{Each}
use Rattle.gno_terms.specs.Tables.{Table, Below, Is, type_at, type_or}
use Rattle.gno_terms.proofs.Parts.{Each-weaken}
use Rattle.gno_type_rows.proofs.Pushed.{at_it}
use Rattle.gno_type_table.specs.Kept.{Extends}
use Rattle.gno_type_table.proofs.Growth.{known, embeds_up, embeds_down, members_up, members_down}
use Rattle.gno_type_table.proofs.Taking.{Stands, stands}

pub one_type : (table : Table) (r : TypeRef) (s u : GoType) → Is table r s → Is table r u → s ≡ u
one_type table r s u h k = ap type_or (sym h ∙ k)

-- a type of a chain stands in the table
pub chain_is : (table : Table) (s : GoType) (ts : List TypeRef) → IsChain table s ts → (r : TypeRef) → In r ts → (type : GoType) × Is table r type
chain_is table s ts chain r h =
    let a : Stands ts r = stands ts r h in
    let f : IsFrom table s (take a.at ts) r = chain a.at r a.is in
    (f.type, f.is)

module _ (small big : Table) (extends : Extends small big) (s : GoType) where
  pub among_up : (ts : List TypeRef) (u : GoType) → IsAmong small s ts u → IsAmong big s ts u
  among_up ts u (inl e) = inl e
  among_up ts u (inr h) = inr (h.0, h.1, extends.grows h.0 u h.2)

  pub among_down : (ts : List TypeRef) (u : GoType) → IsChain small s ts → IsAmong big s ts u → IsAmong small s ts u
  among_down ts u chain (inl e) = inl e
  among_down ts u chain (inr h) =
      let k = chain_is small s ts chain h.0 h.1 in
      inr (h.0, h.1, subst (Is small h.0) (one_type big h.0 k.0 u (extends.grows h.0 k.0 k.1) h.2) k.1)

  pub chain_up : (ts : List TypeRef) → IsChain small s ts → IsChain big s ts
  chain_up ts chain i r h =
      let f : IsFrom small s (take i ts) r = chain i r h in
      record {
        by = f.by;
        among = among_up (take i ts) f.by f.among;
        place = f.place;
        pointer = f.pointer;
        type = f.type;
        embeds = embeds_up small big extends f.by f.place f.pointer f.type f.embeds;
        is = extends.grows r f.type f.is;
      }

  -- ---- a closed set of the earlier table
  module _ (ts : List TypeRef) (closed : IsClosed small s ts) where
    pub closed_up : IsClosed big s ts
    closed_up = record {
      chain = chain_up ts closed.chain;
      known = λ u h. known small big extends u (closed.known u (among_down ts u closed.chain h));
      closed = λ u place pointer v h e.
          let a : IsAmong small s ts u = among_down ts u closed.chain h in
          among_up ts v (closed.closed u place pointer v a (embeds_down small big extends u place pointer v (closed.known u a) e));
    }

    leads_up : {path : List ℕ} {followed : Bool} {u : GoType} → Leads small s path followed u → Leads big s path followed u
    leads_up here = here
    leads_up (along {path} {followed} {u} place pointer v l e) = along place pointer v (leads_up l) (embeds_up small big extends u place pointer v e)

    abbrev Led : List ℕ → Bool → GoType → Type 0
    Led path followed u = Leads small s path followed u × IsAmong small s ts u

    go_on : {path : List ℕ} {followed : Bool} {u : GoType} (place : ℕ) (pointer : Bool) (v : GoType) → Led path followed u → Embeds big u place pointer v → Leads small s (place ∷ path) (followed || pointer) v × IsAmong small s ts v
    go_on {path} {followed} {u} place pointer v l e =
        let d = embeds_down small big extends u place pointer v (closed.known u l.1) e in
        (along place pointer v l.0 d, closed.closed u place pointer v l.1 d)

    leads_down : {path : List ℕ} {followed : Bool} {u : GoType} → Leads big s path followed u → Leads small s path followed u × IsAmong small s ts u
    leads_down here = (here, inl refl)
    leads_down (along place pointer v l e) = go_on place pointer v (leads_down l) e

    entry_up : (path : List ℕ) (followed : Bool) (place : ℕ) (member : Member) → IsEntry small s path followed place member → IsEntry big s path followed place member
    entry_up path followed place member e = record {
      of = e.of;
      leads = leads_up e.leads;
      members = e.members;
      has = members_up small big extends e.of e.members e.has;
      at = e.at;
    }

    entry_down : (path : List ℕ) (followed : Bool) (place : ℕ) (member : Member) → IsEntry big s path followed place member → IsEntry small s path followed place member
    entry_down path followed place member e =
        let l = leads_down e.leads in
        record {
          of = e.of;
          leads = l.0;
          members = e.members;
          has = members_down small big extends e.of e.members (closed.known e.of l.1) e.has;
          at = e.at;
        }

    promoted_up : (m : MethodOf GoType) (followed : Bool) → IsPromoted small s m followed → IsPromoted big s m followed
    promoted_up m followed p = record {
      path = p.path;
      place = p.place;
      entry = entry_up _ _ _ _ p.entry;
      least = λ path f place other e. p.least path f place other (entry_down path f place other e);
      named = p.named;
    }

    promoted_down : (m : MethodOf GoType) (followed : Bool) → IsPromoted big s m followed → IsPromoted small s m followed
    promoted_down m followed p = record {
      path = p.path;
      place = p.place;
      entry = entry_down _ _ _ _ p.entry;
      least = λ path f place other e. p.least path f place other (entry_up path f place other e);
      named = p.named;
    }

    pub selected_up : (ps : List (PromotedOf GoType)) → AreSelected small s ps → AreSelected big s ps
    selected_up ps a = record {
      sound = Each-weaken _ _ (λ p. promoted_up p.method p.followed) ps a.sound;
      all = λ m followed p. a.all m followed (promoted_down m followed p);
      order = a.order;
    }

    pub selected_down : (ps : List (PromotedOf GoType)) → AreSelected big s ps → AreSelected small s ps
    selected_down ps a = record {
      sound = Each-weaken _ _ (λ p. promoted_down p.method p.followed) ps a.sound;
      all = λ m followed p. a.all m followed (promoted_up m followed p);
      order = a.order;
    }

  -- ---- the methods by their numbers

  type_grows : (r : TypeRef) → Below (length small.types) r → type_at small.types r ≡ type_at big.types r
  type_grows r h = sym (ap type_or (extends.grows r _ (at_it small.types r h)))

  below_grows : (r : TypeRef) → Below (length small.types) r → Below (length big.types) r
  below_grows r h = slice_get_within big.types r.0 _ (extends.grows r _ (at_it small.types r h))

  abbrev AllBelow : Table → List (PromotedOf TypeRef) → Type 0
  AllBelow table ps = Each (λ p. Below (length table.types) p.method.of) ps

  methods_grow : (ps : List (PromotedOf TypeRef)) → AllBelow small ps → map (promoted_with (type_at small.types)) ps ≡ map (promoted_with (type_at big.types)) ps
  methods_grow [] b = refl
  methods_grow (p ∷ ps) b =
      let e = type_grows p.method.of b.0 in
      let rest = methods_grow ps b.1 in
      λ i. record { method = record { name = p.method.name; «package» = p.method.«package»; of = e i; pointer = p.method.pointer }; followed = p.followed } ∷ rest i

  pub found_up : (ts : List TypeRef) (ps : List (PromotedOf TypeRef)) → IsFound small s ts ps → IsFound big s ts ps
  found_up ts ps f = record {
    closed = closed_up ts f.closed;
    selected = subst (AreSelected big s) (methods_grow ps f.below) (selected_up ts f.closed (map (promoted_with (type_at small.types)) ps) f.selected);
    below = Each-weaken _ _ (λ p h. below_grows p.method.of h) ps f.below;
  }
