-- Searches that wait for a definition.
use Rattle.std.proofs.Common.{◌≡◌, refl, sym, subst, ℕ, zero, suc, ◌<◌, List, [], ◌∷◌, Bool, false, ◌||◌, Option, Some, None, inl, inr, take, arith, length}
use Rattle.std.specs.Prelude.{slice_get}
use Rattle.std.proofs.lemmas.Option.{slice_get_within}
use Rattle.gno_embedding.specs.Embedding.{Embeds, Leads, IsKnown, here, along}
use Rattle.gno_embedding.specs.Reaching.{IsAmong, IsBlocked, IsChain, IsFrom, EndsUnknown}
use Rattle.gno_promotion.specs.declared.found.Search.{Search}
use Rattle.gno_promotion.specs.declared.found.Search.TheVariants as r
use Rattle.gno_promotion.specs.Searches.{IsSearch}
use Rattle.gno_terms.specs.declared.term.GoType.{GoType}
use Rattle.gno_terms.specs.declared.term.TypeRef.{TypeRef}
use Rattle.gno_terms.specs.Tables.{Table, Below, Is}
use Rattle.gno_type_table.specs.Kept.{Extends, awaited_by, last_in, reached_in}
use Rattle.gno_type_table.proofs.Found.{chain_up, found_up, one_type}
use Rattle.gno_type_table.proofs.Taking.{Stands, stands, Took, took, took_at}

-- the type at the end
abbrev pub IsEnd : Table → GoType → Option TypeRef → GoType → Type 0
IsEnd table s None u = u ≡ s
IsEnd table s (Some t) u = Is table t u

pub end_unknown : (table : Table) (s : GoType) (ts : List TypeRef) → EndsUnknown table s ts → (u : GoType) → IsEnd table s (last_in ts) u → IsKnown table u → ⊥
end_unknown table s [] e u h k = e (subst (IsKnown table) h k)
end_unknown table s (t ∷ []) e u h k = e u h k
end_unknown table s (t ∷ more ∷ ts) e u h k = end_unknown table s (more ∷ ts) e u h k

pub ends_unknown : (table : Table) (s : GoType) (ts : List TypeRef) → ((u : GoType) → IsEnd table s (last_in ts) u → IsKnown table u → ⊥) → EndsUnknown table s ts
ends_unknown table s [] f = λ k. f s refl k
ends_unknown table s (t ∷ []) f = λ u h k. f u h k
ends_unknown table s (t ∷ more ∷ ts) f = ends_unknown table s (more ∷ ts) f

pub search_chain : (table : Table) (s : GoType) (search : Search) → IsSearch table s search → IsChain table s (reached_in search)
search_chain table s (r.Blocked ts) h = h.chain
search_chain table s (r.Found ts ms) h = h.closed.chain

pub chain_below : (table : Table) (s : GoType) (ts : List TypeRef) → IsChain table s ts → (i : ℕ) (t : TypeRef) → slice_get ts i ≡ Some t → Below (length table.types) t
chain_below table s ts chain i t h =
    let f : IsFrom table s (take i ts) t = chain i t h in
    slice_get_within table.types t.0 f.type f.is

last_there : (ts : List TypeRef) (t : TypeRef) → last_in ts ≡ Some t → Stands ts t
last_there [] t e = absurd (none e)
  where
    none : None ≡ Some t → ⊥
    none e = cc
last_there (u ∷ []) t e = record { at = 0; is = e }
last_there (u ∷ more ∷ ts) t e = let s = last_there (more ∷ ts) t e in record { at = suc s.at; is = s.is }

-- the type that a search waits for stands in the table
pub awaited_below : (table : Table) (s : GoType) (search : Search) → IsSearch table s search → (t : TypeRef) → awaited_by search ≡ Some t → Below (length table.types) t
awaited_below table s (r.Blocked ts) h t e = let a = last_there ts t e in chain_below table s ts h.chain a.at t a.is
awaited_below table s (r.Found ts ms) h t e = absurd (none e)
  where
    none : None ≡ Some t → ⊥
    none e = cc

module _ (small big : Table) (extends : Extends small big) (s : GoType) where
  end_down : (ts : List TypeRef) → IsChain small s ts → (o : Option TypeRef) → last_in ts ≡ o → (u : GoType) → IsEnd big s o u → IsEnd small s o u
  end_down ts chain None e u h = h
  end_down ts chain (Some t) e u h =
      let a = last_there ts t e in
      let f : IsFrom small s (take a.at ts) t = chain a.at t a.is in
      subst (Is small t) (one_type big t f.type u (extends.grows t f.type f.is) h) f.is

  -- a search says the same in a later table, if it waits for nothing that the later one defines
  pub search_up : (search : Search) → IsSearch small s search → ((u : GoType) → IsEnd small s (awaited_by search) u → IsKnown big u → IsKnown small u) → IsSearch big s search
  search_up (r.Blocked ts) h f = record {
    chain = chain_up small big extends s ts h.chain;
    ends = ends_unknown big s ts (λ u e k.
        let d = end_down ts h.chain (last_in ts) refl u e in
        end_unknown small s ts h.ends u d (f u d k));
  }
  search_up (r.Found ts ms) h f = found_up small big extends s ts ms h

-- ---- a chain leads to each of its types

pub record LedTo (table : Table) (s u : GoType) : Type 0 where
  pub path : List ℕ
  pub followed : Bool
  pub leads : Leads table s path followed u

module _ (table : Table) (s : GoType) (ts : List TypeRef) (chain : IsChain table s ts) where
  led_on : (u : GoType) (place : ℕ) (pointer : Bool) (v : GoType) → LedTo table s u → Embeds table u place pointer v → LedTo table s v
  led_on u place pointer v l e = record { path = place ∷ l.path; followed = l.followed || pointer; leads = along place pointer v l.leads e }

  -- the types that the first of them are
  abbrev Before : ℕ → Type 0
  Before i = (j : ℕ) (t : TypeRef) (u : GoType) → j < i → slice_get ts j ≡ Some t → Is table t u → LedTo table s u

  led_taken : (i : ℕ) (u : GoType) → Before i → (t : TypeRef) (j : ℕ) → Took i ts j t → Is table t u → LedTo table s u
  led_taken i u before t j (took v h) is = before j t u v h is

  led_by : (i : ℕ) (u : GoType) → Before i → IsAmong table s (take i ts) u → LedTo table s u
  led_by i u before (inl e) = subst (LedTo table s) (sym e) (record { path = []; followed = false; leads = here })
  led_by i u before (inr h) =
      let a : Stands (take i ts) h.0 = stands (take i ts) h.0 h.1 in
      led_taken i u before h.0 a.at (took_at i ts a.at h.0 a.is) h.2

  led_at : (i : ℕ) (t : TypeRef) (u : GoType) → Before i → slice_get ts i ≡ Some t → Is table t u → LedTo table s u
  led_at i t u before h is =
      let f : IsFrom table s (take i ts) t = chain i t h in
      let l = led_by i f.by before f.among in
      subst (LedTo table s) (one_type table t f.type u f.is is) (led_on f.by f.place f.pointer f.type l f.embeds)

  led_to : (fuel : ℕ) → Before fuel
  led_to zero j t u w h is = absurd (omega (arith, w))
  led_to (suc fuel) j t u w h is = led_at j t u (λ k v x w-2 g is-2. led_to fuel k v x (omega (arith, w, w-2)) g is-2) h is

  end_led : (o : Option TypeRef) → last_in ts ≡ o → (u : GoType) → IsEnd table s o u → LedTo table s u
  end_led None e u h = subst (LedTo table s) (sym h) (record { path = []; followed = false; leads = here })
  end_led (Some t) e u h = let a = last_there ts t e in led_to (suc a.at) a.at t u (omega arith) a.is h

  an_end : (o : Option TypeRef) → last_in ts ≡ o → (u : GoType) × IsEnd table s o u
  an_end None e = (s, refl)
  an_end (Some t) e =
      let a = last_there ts t e in
      let f : IsFrom table s (take a.at ts) t = chain a.at t a.is in
      (f.type, f.is)

-- a type whose search waits leads to a type that is not known
pub incomplete : (table : Table) (s : GoType) (ts : List TypeRef) → IsBlocked table s ts → ((path : List ℕ) (followed : Bool) (u : GoType) → Leads table s path followed u → IsKnown table u) → ⊥
incomplete table s ts blocked complete =
    let a = an_end table s ts blocked.chain (last_in ts) refl in
    let l = end_led table s ts blocked.chain (last_in ts) refl a.0 a.1 in
    end_unknown table s ts blocked.ends a.0 a.1 (complete l.path l.followed a.0 l.leads)
