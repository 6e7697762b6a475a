-- Where each type that embedded fields lead to is defined, a walk over them is not blocked.
use Rattle.std.proofs.Common.{◌≡◌, refl, sym, ◌∙◌, subst, ℕ, zero, suc, ◌<◌, List, [], ◌∷◌, Bool, false, ◌||◌, Some, take, arith, inl, inr}
use Rattle.std.specs.Prelude.{slice_get}
use Rattle.std.proofs.lemmas.Option.{same_Some}
use Rattle.gno_embedding.specs.Embedding.{Embeds, IsComplete, IsKnown, Leads, along, here}
use Rattle.gno_embedding.specs.Reaching.{EndsUnknown, IsAmong, IsBlocked, IsChain, IsFrom}
use Rattle.gno_terms.specs.declared.term.GoType.{GoType}
use Rattle.gno_terms.specs.declared.term.TypeRef.{TypeRef}
use Rattle.gno_terms.specs.Tables.{Table, Is}
use Rattle.gno_selectors.proofs.Lists.{in_take}

record LedTo (table : Table) (s u : GoType) : Type 0 where
  pub path : List ℕ
  pub followed : Bool
  pub leads : Leads table s path followed u

module _ (table : Table) (s : GoType) (ts : List TypeRef) (chain : IsChain table s ts) where
  led_on : (u : GoType) (place : ℕ) (pointer : Bool) (v : GoType) → LedTo table s u → Embeds table u place pointer v → LedTo table s v
  led_on u place pointer v l e = record { path = place ∷ l.path; followed = l.followed || pointer; leads = along place pointer v l.leads e }

  led_by : (i : ℕ) (u : GoType) → ((j : ℕ) (t : TypeRef) (v : GoType) → j < i → slice_get ts j ≡ Some t → Is table t v → LedTo table s v) → IsAmong table s (take i ts) u → LedTo table s u
  led_by i u before (inl e) = subst (LedTo table s) (sym e) (record { path = []; followed = false; leads = here })
  led_by i u before (inr h) = (let r = in_take i ts h.0 h.1 in before r.0 h.0 u r.1 r.2 h.2)

  led : (fuel j : ℕ) (t : TypeRef) (u : GoType) → j < fuel → slice_get ts j ≡ Some t → Is table t u → LedTo table s u
  led zero j t u w h is = absurd (omega (arith, w))
  led (suc fuel) j t u w h is =
      let f : IsFrom table s (take j ts) t = chain j t h in
      let before = led_by j f.by (λ i a v l g of. led fuel i a v (omega (arith, w, l)) g of) f.among in
      subst (LedTo table s) (same_Some f.type u (sym f.is ∙ is)) (led_on f.by f.place f.pointer f.type before f.embeds)

  not_all_known : (us : List TypeRef) → EndsUnknown table s us → ((j : ℕ) (t : TypeRef) → slice_get us j ≡ Some t → (u : GoType) × Is table t u × IsKnown table u) → IsKnown table s → ⊥
  not_all_known [] ends known own = ends own
  not_all_known (t ∷ []) ends known own = (let u = known 0 t refl in ends u.0 u.1 u.2)
  not_all_known (t ∷ more ∷ us) ends known own = not_all_known (more ∷ us) ends (λ j a h. known (suc j) a h) own

  known_at : IsComplete table s → (j : ℕ) (t : TypeRef) → slice_get ts j ≡ Some t → (u : GoType) × Is table t u × IsKnown table u
  known_at complete j t h =
      let f : IsFrom table s (take j ts) t = chain j t h in
      let l = led (suc j) j t f.type (omega arith) h f.is in
      (f.type, f.is, complete l.path l.followed f.type l.leads)

pub not_blocked : (table : Table) (s : GoType) (ts : List TypeRef) → IsBlocked table s ts → IsComplete table s → ⊥
not_blocked table s ts blocked complete = not_all_known table s ts blocked.chain ts blocked.ends (known_at table s ts blocked.chain complete) (complete [] false s here)
