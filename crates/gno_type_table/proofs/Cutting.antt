-- Searches that are cut back to what is defined.
use Rattle.std.proofs.Common.{◌≡◌, sym, ap, ◌∙◌, subst, ℕ, ◌+◌, ◌<◌, List, length, take, Some, arith}
use Rattle.std.specs.Prelude.{slice_get, slice_set}
use Rattle.std.proofs.lemmas.Option.{slice_get_within}
use Rattle.gno_embedding.specs.Embedding.{IsKnown}
use Rattle.gno_layouts.proofs.SetAt.{set_here, set_elsewhere, Same, here, elsewhere, where_is, before}
use Rattle.gno_promotion.specs.declared.found.Search.{Search}
use Rattle.gno_promotion.specs.declared.found.Search.TheVariants as r
use Rattle.gno_promotion.specs.Searches.{IsSearch}
use Rattle.gno_terms.specs.declared.term.DefinitionOf.{DefinitionOf}
use Rattle.gno_terms.specs.declared.term.GoType.{GoType}
use Rattle.gno_terms.specs.declared.term.TermOf.{TermOf}
use Rattle.gno_terms.specs.declared.term.TermOf.TheVariants as t
use Rattle.gno_terms.specs.declared.term.TypeRef.{TypeRef}
use Rattle.gno_terms.specs.Tables.{Table, Below, Defines, Is, UnderlyingBy, deep, type_at}
use Rattle.gno_terms.specs.Terms.{term_with}
use Rattle.gno_type_rows.proofs.Pushed.{at_it, term_of_type}
use Rattle.gno_type_table.specs.Kept.{IsAt, IsFirstUnknown, KnownBefore, Was, awaited_by, reached_in}
use Rattle.gno_type_table.proofs.Blocked.{awaited_below, chain_below, search_chain}
use Rattle.gno_type_table.proofs.Loss.{cut_search, kept_search}

pub known_next : (table : Table) (ts : List TypeRef) (k : ℕ) (v : TypeRef) → slice_get ts k ≡ Some v → KnownBefore table ts k → ((u : GoType) → Is table v u → IsKnown table u) → KnownBefore table ts (k + 1)
known_next table ts k v there known own j w u below h is = by (where_is j k)
  where
    unwrapped : {a b : TypeRef} → Some a ≡ Some b → a ≡ b
    unwrapped e = cc

    by : Same j k → IsKnown table u
    by (here e) = own u (subst (λ x. Is table x u) (unwrapped (sym h ∙ ap (slice_get ts) e ∙ there)) is)
    by (elsewhere f) = known j w u (before j k below f) h is

-- the type of a number whose search waits for nothing it does not have
pub at_below : (table : Table) (own : TypeRef) (search : Search) → Below (length table.types) own → IsAt table own.0 search → (t : TypeRef) → awaited_by search ≡ Some t → Below (length table.types) t
at_below table own search below at t e = awaited_below table (type_at table.types own) search (at (type_at table.types own) (at_it table.types own below)) t e

module _ (table : Table) (own : TypeRef) (search : Search) (was : Was table own.0 search) where
  was_at : (s : GoType) → Is table own s → IsSearch was.then s search
  was_at s is = was.at s (subst (λ l. slice_get l own.0 ≡ Some s) (sym was.types) is)

  pub was_below : Below (length table.types) own → (i : ℕ) (t : TypeRef) → slice_get (reached_in search) i ≡ Some t → Below (length table.types) t
  was_below below i t h =
      let s : GoType = type_at table.types own in
      subst (λ l. Below (length l) t) was.types (chain_below was.then s (reached_in search) (search_chain was.then s search (was_at s (at_it table.types own below))) i t h)

  pub cut_first : ((s : GoType) → Is table own s → IsKnown table s) → (ts : List TypeRef) → ts ≡ reached_in search → (place : ℕ) → IsFirstUnknown table ts place → IsAt table own.0 (r.Blocked (take (place + 1) (reached_in search)))
  cut_first known ts e place first s is =
      let f : IsFirstUnknown table (reached_in search) place = subst (λ l. IsFirstUnknown table l place) e first in
      cut_search table was.then was.types was.extends s (known s is) search (was_at s is) place (place + 1) f.type f.at f.unknown (λ j v u w h i. f.before j v u w h i) (omega arith)

  pub cut_none : ((s : GoType) → Is table own s → IsKnown table s) → (ts : List TypeRef) → ts ≡ reached_in search → KnownBefore table ts (length ts) → IsAt table own.0 search
  cut_none known ts e all s is =
      let f : KnownBefore table (reached_in search) (length (reached_in search)) = subst (λ l. KnownBefore table l (length l)) e all in
      kept_search table was.then was.types was.extends s (known s is) search (was_at s is) (λ j v u h i. f j v u (within j v h) h i)
    where
      within : (j : ℕ) (v : TypeRef) → slice_get (reached_in search) j ≡ Some v → j < length (reached_in search)
      within j v h = slice_get_within (reached_in search) j v h

-- a type that was not met is not defined
pub new_unknown : (table : Table) (x : TermOf TypeRef) (path name : List ℕ) (local : ℕ) → x ≡ t.Defined path name local → ((d : DefinitionOf GoType) → Defines table d → (a : TypeRef) × Is table a d.of)
    → ((a : TypeRef) → Is table a (deep table.types x) → ⊥) → IsKnown table (deep table.types x) → ⊥
new_unknown table x path name local e met new k =
    let s : GoType = deep table.types x in
    let told : UnderlyingBy table s k.0 (t.Defined path name local) = subst (UnderlyingBy table s k.0) (term_of_type (term_with (type_at table.types) x) ∙ ap (term_with (type_at table.types)) e) k.1 in
    let m = met told.0 told.1 in
    new m.0 (m.1 ∙ ap Some told.2)

-- ---- flags

pub flag_rises : {A : Type 0} (x : A) (xs : List A) (i k : ℕ) → i < length xs → slice_get xs k ≡ Some x → slice_get (slice_set xs i x) k ≡ Some x
flag_rises {A} x xs i k w h = by (where_is k i)
  where
    by : Same k i → slice_get (slice_set xs i x) k ≡ Some x
    by (here e) = ap (slice_get (slice_set xs i x)) e ∙ set_here xs i x w
    by (elsewhere f) = set_elsewhere xs i x k f ∙ h
