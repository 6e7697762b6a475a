-- The keys that changes bring into a table: taking them out again, and the room that they make.
use Rattle.std.proofs.Common.{◌≡◌, ℕ, ◌<◌, ◌+◌, drop, length, slice_index_or, ◌||◌, List, [], ◌∷◌, ap, ◌∙◌, refl, sym}
use Rattle.std.specs.Prelude.{Option, Some, None, Bool, true, false, cond, ◌&&◌, is_some, is_none, IsSome, ⊤, map}
use Rattle.std.specs.Str.{bytes_eq}
use Rattle.std.specs.List.{AllByRecursion, list_any}
use Rattle.std.specs.List.Sorted.{IsStrictlySortedBy}
use Rattle.std.specs.Ordering.{nat_cmp, is_eq}
use Rattle.std.specs.Cmp.Lexicographic.{slice_cmp, bytes_decides, nat_list_cmp_total}
use Rattle.std.specs.Cmp.{eq_by_cmp_equiv}
use Rattle.std.specs.declared.cmp.Ordering.TheVariants.{Less}
use Rattle.std.specs.FinMap.{get}
use Rattle.std.proofs.lemmas.Bool.{false≢true, true≢false, or_parts, cases_Bool}
use Rattle.std.proofs.lemmas.List.{drop_more}
use Rattle.std.proofs.lemmas.List.Folds.{list_any_at}
use Rattle.std.proofs.lemmas.Map.Text.{is_eq-slice_cmp}
use mathlib.Core.Logic.{⊎_elim}
use mathlib.Core.Path.{subst}
use Rattle.gno_port.specs.declared.keeper.Change.{Change}
use Rattle.gno_port.specs.Tables.{Table, put, applied, latest, IsRising}
use Rattle.gno_port.specs.Rows.{fresh_keys, removals, blanks, HasRoom}
use Rattle.gno_port.proofs.TableLemmas.{get-applied, get-put, tables_agree, has_key, latest-other, applied-same}

abbrev Value : Type 0
Value = Option (List ℕ)

gone_at : (q k : List ℕ) (t : Table) (b : Bool) → (b ≡ true → q ≡ k) → get t k ≡ None → cond b None (get t q) ≡ get t q
gone_at q k t true same e = sym (ap (get t) (same refl) ∙ e)
gone_at q k t false same e = refl

absent : (v : Value) (x : Value) → (is_some v && is_none x) ≡ true → x ≡ None
absent None x h = absurd (false≢true h)
absent (Some v) None h = refl
absent (Some v) (Some x) h = absurd (false≢true h)

nothing_at : (t : Table) (cs : List Change) (q : List ℕ) → latest (removals (fresh_keys t cs)) q (get t q) ≡ get t q
nothing_at t [] q = refl
nothing_at t (c ∷ cs) q =
    elim (is_some c.value && is_none (get t c.key)) as (λ b. (is_some c.value && is_none (get t c.key)) ≡ b → latest (removals (cond b (c.key ∷ fresh_keys t cs) (fresh_keys t cs))) q (get t q) ≡ get t q) [
      | true ↦ λ e. ap (latest (removals (fresh_keys t cs)) q) (gone_at q c.key t (bytes_eq q c.key) (bytes_decides q c.key).0 (absent c.value (get t c.key) e)) ∙ nothing_at t cs q
      | false ↦ λ e. nothing_at t cs q
    ] refl

-- to take fresh keys out of the table that lacks them changes nothing
pub fresh_removed : (t : Table) (cs : List Change) → applied (removals (fresh_keys t cs)) t ≡ t
fresh_removed t cs = tables_agree _ _ (λ q. get-applied (removals (fresh_keys t cs)) t q ∙ nothing_at t cs q)

fresh_within : (t : Table) (cs : List Change) (q : List ℕ) (x : Value) → has_key cs q ≡ false → latest (blanks (fresh_keys t cs)) q x ≡ x
fresh_within t [] q x h = refl
fresh_within t (c ∷ cs) q x h =
    let p = or_parts (bytes_eq q c.key) (has_key cs q) h in
    elim (is_some c.value && is_none (get t c.key)) as (λ b. latest (blanks (cond b (c.key ∷ fresh_keys t cs) (fresh_keys t cs))) q x ≡ x) [
      | true ↦ ap (λ b. latest (blanks (fresh_keys t cs)) q (cond b (Some []) x)) p.0 ∙ fresh_within t cs q x p.1
      | false ↦ fresh_within t cs q x p.1
    ]

-- after the changes it doesn't matter that the fresh keys came in before
pub fresh_applied : (t : Table) (cs : List Change) → applied cs (applied (blanks (fresh_keys t cs)) t) ≡ applied cs t
fresh_applied t cs = applied-same cs _ t (λ q n. get-applied (blanks (fresh_keys t cs)) t q ∙ fresh_within t cs q (get t q) n)

-- each change that gives a value finds its key
Present : List Change → Table → Type 0
Present [] t = ⊤
Present (c ∷ cs) t = (IsSome c.value → IsSome (get t c.key)) × Present cs t

stays_some : (ks : List (List ℕ)) (q : List ℕ) (x : Value) → IsSome x → IsSome (latest (blanks ks) q x)
stays_some [] q x h = h
stays_some (k ∷ ks) q x h = stays_some ks q (cond (bytes_eq q k) (Some []) x) (elim (bytes_eq q k) as (λ b. IsSome (cond b (Some []) x)) [ true ↦ refl | false ↦ h ])

same_bytes : (q : List ℕ) → bytes_eq q q ≡ true
same_bytes q = (bytes_decides q q).1 refl

Reached : List (List ℕ) → List Change → Table → Type 0
Reached ks [] t = ⊤
Reached ks (c ∷ cs) t = (IsSome c.value → IsSome (latest (blanks ks) c.key (get t c.key))) × Reached ks cs t

one_more : (k : List ℕ) (ks : List (List ℕ)) (cs : List Change) (t : Table) → Reached ks cs t → Reached (k ∷ ks) cs t
unfolding Reached
one_more k ks [] t r = tt
one_more k ks (c ∷ cs) t r = (
  λ s. elim (bytes_eq c.key k) as (λ b. IsSome (latest (blanks ks) c.key (cond b (Some []) (get t c.key)))) [ true ↦ stays_some ks c.key (Some []) refl | false ↦ r.0 s ],
  one_more k ks cs t r.1,
)

was_there : (v x : Value) → is_some v ≡ true → (is_some v && is_none x) ≡ false → IsSome x
was_there None x s e = absurd (false≢true s)
was_there (Some v) None s e = absurd (true≢false e)
was_there (Some v) (Some x) s e = refl

reached : (t : Table) (cs : List Change) → Reached (fresh_keys t cs) cs t
unfolding Reached
reached t [] = tt
reached t (c ∷ cs) =
    elim (is_some c.value && is_none (get t c.key)) as (λ b. (is_some c.value && is_none (get t c.key)) ≡ b → Reached (cond b (c.key ∷ fresh_keys t cs) (fresh_keys t cs)) (c ∷ cs) t) [
      | true ↦ λ e. (λ s. subst (λ b. IsSome (latest (blanks (fresh_keys t cs)) c.key (cond b (Some []) (get t c.key)))) (sym (same_bytes c.key)) (stays_some (fresh_keys t cs) c.key (Some []) refl), one_more c.key (fresh_keys t cs) cs t (reached t cs))
      | false ↦ λ e. (λ s. stays_some (fresh_keys t cs) c.key (get t c.key) (was_there c.value (get t c.key) s e), reached t cs)
    ] refl

present : (ks : List (List ℕ)) (cs : List Change) (t : Table) → Reached ks cs t → Present cs (applied (blanks ks) t)
unfolding Reached Present
present ks [] t r = tt
present ks (c ∷ cs) t r = (λ s. subst IsSome (sym (get-applied (blanks ks) t c.key)) (r.0 s), present ks cs t r.1)

kept : (cs : List Change) (t : Table) (k : List ℕ) (v : Value) → AllByRecursion (λ y. slice_cmp nat_cmp k y ≡ Less) (map (λ c. c.key) cs) → Present cs t → Present cs (put t k v)
unfolding Present
kept [] t k v below p = tt
kept (c ∷ cs) t k v below p = (
  λ s. subst IsSome (sym (get-put t k v c.key ∙ ap (λ b. cond b v (get t c.key)) ((eq_by_cmp_equiv nat_list_cmp_total).symm c.key k ∙ ap is_eq below.0))) (p.0 s),
  kept cs t k v below.1 p.1,
)

has_room : (cs : List Change) (t : Table) → IsRising cs → Present cs t → HasRoom cs t
unfolding Present IsStrictlySortedBy
has_room [] t rising p = tt
has_room (c ∷ cs) t rising p = (p.0, has_room cs (put t c.key c.value) rising.1 (kept cs t c.key c.value rising.0 p.1))

-- once the fresh keys are in the table, each change that gives a value finds its key
pub fresh_room : (t : Table) (cs : List Change) → IsRising cs → HasRoom cs (applied (blanks (fresh_keys t cs)) t)
fresh_room t cs rising = has_room cs _ rising (present (fresh_keys t cs) cs t (reached t cs))

-- one more of the keys came in
pub added_left : (keys : List (List ℕ)) (i : ℕ) (k : List ℕ) (t new : Table) → i < length keys → k ≡ slice_index_or keys i k → new ≡ put t k (Some [])
    → applied (blanks (drop (i + 1) keys)) new ≡ applied (blanks (drop i keys)) t
added_left keys i k t new l e n = ap (applied (blanks (drop (i + 1) keys))) n ∙ ap (λ ks. applied (blanks ks) t) (sym (drop_more keys i k l ∙ ap (λ x. x ∷ drop (i + 1) keys) (sym e)))

any_removed : (keys : List (List ℕ)) (k : List ℕ) → has_key (removals keys) k ≡ list_any (bytes_eq k) keys
any_removed [] k = refl
any_removed (x ∷ xs) k = ap (λ t. bytes_eq k x || t) (any_removed xs k)

listed : (keys : List (List ℕ)) (i : ℕ) (k : List ℕ) → i < length keys → k ≡ slice_index_or keys i k → has_key (removals keys) k ≡ true
listed keys i k l e = any_removed keys k ∙ list_any_at (bytes_eq k) keys i k l (subst (λ x. bytes_eq k x ≡ true) e (same_bytes k))

pub added_others : (keys : List (List ℕ)) (i : ℕ) (k : List ℕ) (t new : Table) → i < length keys → k ≡ slice_index_or keys i k → new ≡ put t k (Some [])
    → applied (removals keys) new ≡ applied (removals keys) t
added_others keys i k t new l e n = ap (applied (removals keys)) n ∙ applied-same (removals keys) (put t k (Some [])) t (λ q none.
    get-put t k (Some []) q ∙ ap (λ b. cond b (Some []) (get t q)) (is_eq-slice_cmp q k) ∙ elim (bytes_eq q k) as (λ b. bytes_eq q k ≡ b → cond b (Some []) (get t q) ≡ get t q) [
      | true ↦ λ y. absurd (true≢false (sym (subst (λ x. has_key (removals keys) x ≡ true) (sym ((bytes_decides q k).0 y)) (listed keys i k l e)) ∙ none))
      | false ↦ λ _. refl
    ] refl)
