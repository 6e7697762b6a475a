-- A search that is put in the place of another.
use Rattle.std.proofs.Common.{◌≡◌, refl, sym, ap, ◌∙◌, subst, ℕ, ◌+◌, ◌<◌, ◌≤◌, List, [], ◌∷◌, ◌++◌, length, Some, None, Ok, Err, Bool, true, false, inl, inr, arith, rules}
use Rattle.std.specs.Prelude.{slice_get, slice_set, OnErr, OnOk}
use Rattle.std.specs.declared.result.Result.{Result}
use Rattle.std.proofs.lemmas.Option.{slice_get_within}
use Rattle.gno_layouts.proofs.Ends.{Where, inside, last, get_where}
use Rattle.gno_layouts.proofs.Restarted.{next_left}
use Rattle.gno_layouts.proofs.SetAt.{set_size, set_here, set_elsewhere, Same, here, elsewhere, where_is, before}
use Rattle.gno_promotion.specs.declared.found.Search.{Search}
use Rattle.gno_promotion.specs.declared.found.Search.TheVariants.{Blocked}
use Rattle.gno_terms.specs.declared.term.DefinitionOf.{DefinitionOf}
use Rattle.gno_terms.specs.declared.term.GoType.{GoType}
use Rattle.gno_terms.specs.declared.term.TypeRef.{TypeRef}
use Rattle.gno_terms.specs.Tables.{Table, Defines}
use Rattle.gno_type_table.specs.Kept.{AreKept, IsAt, IsFlagged, IsPut, IsSearched, MayWait, StayPast, WaitsFrom, Was, awaited_by}

unwrapped : {A : Type 0} {a b : A} → Some a ≡ Some b → a ≡ b
unwrapped e = search (rules, e)

pub kept_map : (P Q : ℕ → Search → Type 0) (count : ℕ) (searches : List Search) (awaited : List Bool) → AreKept P count searches awaited
    → ((n : ℕ) (x : Search) → slice_get searches n ≡ Some x → P n x → Q n x) → AreKept Q count searches awaited
kept_map P Q count searches awaited kept f = record {
  size = kept.size;
  flags = kept.flags;
  each = λ n x h. f n x h (kept.each n x h);
  waits = kept.waits;
}

pub kept_at : (P : ℕ → Search → Type 0) (count : ℕ) {searches later : List Search} {awaited flags : List Bool} → later ≡ searches → flags ≡ awaited → AreKept P count searches awaited → AreKept P count later flags
kept_at P count {searches} {later} {awaited} {flags} e f kept = subst (λ l. AreKept P count l flags) (sym e) (subst (AreKept P count searches) (sym f) kept)

module _ (P Q : ℕ → Search → Type 0) (count number : ℕ) (search : Search) (searches later : List Search) (awaited flags : List Bool) (kept : AreKept P count searches awaited) (put : IsPut number search searches later awaited flags)
    (others : (n : ℕ) (x : Search) → (n ≡ number → ⊥) → P n x → Q n x) (new : Q number search) where
  size_is : length later ≡ length searches
  size_is = ap length put.put ∙ set_size searches number search

  in_set : (n : ℕ) (x : Search) → slice_get later n ≡ Some x → slice_get (slice_set searches number search) n ≡ Some x
  in_set n x h = subst (λ l. slice_get l n ≡ Some x) put.put h

  same_here : (n : ℕ) (x : Search) → slice_get later n ≡ Some x → n ≡ number → search ≡ x
  same_here n x h e =
      let w = slice_get_within later n x h in
      unwrapped (sym (set_here searches number search (omega (arith, w, e, size_is))) ∙ ap (slice_get (slice_set searches number search)) (sym e) ∙ in_set n x h)

  still : (n : ℕ) (x : Search) → slice_get later n ≡ Some x → (n ≡ number → ⊥) → slice_get searches n ≡ Some x
  still n x h f = sym (set_elsewhere searches number search n f) ∙ in_set n x h

  each_by : (n : ℕ) (x : Search) → slice_get later n ≡ Some x → Same n number → Q n x
  each_by n x h (here e) = subst (Q n) (same_here n x h e) (subst (λ k. Q k search) (sym e) new)
  each_by n x h (elsewhere f) = others n x f (kept.each n x (still n x h f))

  waits_by : (n : ℕ) (x : Search) → slice_get later n ≡ Some x → Same n number → IsFlagged x flags
  waits_by n x h (here e) = subst (λ y. IsFlagged y flags) (same_here n x h e) put.flagged
  waits_by n x h (elsewhere f) = λ t e. put.rise t.0 (kept.waits n x (still n x h f) t e)

  pub kept_put : AreKept Q count later flags
  kept_put = record {
    size = size_is ∙ kept.size;
    flags = put.size ∙ kept.flags;
    each = λ n x h. each_by n x h (where_is n number);
    waits = λ n x h. waits_by n x h (where_is n number);
  }

-- ---- past tables

pub was_now : (table : Table) → ((d e : DefinitionOf GoType) → Defines table d → Defines table e → d.of ≡ e.of → d ≡ e) → (n : ℕ) (x : Search) → IsAt table n x → Was table n x
was_now table once n x at = record {
  then = table;
  types = refl;
  extends = record { grows = λ r s h. h; stands = λ d h. h; once = once };
  at = at;
}

module _ (table : Table) where
  pub past_same : {searches later : List Search} {awaited flags : List Bool} → later ≡ searches → flags ≡ awaited → StayPast table searches later awaited flags
  past_same e f past types extends kept = kept_at (Was past) (length past.types) e f kept

  pub past_on : (searches later final : List Search) (awaited flags ends : List Bool) → StayPast table searches later awaited flags → StayPast table later final flags ends → StayPast table searches final awaited ends
  past_on searches later final awaited flags ends a b past types extends kept = b past types extends (a past types extends kept)

  pub past_searched : (number : ℕ) (searches later : List Search) (awaited flags : List Bool) → IsSearched table number searches later awaited flags → StayPast table searches later awaited flags
  past_searched number searches later awaited flags s past types extends kept =
      kept_put (Was past) (Was past) (length past.types) number s.search searches later awaited flags kept s.put (λ n x f h. h) (record { then = table; types = types; extends = extends; at = s.at })

  -- what a search anew gave, or an error that changed nothing
  pub past_result : {E : Type 0} (number : ℕ) (searches later : List Search) (awaited flags : List Bool) (result : Result (Unit {0}) E) → OnOk result (IsSearched table number searches later awaited flags) → OnErr result ((later ≡ searches) × (flags ≡ awaited))
      → StayPast table searches later awaited flags
  past_result number searches later awaited flags (Ok x) s e = past_searched number searches later awaited flags s
  past_result number searches later awaited flags (Err x) s e = past_same e.0 e.1

  -- ---- the searches that wait for a type

  module _ (t : TypeRef) (count number : ℕ) (searches later : List Search) (awaited flags : List Bool) (s : IsSearched table number searches later awaited flags) where
    others : (n : ℕ) (x : Search) → (n ≡ number → ⊥) → number ≡ t.0 → MayWait table t n x → WaitsFrom table t 0 n x
    others n x f e (inl h) = absurd (f (h ∙ sym e))
    others n x f e (inr (inl h)) = inl (omega arith, h)
    others n x f e (inr (inr h)) = inr h

    pub own_searched : number ≡ t.0 → AreKept (MayWait table t) count searches awaited → AreKept (WaitsFrom table t 0) count later flags
    own_searched e kept = kept_put (MayWait table t) (WaitsFrom table t 0) count number s.search searches later awaited flags kept s.put (λ n x f h. others n x f e h) (inr s.at)

    next : (n : ℕ) (x : Search) → (n ≡ number → ⊥) → WaitsFrom table t number n x → WaitsFrom table t (number + 1) n x
    next n x f (inl h) = inl (next_left number n h.0 f, h.1)
    next n x f (inr h) = inr h

    pub next_searched : AreKept (WaitsFrom table t number) count searches awaited → AreKept (WaitsFrom table t (number + 1)) count later flags
    next_searched kept = kept_put (WaitsFrom table t number) (WaitsFrom table t (number + 1)) count number s.search searches later awaited flags kept s.put next (inr s.at)

  module _ (t : TypeRef) (count number : ℕ) (searches : List Search) (awaited : List Bool) where
    skip_by : (n : ℕ) (x : Search) → ((y : Search) → slice_get searches number ≡ Some y → awaited_by y ≡ Some t → ⊥) → slice_get searches n ≡ Some x → Same n number → WaitsFrom table t number n x → WaitsFrom table t (number + 1) n x
    skip_by n x f h s (inr k) = inr k
    skip_by n x f h (here e) (inl k) = absurd (f x (subst (λ i. slice_get searches i ≡ Some x) e h) k.1)
    skip_by n x f h (elsewhere g) (inl k) = inl (next_left number n k.0 g, k.1)

    -- the next search does not wait
    pub next_skipped : ((y : Search) → slice_get searches number ≡ Some y → awaited_by y ≡ Some t → ⊥) → AreKept (WaitsFrom table t number) count searches awaited → AreKept (WaitsFrom table t (number + 1)) count searches awaited
    next_skipped f kept = kept_map (WaitsFrom table t number) (WaitsFrom table t (number + 1)) count searches awaited kept (λ n x h k. skip_by n x f h (where_is n number) k)

    done_by : (n : ℕ) (x : Search) → count ≤ number → n < count → WaitsFrom table t number n x → IsAt table n x
    done_by n x w v (inl k) = let a = k.0 in absurd (omega (arith, w, v, a))
    done_by n x w v (inr k) = k

    pub none_waits : count ≤ number → AreKept (WaitsFrom table t number) count searches awaited → AreKept (IsAt table) count searches awaited
    none_waits w kept = kept_map (WaitsFrom table t number) (IsAt table) count searches awaited kept (λ n x h k. done_by n x w (let v = slice_get_within searches n x h in let z = kept.size in omega (arith, v, z)) k)

    quiet_by : (n : ℕ) (x : Search) → slice_get awaited t.0 ≡ Some false → IsFlagged x awaited → WaitsFrom table t number n x → IsAt table n x
    quiet_by n x e f (inl k) = absurd (clash (sym e ∙ f t k.1))
      where
        clash : Some false ≡ Some true → ⊥
        clash e = search (rules, e)
    quiet_by n x e f (inr k) = k

    -- none waits for a type whose flag is not set
    pub quiet : slice_get awaited t.0 ≡ Some false → AreKept (WaitsFrom table t number) count searches awaited → AreKept (IsAt table) count searches awaited
    quiet e kept = kept_map (WaitsFrom table t number) (IsAt table) count searches awaited kept (λ n x h k. quiet_by n x e (kept.waits n x h) k)

pub on_ok : {A E P Q : Type 0} (result : Result A E) → (P → Q) → OnOk result P → OnOk result Q
on_ok (Ok x) f p = f p
on_ok (Err x) f p = p

-- ---- searches that are looked at in turn

-- of the first ones the searches are those of the table
abbrev pub FirstAre : Table → ℕ → ℕ → Search → Type 0
FirstAre table k n x = n < k → IsAt table n x

-- the others are those of a table with more definitions
abbrev pub FirstCut : Table → ℕ → ℕ → Search → Type 0
FirstCut table k n x = Was table n x × FirstAre table k n x

module _ (table : Table) (count : ℕ) (searches : List Search) (awaited : List Bool) where
  pub first_none : (P : ℕ → Search → Type 0) → AreKept P count searches awaited → AreKept (FirstAre table 0) count searches awaited
  first_none P kept = kept_map P (FirstAre table 0) count searches awaited kept (λ n x h k w. absurd (omega (arith, w)))

  pub cut_none : AreKept (Was table) count searches awaited → AreKept (FirstCut table 0) count searches awaited
  cut_none kept = kept_map (Was table) (FirstCut table 0) count searches awaited kept (λ n x h k. (k, λ w. absurd (omega (arith, w))))

  pub first_all : (k : ℕ) → count ≤ k → AreKept (FirstAre table k) count searches awaited → AreKept (IsAt table) count searches awaited
  first_all k w kept = kept_map (FirstAre table k) (IsAt table) count searches awaited kept (λ n x h f. f (let v = slice_get_within searches n x h in let z = kept.size in omega (arith, v, z, w)))

  pub cut_all : (k : ℕ) → count ≤ k → AreKept (FirstCut table k) count searches awaited → AreKept (IsAt table) count searches awaited
  cut_all k w kept = kept_map (FirstCut table k) (IsAt table) count searches awaited kept (λ n x h f. f.1 (let v = slice_get_within searches n x h in let z = kept.size in omega (arith, v, z, w)))

  module _ (number : ℕ) (later : List Search) (flags : List Bool) where
    pub first_searched : IsSearched table number searches later awaited flags → AreKept (FirstAre table number) count searches awaited → AreKept (FirstAre table (number + 1)) count later flags
    first_searched s kept = kept_put (FirstAre table number) (FirstAre table (number + 1)) count number s.search searches later awaited flags kept s.put (λ n x f h w. h (before n number w f)) (λ w. s.at)

    pub cut_one : (search : Search) → ((d e : DefinitionOf GoType) → Defines table d → Defines table e → d.of ≡ e.of → d ≡ e) → IsPut number search searches later awaited flags → IsAt table number search
        → AreKept (FirstCut table number) count searches awaited → AreKept (FirstCut table (number + 1)) count later flags
    cut_one search once put at kept = kept_put (FirstCut table number) (FirstCut table (number + 1)) count number search searches later awaited flags kept put (λ n x f h. (h.0, λ w. h.1 (before n number w f))) (was_now table once number search at, λ w. at)

-- ---- searches that found nothing yet

abbrev pub AreBlank : List Search → Type 0
AreBlank searches = (n : ℕ) (search : Search) → slice_get searches n ≡ Some search → search ≡ Blocked []

pub blank_none : {searches : List Search} → searches ≡ [] → AreBlank searches
blank_none {searches} e n x h = absurd (none n x (subst (λ l. slice_get l n ≡ Some x) e h))
  where
    none : (n : ℕ) (x : Search) → slice_get [] n ≡ Some x → ⊥
    none n x h = search (rules, h)

pub blank_push : (searches later : List Search) (ts : List TypeRef) → later ≡ searches ++ Blocked ts ∷ [] → ts ≡ [] → AreBlank searches → AreBlank later
blank_push searches later ts e b are n x h = by (get_where searches (Blocked ts) n x (subst (λ l. slice_get l n ≡ Some x) e h))
  where
    by : Where searches (Blocked ts) n x → x ≡ Blocked []
    by (inside g) = are n x g
    by (last g k) = k ∙ ap Blocked b

pub blank_kept : (count : ℕ) (searches : List Search) (awaited : List Bool) → length searches ≡ count → length awaited ≡ count → AreBlank searches → AreKept (λ _ _. Unit {0}) count searches awaited
blank_kept count searches awaited size flags are = record {
  size = size;
  flags = flags;
  each = λ n x h. tt;
  waits = λ n x h t e. absurd (none t (sym (ap awaited_by (are n x h)) ∙ e));
}
  where
    none : (t : TypeRef) → None ≡ Some t → ⊥
    none t e = search (rules, e)
