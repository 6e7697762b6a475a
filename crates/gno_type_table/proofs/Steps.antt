-- Searches beside the rows of a table, where types and definitions are added or taken back.
use Rattle.std.proofs.Common.{◌≡◌, refl, sym, ap, ◌∙◌, subst, ℕ, ◌<◌, List, [], ◌∷◌, ◌++◌, length, length-append, Option, Some, None, Ok, Err, Bool, true, false, map, take, inl, inr, arith, rules}
use Rattle.std.specs.Prelude.{slice_get, ◌⊎◌, ◌↔◌, OnErr}
use Rattle.std.specs.declared.result.Result.{Result}
use Rattle.std.proofs.lemmas.Option.{slice_get_within}
use Rattle.gno_embedding.specs.Embedding.{IsKnown}
use Rattle.gno_layouts.proofs.Ends.{Where, inside, last, get_where, get_left}
use Rattle.gno_layouts.proofs.Written.{written}
use Rattle.gno_layouts.proofs.SetAt.{Same, here, elsewhere, where_is}
use Rattle.gno_promotion.specs.declared.found.Search.{Search}
use Rattle.gno_promotion.specs.Searches.{IsSearch}
use Rattle.gno_terms.specs.declared.term.DefinitionOf.{DefinitionOf}
use Rattle.gno_terms.specs.declared.term.GoType.{GoType}
use Rattle.gno_terms.specs.declared.term.MethodOf.{MethodOf}
use Rattle.gno_terms.specs.declared.term.TypeRef.{TypeRef}
use Rattle.gno_terms.specs.Normal.{normal_method}
use Rattle.gno_terms.specs.Tables.{Table, Below, Defines, Is, error_interface, type_at}
use Rattle.gno_terms.specs.Terms.{method_of}
use Rattle.gno_type_rows.proofs.Pushed.{at_it}
use Rattle.gno_type_table.specs.Kept.{AreKept, Extends, IsAt, IsFlagged, IsKept, IsWhole, MayWait, Was, awaited_by}
use Rattle.gno_type_table.proofs.Blocked.{IsEnd, search_up}
use Rattle.gno_type_table.proofs.Growth.{known_of_other, known_up}
use Rattle.gno_type_table.proofs.Putting.{kept_at, kept_map}

abbrev Once : Table → Type 0
Once table = (d e : DefinitionOf GoType) → Defines table d → Defines table e → d.of ≡ e.of → d ≡ e

-- the parts of methods stay where packages are taken away
pub normal_parts_of : (ms : List (MethodOf TypeRef)) → map method_of (map normal_method ms) ≡ map method_of ms
normal_parts_of [] = refl
normal_parts_of (m ∷ ms) = ap (λ l. m.of ∷ l) (normal_parts_of ms)

-- definitions were taken back
pub back_was : (table then : Table) (searches : List Search) (awaited : List Bool) → then.types ≡ table.types → ((d : DefinitionOf GoType) → Defines table d → Defines then d) → Once then
    → AreKept (IsAt then) (length then.types) searches awaited → AreKept (Was table) (length table.types) searches awaited
back_was table then searches awaited types stands once kept =
    subst (λ l. AreKept (Was table) (length l) searches awaited) types
    (kept_map (IsAt then) (Was table) (length then.types) searches awaited kept (λ n x h at. record {
      then = then;
      types = types;
      extends = record { grows = λ r s g. subst (λ l. slice_get l r.0 ≡ Some s) (sym types) g; stands = stands; once = once };
      at = at;
    }))

-- an error changed nothing
pub on_err : {A E P : Type 0} (result : Result A E) → P → OnErr result P
on_err (Ok x) p = tt
on_err (Err x) p = p

-- what was written beside rows
pub whole_written : (table : Table) (error : TypeRef) (n m : ℕ) (searches more : List Search) (awaited rest : List Bool) → Is table error error_interface → IsKept table searches awaited → n ≡ length searches → m ≡ length awaited
    → IsWhole table error (take n (searches ++ more)) (take m (awaited ++ rest))
whole_written table error n m searches more awaited rest is kept a b = record { error_is = is; kept = kept_at (IsAt table) (length table.types) (written n searches more a) (written m awaited rest b) kept }

-- a type was defined
module _ (old new : Table) (defined : TypeRef) (noted : DefinitionOf GoType) (types : new.types ≡ old.types) (of : noted.of ≡ type_at old.types defined) (forth : (d : DefinitionOf GoType) → Defines new d → Defines old d ⊎ (d ≡ noted))
    (back : (d : DefinitionOf GoType) → Defines old d → Defines new d) (once : Once new) (one : (a b : TypeRef) (s : GoType) → Is old a s → Is old b s → a ≡ b) (below : Below (length old.types) defined) where
  extends : Extends old new
  extends = record { grows = λ r s h. subst (λ l. slice_get l r.0 ≡ Some s) (sym types) h; stands = back; once = once }

  stands_by : (d : DefinitionOf GoType) → (d.of ≡ type_at old.types defined → ⊥) → Defines old d ⊎ (d ≡ noted) → Defines old d
  stands_by d f (inl h) = h
  stands_by d f (inr e) = absurd (f (ap (λ (x : DefinitionOf GoType). x.of) e ∙ of))

  known_before : (u : GoType) → (u ≡ type_at old.types defined → ⊥) → IsKnown new u → IsKnown old u
  known_before u f k = known_of_other new old (type_at old.types defined) (λ d h g. stands_by d g (forth d h)) u f k

  -- the number of the type
  its_number : (a : TypeRef) (u : GoType) → Is old a u → u ≡ type_at old.types defined → a.0 ≡ defined.0
  its_number a u h e = ap (λ (x : TypeRef). x.0) (one a defined (type_at old.types defined) (h ∙ ap Some e) (at_it old.types defined below))

  end_known : (n : ℕ) (s : GoType) → slice_get old.types n ≡ Some s → (n ≡ defined.0 → ⊥) → (o : Option TypeRef) → ((t : TypeRef) → o ≡ Some t → t.0 ≡ defined.0 → ⊥) → (u : GoType) → IsEnd old s o u → IsKnown new u → IsKnown old u
  end_known n s h f None g u e k = known_before u (λ q. f (its_number (record { 0 = n }) s h (sym e ∙ q))) k
  end_known n s h f (Some t) g u e k = known_before u (λ q. g t refl (its_number t u e q)) k

  still_at : (n : ℕ) (x : Search) → IsAt old n x → (n ≡ defined.0 → ⊥) → ((t : TypeRef) → awaited_by x ≡ Some t → t.0 ≡ defined.0 → ⊥) → IsAt new n x
  still_at n x at f g s h =
      let is : slice_get old.types n ≡ Some s = subst (λ l. slice_get l n ≡ Some s) types h in
      search_up old new extends s x (at s is) (λ u e k. end_known n s is f (awaited_by x) g u e k)

  none_some : {A : Type 0} (t : TypeRef) → None ≡ Some t → A
  none_some t e = absurd (search (rules, e))

  unwrapped : (a b : TypeRef) → Some a ≡ Some b → a ≡ b
  unwrapped a b e = search (rules, e)

  ref_eq : (a b : TypeRef) → a.0 ≡ b.0 → a ≡ b
  ref_eq a b e = λ i. record { 0 = e i }

  by_waiting : (n : ℕ) (x : Search) → IsAt old n x → (n ≡ defined.0 → ⊥) → (o : Option TypeRef) → awaited_by x ≡ o → MayWait new defined n x
  by_waiting n x at f None e = inr (inr (still_at n x at f (λ t g. none_some t (sym e ∙ g))))
  by_waiting n x at f (Some t) e = by (where_is t.0 defined.0)
    where
      by : Same t.0 defined.0 → MayWait new defined n x
      by (here q) = inr (inl (e ∙ ap Some (ref_eq t defined q)))
      by (elsewhere g) = inr (inr (still_at n x at f (λ v h q. g (ap (λ (z : TypeRef). z.0) (unwrapped t v (sym e ∙ h)) ∙ q))))

  by_place : (n : ℕ) (x : Search) → IsAt old n x → Same n defined.0 → MayWait new defined n x
  by_place n x at (here e) = inl e
  by_place n x at (elsewhere f) = by_waiting n x at f (awaited_by x) refl

  pub defined_waits : (searches : List Search) (awaited : List Bool) → AreKept (IsAt old) (length old.types) searches awaited → AreKept (MayWait new defined) (length new.types) searches awaited
  defined_waits searches awaited kept =
      subst (λ l. AreKept (MayWait new defined) (length l) searches awaited) (sym types)
      (kept_map (IsAt old) (MayWait new defined) (length old.types) searches awaited kept (λ n x h at. by_place n x at (where_is n defined.0)))

-- a definition was noted and taken back
module _ (old defd less : Table) (defined : TypeRef) (noted : DefinitionOf GoType) (types : defd.types ≡ old.types) (back_types : less.types ≡ defd.types) (of : noted.of ≡ type_at old.types defined)
    (noting : (d : DefinitionOf GoType) → Defines defd d ↔ (Defines old d ⊎ (d ≡ noted))) (retracting : (d : DefinitionOf GoType) → Defines less d ↔ (Defines defd d × (d.of ≡ type_at defd.types defined → ⊥)))
    (new : (d : DefinitionOf GoType) → Defines old d → d.of ≡ type_at old.types defined → ⊥) where
  same_type : type_at defd.types defined ≡ type_at old.types defined
  same_type = ap (λ l. type_at l defined) types

  forth_by : (d : DefinitionOf GoType) → (d.of ≡ type_at defd.types defined → ⊥) → Defines old d ⊎ (d ≡ noted) → Defines old d
  forth_by d f (inl h) = h
  forth_by d f (inr e) = absurd (f (ap (λ (x : DefinitionOf GoType). x.of) e ∙ of ∙ sym same_type))

  pub retract_forth : (d : DefinitionOf GoType) → Defines less d → Defines old d
  retract_forth d h = let g = (retracting d).0 h in forth_by d g.1 ((noting d).0 g.0)

  pub retract_back : (d : DefinitionOf GoType) → Defines old d → Defines less d
  retract_back d h = (retracting d).1 ((noting d).1 (inl h), λ e. new d h (e ∙ same_type))

  pub retract_extends : Once defd → Extends less defd
  retract_extends once = record { grows = λ r s h. subst (λ l. slice_get l r.0 ≡ Some s) back_types h; stands = λ d h. ((retracting d).0 h).0; once = once }

-- a type was added
module _ (old new : Table) (type : GoType) (types : new.types ≡ old.types ++ type ∷ []) (definitions : new.definitions ≡ old.definitions) (once : Once new) where
  pub grown : Extends old new
  grown = record {
    grows = λ r s h. subst (λ l. slice_get l r.0 ≡ Some s) (sym types) (get_left old.types type r.0 s h);
    stands = λ d h. (h.0, ap (λ l. slice_get l h.0) definitions ∙ h.1);
    once = once;
  }

  known_still : (u : GoType) → IsKnown new u → IsKnown old u
  known_still u k = known_up new old (λ d h. (h.0, ap (λ l. slice_get l h.0) (sym definitions) ∙ h.1)) u k

  up : (s : GoType) (x : Search) → IsSearch old s x → IsSearch new s x
  up s x h = search_up old new grown s x h (λ u e k. known_still u k)

  old_at : (n : ℕ) (x : Search) → n < length old.types → IsAt old n x → IsAt new n x
  old_at n x w at s h = by (get_where old.types type n s (subst (λ l. slice_get l n ≡ Some s) types h))
    where
      by : Where old.types type n s → IsSearch new s x
      by (inside g) = up s x (at s g)
      by (last e g) = absurd (omega (arith, w, e))

  new_at : (n : ℕ) (x : Search) → n ≡ length old.types → IsSearch old type x → IsAt new n x
  new_at n x e search s h = by (get_where old.types type n s (subst (λ l. slice_get l n ≡ Some s) types h))
    where
      by : Where old.types type n s → IsSearch new s x
      by (inside g) = absurd (let w = slice_get_within old.types n s g in omega (arith, w, e))
      by (last q g) = up s x (subst (λ y. IsSearch old y x) (sym g) search)

  module _ (search : Search) (is : IsSearch old type search) (searches later : List Search) (awaited flags more : List Bool) (kept : AreKept (IsAt old) (length old.types) searches awaited)
      (rise : (k : ℕ) → slice_get awaited k ≡ Some true → slice_get flags k ≡ Some true) (flagged : IsFlagged search flags) (size : length flags ≡ length awaited)
      (pushed : later ≡ searches ++ search ∷ []) (longer : more ≡ flags ++ false ∷ []) where
    each_by : (n : ℕ) (x : Search) → Where searches search n x → IsAt new n x
    each_by n x (inside h) = old_at n x (let w = slice_get_within searches n x h in let z = kept.size in omega (arith, w, z)) (kept.each n x h)
    each_by n x (last e h) = subst (IsAt new n) (sym h) (new_at n search (e ∙ kept.size) is)

    stay : (k : ℕ) → slice_get flags k ≡ Some true → slice_get more k ≡ Some true
    stay k h = subst (λ l. slice_get l k ≡ Some true) (sym longer) (get_left flags false k true h)

    waits_by : (n : ℕ) (x : Search) → Where searches search n x → IsFlagged x more
    waits_by n x (inside h) = λ t e. stay t.0 (rise t.0 (kept.waits n x h t e))
    waits_by n x (last e h) = λ t q. stay t.0 (flagged t (sym (ap awaited_by h) ∙ q))

    at_search : (n : ℕ) (x : Search) → slice_get later n ≡ Some x → Where searches search n x
    at_search n x h = get_where searches search n x (subst (λ l. slice_get l n ≡ Some x) pushed h)

    pub added : AreKept (IsAt new) (length new.types) later more
    added = record {
      size = let a = ap length pushed in let b = ap length types in let d = kept.size in omega (arith, a, b, d, length-append searches (search ∷ []), length-append old.types (type ∷ []));
      flags = let a = ap length longer in let b = ap length types in let d = kept.flags in omega (arith, a, b, d, size, length-append flags (false ∷ []), length-append old.types (type ∷ []));
      each = λ n x h. each_by n x (at_search n x h);
      waits = λ n x h. waits_by n x (at_search n x h);
    }

pub whole_at : (table : Table) (error : TypeRef) {searches later : List Search} {awaited flags : List Bool} → later ≡ searches → flags ≡ awaited → IsWhole table error searches awaited → IsWhole table error later flags
whole_at table error {searches} {later} {awaited} {flags} e f is = subst (λ l. IsWhole table error l flags) (sym e) (subst (IsWhole table error searches) (sym f) is)
