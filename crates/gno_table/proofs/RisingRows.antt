-- Rows in the order of their keys.
use Rattle.std.proofs.Common.{◌≡◌, ℕ, List, [], ◌∷◌, ◌++◌, ap, ◌∙◌, refl, sym, subst}
use Rattle.std.specs.Prelude.{Option, Some, None, true, false, cond, map, IsSome}
use Rattle.std.specs.Str.{bytes_eq}
use Rattle.std.specs.List.{AllByRecursion}
use Rattle.std.specs.List.Sorted.{IsStrictlySortedBy}
use Rattle.std.specs.Ordering.{nat_cmp, is_eq, ordering_reverse}
use Rattle.std.specs.declared.cmp.Ordering.{Ordering}
use Rattle.std.specs.declared.cmp.Ordering.TheVariants.{Less, Equal, Greater}
use Rattle.std.specs.Cmp.Lexicographic.{slice_cmp, nat_list_cmp_total}
use Rattle.std.specs.FinMap.{slice_cmp-IsAntisymmetric, nat_cmp-IsAntisymmetric}
use Rattle.std.proofs.lemmas.Bool.{or_from}
use Rattle.std.proofs.lemmas.Slice.Eq.{bytes_eq-Decides}
use Rattle.std.proofs.lemmas.Map.Text.{is_eq-slice_cmp}
use Rattle.gno_port.specs.declared.keeper.Change.{Change}
use Rattle.gno_port.specs.Tables.{IsBelow, IsRising, latest}
use Rattle.gno_port.proofs.TableLemmas.{has_key, latest-other}
use Rattle.gno_table.specs.Rows.{LeaveSame, row}
use Rattle.gno_table.specs.Loading.{HaveValues}
use Rattle.gno_table.specs.Reading.{AreBelow, or_before}

abbrev pub order : List ℕ → List ℕ → Ordering
order = slice_cmp nat_cmp

-- each of the rows' keys is above a key
abbrev pub AreAbove : List ℕ → List Change → Type 0
AreAbove key rows = AllByRecursion (λ y. IsBelow key y) (map (λ change. change.key) rows)

pub same_key : (key : List ℕ) → bytes_eq key key ≡ true
same_key key = (bytes_eq-Decides key key).1 refl

apart : (a b : List ℕ) → IsBelow a b → bytes_eq a b ≡ false
apart a b h = sym (is_eq-slice_cmp a b) ∙ ap is_eq h

pub lacks : (key : List ℕ) (rows : List Change) → AreAbove key rows → has_key rows key ≡ false
lacks key [] h = refl
lacks key (r ∷ rs) h = or_from _ _ (apart key r.key h.0) (lacks key rs h.1)

above_more : (a b : List ℕ) (rows : List Change) → IsBelow a b → AreAbove b rows → AreAbove a rows
above_more a b [] h k = tt
above_more a b (r ∷ rs) h k = (nat_list_cmp_total.trans a b r.key h k.0, above_more a b rs h k.1)

pub parts : (r : Change) (rs : List Change) → IsRising (r ∷ rs) → AreAbove r.key rs × IsRising rs
unfolding IsStrictlySortedBy
parts r rs s = s

-- what a row leaves at its key
pub first_leaves : (r : Change) (rs : List Change) (before : Option (List ℕ)) → IsRising (r ∷ rs) → latest (r ∷ rs) r.key before ≡ r.value
first_leaves r rs before s =
    ap (λ t. latest rs r.key (cond t r.value before)) (same_key r.key) ∙ latest-other rs r.key r.value (lacks r.key rs (parts r rs s).0)

abbrev pub Leaves : List Change → Change → Type 0
Leaves rows r = (before : Option (List ℕ)) → latest rows r.key before ≡ r.value

leave_more : (r : Change) (rs es : List Change) → AllByRecursion (Leaves rs) es → AllByRecursion (Leaves (r ∷ rs)) es
leave_more r rs [] h = tt
leave_more r rs (e ∷ es) h = (λ before. h.0 (cond (bytes_eq e.key r.key) r.value before), leave_more r rs es h.1)

pub all_leave : (rows : List Change) → IsRising rows → AllByRecursion (Leaves rows) rows
all_leave [] s = tt
all_leave (r ∷ rs) s = (λ before. first_leaves r rs before s, leave_more r rs rs (all_leave rs (parts r rs s).1))

-- a row whose key is above all others, put behind them
above_push : (key : List ℕ) (rows : List Change) (next value : List ℕ) → AreAbove key rows → IsBelow key next → AreAbove key (rows ++ row next value ∷ [])
above_push key [] next value h b = (b, tt)
above_push key (r ∷ rs) next value h b = (h.0, above_push key rs next value h.1 b)

pub rising_push : (rows : List Change) (next value : List ℕ) → IsRising rows → AreBelow rows next → IsRising (rows ++ row next value ∷ [])
unfolding IsStrictlySortedBy
rising_push [] next value s b = (tt, tt)
rising_push (r ∷ rs) next value s b = (above_push r.key rs next value s.0 b.0, rising_push rs next value s.1 b.1)

clash : (v : Option (List ℕ)) → ((before : Option (List ℕ)) → before ≡ v) → ⊥
clash v h = let t : None ≡ Some [] = h None ∙ sym (h (Some [])) in cc

first_missing : (c : Change) (cs ds : List Change) → IsRising (c ∷ cs) → AreAbove c.key ds → LeaveSame (c ∷ cs) ds → ⊥
first_missing c cs ds s above h = clash c.value (λ before. sym (latest-other ds c.key before (lacks c.key ds above)) ∙ sym (h c.key before) ∙ first_leaves c cs before s)

same_back : (a b : List Change) → LeaveSame a b → LeaveSame b a
same_back a b h key before = sym (h key before)

same_rest : (c d : Change) (cs ds : List Change) → AreAbove c.key cs → AreAbove d.key ds → c.key ≡ d.key → LeaveSame (c ∷ cs) (d ∷ ds) → LeaveSame cs ds
same_rest c d cs ds s t same h key before =
    elim (bytes_eq key c.key) as (λ b. bytes_eq key c.key ≡ b → latest cs key before ≡ latest ds key before) [
      | true ↦ λ is.
          let here : c.key ≡ key = sym ((bytes_eq-Decides key c.key).0 is) in
          latest-other cs key before (subst (λ (k : List ℕ). has_key cs k ≡ false) here (lacks c.key cs s))
          ∙ sym (latest-other ds key before (subst (λ (k : List ℕ). has_key ds k ≡ false) (sym same ∙ here) (lacks d.key ds t)))
      | false ↦ λ is.
          ap (λ b. latest cs key (cond b c.value before)) (sym is) ∙ h key before
          ∙ ap (λ b. latest ds key (cond b d.value before)) (ap (bytes_eq key) (sym same) ∙ is)
    ] refl

-- rows in the order of their keys that leave the same are the same
pub rising_same : (a b : List Change) → IsRising a → IsRising b → LeaveSame a b → a ≡ b
rising_same [] [] s t h = refl
rising_same [] (d ∷ ds) s t h = absurd (first_missing d ds [] t tt (same_back [] (d ∷ ds) h))
rising_same (c ∷ cs) [] s t h = absurd (first_missing c cs [] s tt h)
rising_same (c ∷ cs) (d ∷ ds) s t h =
    elim (order c.key d.key) as (λ r. order c.key d.key ≡ r → c ∷ cs ≡ d ∷ ds) [
      | Less ↦ λ e. absurd (first_missing c cs (d ∷ ds) s (e, above_more c.key d.key ds e (parts d ds t).0) h)
      | Equal ↦ λ e.
          let same : c.key ≡ d.key = slice_cmp-IsAntisymmetric nat_cmp-IsAntisymmetric c.key d.key e in
          let values : c.value ≡ d.value = sym (first_leaves c cs None s) ∙ h c.key None ∙ ap (λ (k : List ℕ). latest (d ∷ ds) k None) same ∙ first_leaves d ds None t in
          let rest : cs ≡ ds = rising_same cs ds (parts c cs s).1 (parts d ds t).1 (same_rest c d cs ds (parts c cs s).0 (parts d ds t).0 same h) in
          λ i. record { key = same i; value = values i } ∷ rest i
      | Greater ↦ λ e.
          let f : IsBelow d.key c.key = nat_list_cmp_total.antisymm d.key c.key ∙ ap ordering_reverse e in
          absurd (first_missing d ds (c ∷ cs) t (f, above_more d.key c.key cs f (parts c cs s).0) (same_back (c ∷ cs) (d ∷ ds) h))
    ] refl

or_value : (v a : Option (List ℕ)) → IsSome v → or_before v a ≡ v
or_value None a h = cc
or_value (Some v) a h = refl

-- where each row has a value, what stood before stays only where no row is
pub valued_latest : (rows : List Change) (key : List ℕ) (a before : Option (List ℕ)) → HaveValues rows → latest rows key (or_before a before) ≡ or_before (latest rows key a) before
valued_latest [] key a before h = refl
valued_latest (r ∷ rs) key a before h =
    elim (bytes_eq key r.key) as (λ t. latest rs key (cond t r.value (or_before a before)) ≡ or_before (latest rs key (cond t r.value a)) before) [
      | true ↦ ap (latest rs key) (sym (or_value r.value before h.0)) ∙ valued_latest rs key r.value before h.1
      | false ↦ valued_latest rs key a before h.1
    ]

pub values_append : (a b : List Change) → HaveValues a → HaveValues b → HaveValues (a ++ b)
values_append [] b h k = k
values_append (r ∷ rs) b h k = (h.0, values_append rs b h.1 k)
