-- What a binary search for a key finds among rows in the order of their keys.
use Rattle.std.proofs.Common.{◌≡◌, ℕ, zero, suc, ◌<◌, ◌≤◌, List, [], ◌∷◌, ap, ◌∙◌, refl, arith, sym, subst, length, slice_index_or, inl, inr}
use Rattle.std.specs.Prelude.{Some, None, Result, Ok, Err, false}
use Rattle.std.specs.Result.{result_ok}
use Rattle.std.specs.Str.{bytes_eq}
use Rattle.std.specs.List.{AllByRecursion}
use Rattle.std.specs.List.Sorted.{IsBinarySearchResult, IsNonDecreasingBy, IsPartitionPoint, IsSearchInRange}
use Rattle.std.specs.Ordering.{is_eq, ordering_index, ordering_reverse}
use Rattle.std.specs.declared.cmp.Ordering.{Ordering}
use Rattle.std.specs.declared.cmp.Ordering.TheVariants.{Less, Equal, Greater}
use Rattle.std.specs.Cmp.Lexicographic.{nat_list_cmp_total}
use Rattle.std.specs.FinMap.{slice_cmp-IsAntisymmetric, nat_cmp-IsAntisymmetric}
use Rattle.std.proofs.lemmas.Bool.{cases_lt, or_from}
use Rattle.std.proofs.lemmas.Map.Text.{is_eq-slice_cmp}
use Rattle.gno_port.specs.declared.keeper.Change.{Change}
use Rattle.gno_port.specs.Tables.{IsBelow, IsRising, latest}
use Rattle.gno_port.proofs.TableLemmas.{has_key, latest-other}
use Rattle.gno_table.proofs.RisingRows.{AreAbove, Leaves, all_leave, order, parts}

leaves_at : (rows es : List Change) (at : ℕ) (d : Change) → AllByRecursion (Leaves rows) es → at < length es → Leaves rows (slice_index_or es at d)
leaves_at rows [] at d h b = absurd (omega (arith, b))
leaves_at rows (e ∷ es) zero d h b = h.0
leaves_at rows (e ∷ es) (suc at) d h b = leaves_at rows es at d h.1 (omega (arith, b))

-- the row that is found
pub hit : (rows : List Change) (key : List ℕ) (at : ℕ) (d : Change) → IsRising rows → at < length rows → order (slice_index_or rows at d).key key ≡ Equal → latest rows key None ≡ (slice_index_or rows at d).value
hit rows key at d s b e =
    let same : (slice_index_or rows at d).key ≡ key = slice_cmp-IsAntisymmetric nat_cmp-IsAntisymmetric _ _ e in
    ap (λ (k : List ℕ). latest rows k None) (sym same) ∙ leaves_at rows rows at d (all_leave rows s) b None

at_most_two : (r : Ordering) → ordering_index r ≤ 2
at_most_two Less = omega arith
at_most_two Equal = omega arith
at_most_two Greater = omega arith

-- of two keys the lower one stands no higher to a third
no_higher : (a b key : List ℕ) → IsBelow a b → (r : Ordering) → order b key ≡ r → ordering_index (order a key) ≤ ordering_index r
no_higher a b key h Less e = omega (arith, ap ordering_index (nat_list_cmp_total.trans a b key h e))
no_higher a b key h Equal e =
    let same : b ≡ key = slice_cmp-IsAntisymmetric nat_cmp-IsAntisymmetric b key e in
    omega (arith, ap ordering_index (subst (λ (k : List ℕ). IsBelow a k) same h))
no_higher a b key h Greater e = at_most_two (order a key)

above_at : (key : List ℕ) (rows : List Change) (at : ℕ) (d : Change) → AreAbove key rows → at < length rows → IsBelow key (slice_index_or rows at d).key
above_at key [] at d h b = absurd (omega (arith, b))
above_at key (r ∷ rs) zero d h b = h.0
above_at key (r ∷ rs) (suc at) d h b = above_at key rs at d h.1 (omega (arith, b))

rises : (rows : List Change) (key : List ℕ) → IsRising rows → IsNonDecreasingBy (λ y. ordering_index (order y.key key)) rows
rises [] key s i j d a b = absurd (omega (arith, b))
rises (r ∷ rs) key s zero zero d a b = omega arith
rises (r ∷ rs) key s zero (suc j) d a b = no_higher r.key (slice_index_or rs j d).key key (above_at r.key rs j d (parts r rs s).0 (omega (arith, b))) (order (slice_index_or rs j d).key key) refl
rises (r ∷ rs) key s (suc i) zero d a b = absurd (omega (arith, a))
rises (r ∷ rs) key s (suc i) (suc j) d a b = rises rs key (parts r rs s).1 i j d (omega (arith, a)) (omega (arith, b))

no_key : (rows : List Change) (key : List ℕ) → ((k : ℕ) (d : Change) → k < length rows → is_eq (order (slice_index_or rows k d).key key) ≡ false) → has_key rows key ≡ false
no_key [] key h = refl
no_key (r ∷ rs) key h =
    or_from _ _ (turned r.key key (h zero r (omega arith))) (no_key rs key (λ k d b. h (suc k) d (omega (arith, b))))
  where
    reversed : (r : Ordering) → is_eq r ≡ false → is_eq (ordering_reverse r) ≡ false
    reversed Less h = refl
    reversed Equal h = h
    reversed Greater h = refl

    turned : (a b : List ℕ) → is_eq (order a b) ≡ false → bytes_eq b a ≡ false
    turned a b h = sym (is_eq-slice_cmp b a) ∙ ap is_eq (nat_list_cmp_total.antisymm b a) ∙ reversed (order a b) h

-- where no row is found there is none
pub miss : (rows : List Change) (key : List ℕ) (at : ℕ) → IsRising rows →
    (IsNonDecreasingBy (λ (y : Change). ordering_index (order y.key key)) rows → IsPartitionPoint (λ (y : Change). order y.key key ≡ Less) (λ (y : Change). order y.key key ≡ Greater) rows at) → latest rows key None ≡ None
miss rows key at s h =
    let split = h (rises rows key s) in
    latest-other rows key None (no_key rows key (λ k d b. elim (cases_lt k at) [
      | inl low ↦ ap is_eq (split.0 k d (omega arith) low)
      | inr high ↦ ap is_eq (split.1 k d high b)
    ]))

-- what the answer of the search says
pub missed : (rows : List Change) (key : List ℕ) (answer : Result ℕ ℕ) → IsRising rows → IsBinarySearchResult (λ (y : Change). order y.key key) rows answer → None ≡ result_ok answer → latest rows key None ≡ None
missed rows key (Ok at) s h e = cc
missed rows key (Err at) s h e = miss rows key at s h

pub matched : (rows : List Change) (key : List ℕ) (answer : Result ℕ ℕ) (at : ℕ) (d : Change) → IsRising rows → IsSearchInRange answer (length rows) → IsBinarySearchResult (λ (y : Change). order y.key key) rows answer → Some at ≡ result_ok answer →
    latest rows key None ≡ (slice_index_or rows at d).value
matched rows key (Ok k) at d s b h e =
    let same : k ≡ at = cc in
    hit rows key at d s (subst (λ (n : ℕ). n < length rows) same b) (subst (λ (n : ℕ). order (slice_index_or rows n d).key key ≡ Equal) same (h d))
matched rows key (Err k) at d s b h e = cc
