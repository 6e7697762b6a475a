-- Reading all rows of a table, key by key.
use Rattle.std.proofs.Common.{◌≡◌, ℕ, List, [], ◌∷◌, ◌++◌, ap, ◌∙◌, refl, sym, subst}
use Rattle.std.specs.Prelude.{Option, Some, None, true, false, cond}
use Rattle.std.specs.Str.{bytes_eq}
use Rattle.std.specs.FinMap.{get}
use Rattle.std.specs.List.Sorted.{IsStrictlySortedBy}
use Rattle.std.specs.Ordering.{nat_cmp, ordering_reverse}
use Rattle.std.specs.declared.cmp.Ordering.{Ordering}
use Rattle.std.specs.declared.cmp.Ordering.TheVariants.{Less, Equal, Greater}
use Rattle.std.specs.Cmp.Lexicographic.{slice_cmp, nat_list_cmp_total}
use Rattle.std.specs.FinMap.{slice_cmp-IsAntisymmetric, nat_cmp-IsAntisymmetric}
use Rattle.std.proofs.lemmas.Slice.Eq.{bytes_eq-Decides}
use Rattle.gno_port.specs.declared.keeper.Change.{Change}
use Rattle.gno_port.specs.Tables.{Table, IsBelow, IsRising, latest}
use Rattle.gno_port.specs.Keeping.{Gets, NextKey}
use Rattle.gno_port.proofs.TableLemmas.{latest-append}
use Rattle.gno_table.specs.Rows.{row}
use Rattle.gno_table.specs.FirstFormat.{Reads}
use Rattle.gno_table.specs.Reading.{AreBelow, AreInOrder, AreRowsTo, IsRowAdded, ReadsTo, or_before, with_row}
use Rattle.gno_table.specs.Loading.{HaveValues}
use Rattle.gno_table.proofs.RisingRows.{rising_push, values_append}

abbrev order : List ℕ → List ℕ → Ordering
order = slice_cmp nat_cmp

less_greater : Less ≡ Greater → ⊥
less_greater e = cc

less_equal : Less ≡ Equal → ⊥
less_equal e = cc

true_false : true ≡ false → ⊥
true_false e = cc

not_itself : (k : List ℕ) → IsBelow k k → ⊥
not_itself k h = less_greater (sym h ∙ nat_list_cmp_total.antisymm k k ∙ ap ordering_reverse h)

both_below : (a b : List ℕ) → IsBelow a b → IsBelow b a → ⊥
both_below a b h k = not_itself a (nat_list_cmp_total.trans a b a h k)

same_key : (a b : List ℕ) → bytes_eq a b ≡ true → a ≡ b
same_key a b e = (bytes_eq-Decides a b).0 e

or_before-none : (value : Option (List ℕ)) → or_before value None ≡ value
or_before-none None = refl
or_before-none (Some value) = refl

above_by : (a b : List ℕ) → order b a ≡ Greater → IsBelow a b
above_by a b e = nat_list_cmp_total.antisymm a b ∙ ap ordering_reverse e

equal_by : (a b : List ℕ) → order a b ≡ Equal → bytes_eq a b ≡ false → ⊥
equal_by a b e f = true_false (sym ((bytes_eq-Decides a b).1 (slice_cmp-IsAntisymmetric nat_cmp-IsAntisymmetric a b e)) ∙ f)

elsewhere : (table : Table) (key next : List ℕ) (rows : List Change) → AreRowsTo table key rows → ((other : List ℕ) → IsBelow key other → IsBelow other next → get table other ≡ None) →
    (other : List ℕ) → (IsBelow next other → ⊥) → bytes_eq other next ≡ false → latest rows other None ≡ get table other
elsewhere table key next rows so between other not_above apart =
    elim (order key other) as (λ r. order key other ≡ r → latest rows other None ≡ get table other) [
      | Less ↦ λ e. elim (order other next) as (λ r. order other next ≡ r → latest rows other None ≡ get table other) [
        | Less ↦ λ f. so.unread other e ∙ sym (between other e f)
        | Equal ↦ λ f. absurd (equal_by other next f apart)
        | Greater ↦ λ f. absurd (not_above (above_by next other f))
      ] refl
      | Equal ↦ λ e. so.read other (λ b. less_equal (sym b ∙ e))
      | Greater ↦ λ e. so.read other (λ b. less_greater (sym b ∙ e))
    ] refl

-- what one more row leaves
with_row_leaves : (rows : List Change) (key other : List ℕ) (found : Option (List ℕ)) → latest (with_row rows key found) other None ≡ cond (bytes_eq other key) (or_before found (latest rows key None)) (latest rows other None)
with_row_leaves rows key other (Some value) = latest-append rows (row key value ∷ []) other None
with_row_leaves rows key other None =
    elim (bytes_eq other key) as (λ t. bytes_eq other key ≡ t → latest rows other None ≡ cond t (latest rows key None) (latest rows other None)) [
      | true ↦ λ e. ap (λ (k : List ℕ). latest rows k None) (same_key other key e)
      | false ↦ λ e. refl
    ] refl

with_row_rising : (rows : List Change) (key : List ℕ) (found : Option (List ℕ)) → IsRising rows → AreBelow rows key → IsRising (with_row rows key found)
with_row_rising rows key None s b = s
with_row_rising rows key (Some value) s b = rising_push rows key value s b

with_row_valued : (rows : List Change) (key : List ℕ) (found : Option (List ℕ)) → HaveValues rows → HaveValues (with_row rows key found)
with_row_valued rows key None h = h
with_row_valued rows key (Some value) h = values_append rows (row key value ∷ []) h (refl, tt)

below_append : (rows more : List Change) (key : List ℕ) → AreBelow rows key → AreBelow more key → AreBelow (rows ++ more) key
below_append [] more key h k = k
below_append (r ∷ rs) more key h k = (h.0, below_append rs more key h.1 k)

with_row_below : (rows : List Change) (key other : List ℕ) (found : Option (List ℕ)) → AreBelow rows other → IsBelow key other → AreBelow (with_row rows key found) other
with_row_below rows key other None h b = h
with_row_below rows key other (Some value) h b = below_append rows (row key value ∷ []) other h (b, tt)

-- a key at or below the next one is at or below the last one, or between them, or the next one
pub goes_on_told : (table : Table) (key next : List ℕ) (rows new : List Change) → AreRowsTo table key rows → IsBelow key next → ((other : List ℕ) → IsBelow key other → IsBelow other next → get table other ≡ None) → IsRowAdded (Some table) rows next new → AreRowsTo table next new
goes_on_told table key next rows new so below between is =
    let add : (other : List ℕ) → latest new other None ≡ cond (bytes_eq other next) (or_before (get table next) (latest rows next None)) (latest rows other None) =
    λ other. ap (λ (r : List Change). latest r other None) is ∙ with_row_leaves rows next other (get table next) in
    let here : or_before (get table next) (latest rows next None) ≡ get table next = ap (or_before (get table next)) (so.unread next below) ∙ or_before-none (get table next) in
    record {
      read = λ other not_above. add other ∙ elim (bytes_eq other next) as (λ t. bytes_eq other next ≡ t → cond t (or_before (get table next) (latest rows next None)) (latest rows other None) ≡ get table other) [
        | true ↦ λ is. here ∙ ap (get table) (sym (same_key other next is))
        | false ↦ λ is. elsewhere table key next rows so between other not_above is
      ] refl;
      unread = λ other above. add other ∙ elim (bytes_eq other next) as (λ t. bytes_eq other next ≡ t → cond t (or_before (get table next) (latest rows next None)) (latest rows other None) ≡ None) [
        | true ↦ λ is. absurd (not_itself next (subst (λ (k : List ℕ). IsBelow next k) (same_key other next is) above))
        | false ↦ λ is. so.unread other (nat_list_cmp_total.trans key next other below above)
      ] refl;
      rising = subst IsRising (sym is) (with_row_rising rows next (get table next) so.rising (so.below next below));
      valued = subst HaveValues (sym is) (with_row_valued rows next (get table next) so.valued);
      below = λ other above. subst (λ (r : List Change). AreBelow r other) (sym is) (with_row_below rows next other (get table next) (so.below other (nat_list_cmp_total.trans key next other below above)) above);
    }

pub goes_on : (told : Option Table) (key next : List ℕ) (rows new : List Change) → ReadsTo told key rows → NextKey told key (Some next) → IsRowAdded told rows next new → ReadsTo told next new
goes_on None key next rows new so is add = tt
goes_on (Some table) key next rows new so is add = goes_on_told table key next rows new so is.0 is.2 add

none_rising : IsRising []
unfolding IsStrictlySortedBy
none_rising = tt

-- the empty key stands before all others
pub begins : (told : Option Table) (new : List Change) → IsRowAdded told [] [] new → ReadsTo told [] new
begins None new add = tt
begins (Some table) new add = record {
  read = λ other not_above. leaves other ∙ first other not_above;
  unread = λ other above. leaves other ∙ later other above;
  rising = subst IsRising (sym add) (with_row_rising [] [] (get table []) none_rising tt);
  valued = subst HaveValues (sym add) (with_row_valued [] [] (get table []) tt);
  below = λ other above. subst (λ (r : List Change). AreBelow r other) (sym add) (with_row_below [] [] other (get table []) tt above);
}
  where
    leaves : (other : List ℕ) → latest new other None ≡ cond (bytes_eq other []) (or_before (get table []) None) None
    leaves other = ap (λ (r : List Change). latest r other None) add ∙ with_row_leaves [] [] other (get table [])

    first : (other : List ℕ) → (IsBelow [] other → ⊥) → cond (bytes_eq other []) (or_before (get table []) None) None ≡ get table other
    first [] not_above = or_before-none (get table [])
    first (b ∷ bs) not_above = absurd (not_above refl)

    later : (other : List ℕ) → IsBelow [] other → cond (bytes_eq other []) (or_before (get table []) None) None ≡ None
    later [] above = absurd (not_itself [] above)
    later (b ∷ bs) above = refl

pub in_order : (told : Option Table) (key : List ℕ) (rows : List Change) → ReadsTo told key rows → AreInOrder told rows
in_order None key rows so = tt
in_order (Some table) key rows so = (so.rising, so.valued)

pub at_end : (told : Option Table) (key : List ℕ) (rows : List Change) → ReadsTo told key rows → NextKey told key None → Reads told rows
at_end None key rows so none = tt
at_end (Some table) key rows so none = λ other.
    elim (order key other) as (λ r. order key other ≡ r → get table other ≡ latest rows other None) [
      | Less ↦ λ e. none other e ∙ sym (so.unread other e)
      | Equal ↦ λ e. sym (so.read other (λ b. less_equal (sym b ∙ e)))
      | Greater ↦ λ e. sym (so.read other (λ b. less_greater (sym b ∙ e)))
    ] refl

pub added : (told : Option Table) (rows new : List Change) (key value : List ℕ) → Gets told key (Some value) → new ≡ rows ++ row key value ∷ [] → IsRowAdded told rows key new
added None rows new key value got is = tt
added (Some table) rows new key value got is = is ∙ ap (with_row rows key) got

pub not_added : (told : Option Table) (rows new : List Change) (key : List ℕ) → Gets told key None → new ≡ rows → IsRowAdded told rows key new
not_added None rows new key got is = tt
not_added (Some table) rows new key got is = is ∙ ap (with_row rows key) got
