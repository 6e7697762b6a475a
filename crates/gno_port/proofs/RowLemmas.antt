-- The rows of a table in memory after one change, and what a look-up finds in them.
use Rattle.std.proofs.Common.{◌≡◌, ℕ, List, [], ◌∷◌, ap, ◌∙◌, refl, sym}
use Rattle.std.specs.Prelude.{Option, Some, None, Bool, true, false, cond, map, is_some, IfSome, slice_get}
use Rattle.std.specs.Ordering.{nat_cmp, is_eq, is_gt, eq_by_cmp, ordering_reverse}
use Rattle.std.specs.Cmp.{eq_by_cmp_equiv, Equal-is}
use Rattle.std.proofs.lemmas.Bool.{cond-true, cond-false, cases_Bool, true≢false}
use Rattle.std.proofs.lemmas.Map.Entries.{place_from_lookup}
use Rattle.std.specs.BTreeMap.Range.{IsRangeOf, IsEntryInRange, IsLeBy}
use Rattle.std.specs.declared.ops.Bound.TheVariants.{Excluded, Unbounded}
use Rattle.gno_port.specs.Keeping.{IsNextKey}
use mathlib.Core.Logic.{⊎_elim}
use mathlib.Core.Path.{subst}
use Rattle.std.specs.declared.cmp.Ordering.{Ordering}
use Rattle.std.specs.Cmp.Lexicographic.{slice_cmp, nat_list_cmp_total}
use Rattle.std.specs.declared.vec.Vec.{Vec}
use Rattle.std.specs.declared.alloc.Global.{Global}
use Rattle.std.specs.Map.{lookup, KeepsOthers, IsKeyTest, AreApart}
use Rattle.std.specs.BTreeMap.{BTreeMap}
use Rattle.std.specs.BTreeMap as tree
use Rattle.std.specs.Str.{bytes_eq}
use Rattle.std.proofs.lemmas.Map.Text.{is_eq-slice_cmp}
use Rattle.std.specs.FinMap.{get, from_entries, find, get-from_entries, same_map, slice_cmp-IsAntisymmetric, nat_cmp-IsAntisymmetric, IsAntisymmetric}
use Rattle.gno_port.specs.Tables.{Table, put, IsBelow}
use Rattle.gno_port.specs.Rows.{Rows, rows_table}
use Rattle.gno_port.proofs.TableLemmas.{get-put}

abbrev pub vec_cmp : Vec ℕ Global → Vec ℕ Global → Ordering
vec_cmp x y = slice_cmp nat_cmp x.items y.items

abbrev pub at_bytes : List ℕ → Vec ℕ Global → Ordering
at_bytes bytes key = slice_cmp nat_cmp bytes key.items

pub order-IsAntisymmetric : IsAntisymmetric (slice_cmp nat_cmp)
order-IsAntisymmetric = slice_cmp-IsAntisymmetric nat_cmp-IsAntisymmetric

find-rows : (q : List ℕ) (es : List (Vec ℕ Global × List ℕ)) → find (slice_cmp nat_cmp) q (map (λ row. (row.0.items, row.1)) es) ≡ lookup (tree.is_at (at_bytes q)) es
find-rows q [] = refl
find-rows q (e ∷ es) = ap (λ t. cond (is_eq (slice_cmp nat_cmp q e.0.items)) (Some e.1) t) (find-rows q es)

pub get_rows : (rows : Rows) (q : List ℕ) → get (rows_table rows) q ≡ tree.get_by (at_bytes q) rows
get_rows rows q = get-from_entries nat_list_cmp_total _ q ∙ find-rows q rows.entries

same_bytes : (q bytes : List ℕ) → eq_by_cmp (slice_cmp nat_cmp) q bytes ≡ true → q ≡ bytes
same_bytes q bytes e = order-IsAntisymmetric q bytes ((Equal-is (slice_cmp nat_cmp q bytes)).0 e)

module _ {X : Type 0} where
  others : (old new : List (Vec ℕ Global × X)) (bytes q : List ℕ) → KeepsOthers (eq_by_cmp vec_cmp) (tree.is_at (at_bytes bytes)) old new
      → eq_by_cmp (slice_cmp nat_cmp) q bytes ≡ false → lookup (tree.is_at (at_bytes q)) new ≡ lookup (tree.is_at (at_bytes q)) old
  unfolding KeepsOthers
  others old new bytes q h ne =
      let same = eq_by_cmp_equiv nat_list_cmp_total in
      h _ (λ x y. same.congr q x.items y.items) (λ k e. same.symm q k.items ∙ sym (same.congr bytes k.items q e) ∙ same.symm bytes q ∙ ne)

  -- what one change of a map leaves at each key
  pub updated_at : (m n : BTreeMap (Vec ℕ Global) X) (bytes : List ℕ) (value : Option X) → tree.UpdatesBy vec_cmp (at_bytes bytes) m n value
      → (q : List ℕ) → tree.get_by (at_bytes q) n ≡ cond (bytes_eq q bytes) value (tree.get_by (at_bytes q) m)
  updated_at m n bytes value h q =
      ⊎_elim
      (λ y. subst (λ k. tree.get_by (at_bytes k) n ≡ value) (sym (same_bytes q bytes y)) h.1 ∙ sym (cond-true _ value (tree.get_by (at_bytes q) m) y))
      (λ f. others m.entries n.entries bytes q h.3 f ∙ sym (cond-false _ value (tree.get_by (at_bytes q) m) f))
      (cases_Bool (eq_by_cmp (slice_cmp nat_cmp) q bytes))
      ∙ ap (λ b. cond b value (tree.get_by (at_bytes q) m)) (is_eq-slice_cmp q bytes)

-- one change of the rows is that change of their table
pub rows_updated : (m n : Rows) (bytes : List ℕ) (value : Option (List ℕ)) → tree.UpdatesBy vec_cmp (at_bytes bytes) m n value → rows_table n ≡ put (rows_table m) bytes value
rows_updated m n bytes value h = same_map nat_list_cmp_total order-IsAntisymmetric _ _ (λ q.
    get_rows n q ∙ updated_at m n bytes value h q
    ∙ ap (cond (bytes_eq q bytes) value) (sym (get_rows m q))
    ∙ sym (get-put (rows_table m) bytes value q ∙ ap (λ b. cond b value (get (rows_table m) q)) (is_eq-slice_cmp q bytes)))

pub rows_same : (m n : Rows) → n.entries ≡ m.entries → rows_table n ≡ rows_table m
rows_same m n e = ap (λ es. from_entries (map (λ row. (row.0.items, row.1)) es)) e

-- a key that a look-up finds is among the rows' own
found_key : (m : Rows) (q : List ℕ) (v : List ℕ) → tree.get_by (at_bytes q) m ≡ Some v → (k : Vec ℕ Global) × (q ≡ k.items)
found_key m q v e =
    let p = place_from_lookup (tree.is_at (at_bytes q)) m.entries v e in
    (p.1, same_bytes q p.1.items p.3)

unless_found : (x : Option (List ℕ)) → ((v : List ℕ) → x ≡ Some v → ⊥) → x ≡ None
unless_found None h = refl
unless_found (Some v) h = absurd (h v refl)

not_none : (v : List ℕ) (x : Option (List ℕ)) → x ≡ Some v → x ≡ None → ⊥
not_none v None p q = true≢false (ap is_some (sym p))
not_none v (Some x) p q = true≢false (ap is_some q)

pub none_above : (m : Rows) (start : Vec ℕ Global) (r : List (Vec ℕ Global × List ℕ)) → IsRangeOf vec_cmp (Excluded start) Unbounded m r → r ≡ []
    → (other : List ℕ) → IsBelow start.items other → get (rows_table m) other ≡ None
none_above m start r h e other below = get_rows m other ∙ unless_found _ (λ v found.
    let k = found_key m other v found in
    not_none v _ found (subst (λ q. tree.get_by (at_bytes q) m ≡ None) (sym k.1) (h.5 e k.0 (subst (IsBelow start.items) k.1 below, tt))))

not_greater : (a b : List ℕ) → IsBelow a b → is_gt (slice_cmp nat_cmp b a) ≡ false → ⊥
not_greater a b below le = true≢false (sym (ap (λ r. is_gt (ordering_reverse r)) below) ∙ ap is_gt (sym (nat_list_cmp_total.antisymm b a)) ∙ le)

pub next_above : (m : Rows) (start : Vec ℕ Global) (r : List (Vec ℕ Global × List ℕ)) (row : Vec ℕ Global × List ℕ) (rest : List (Vec ℕ Global × List ℕ))
    → IsRangeOf vec_cmp (Excluded start) Unbounded m r → r ≡ row ∷ rest → IsNextKey (rows_table m) start.items (Some row.0.items)
next_above m start r row rest h e =
    let first : IsEntryInRange vec_cmp (Excluded start) Unbounded m row = subst (λ t. IfSome (slice_get t 0) (IsEntryInRange vec_cmp (Excluded start) Unbounded m)) e h.1 in (
      first.0.0,
      ap is_some (get_rows m row.0.items ∙ first.1),
      λ other above below. get_rows m other ∙ unless_found _ (λ v found.
          let k = found_key m other v found in
          let least = h.2 k.0 (subst (IsBelow start.items) k.1 above, tt) (ap is_some (subst (λ q. tree.get_by (at_bytes q) m ≡ Some v) k.1 found)) in
          not_greater k.0.items row.0.items (subst (λ q. IsBelow q row.0.items) k.1 below) (subst (λ t. IfSome (slice_get t 0) (λ x. IsLeBy vec_cmp x.0 k.0)) e least)),
    )
