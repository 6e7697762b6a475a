-- Changes gathered by their keys: what one more leaves at each key, and that the keys rise.
use Rattle.std.proofs.Common.{◌≡◌, ℕ, List, [], ◌∷◌, ◌++◌, ap, ◌∙◌, refl, sym}
use Rattle.std.specs.Prelude.{Option, Some, None, Bool, true, false, cond, map}
use Rattle.std.specs.Str.{bytes_eq}
use Rattle.std.specs.List.{AllByRecursion}
use Rattle.std.specs.List.Sorted.{IsStrictlySortedBy}
use Rattle.std.specs.Ordering.{nat_cmp, is_eq, eq_by_cmp, match_ordering}
use Rattle.std.specs.declared.cmp.Ordering.TheVariants.{Less, Equal, Greater}
use Rattle.std.specs.Cmp.{eq_by_cmp_equiv, IsTotalOrder}
use Rattle.std.specs.Cmp.Lexicographic.{slice_cmp, nat_list_cmp_total, bytes_decides}
use Rattle.std.specs.declared.vec.Vec.{Vec}
use Rattle.std.specs.declared.alloc.Global.{Global}
use Rattle.std.specs.BTreeMap.{insert_entry, is_at}
use Rattle.std.specs.Map.{keys_of}
use Rattle.std.proofs.lemmas.Bool.{cases_Bool, or_from}
use Rattle.std.proofs.lemmas.Map.{NonePasses}
use Rattle.std.proofs.lemmas.Map.Entries.{none_below_head, none_past_head}
use Rattle.std.proofs.lemmas.Map.Keys.{sorted_head, sorted_tail}
use Rattle.std.proofs.lemmas.Map.Text.{is_eq-slice_cmp}
use mathlib.Core.Logic.{⊎_elim}
use mathlib.Core.Path.{subst}
use Rattle.gno_port.specs.declared.keeper.Change.{Change}
use Rattle.gno_port.specs.Changes.{changes_of}
use Rattle.gno_port.specs.Tables.{latest, IsRising}
use Rattle.gno_port.proofs.TableLemmas.{has_key, latest-other, latest-append}
use Rattle.gno_port.proofs.RowLemmas.{vec_cmp, at_bytes, order-IsAntisymmetric}

abbrev Value : Type 0
Value = Option (List ℕ)

abbrev Entries : Type 0
Entries = List (Vec ℕ Global × Value)

lacks : (q : List ℕ) (es : Entries) → NonePasses (is_at (at_bytes q)) es → has_key (changes_of es) q ≡ false
lacks q [] h = refl
lacks q (e ∷ es) h = or_from _ _ (sym (is_eq-slice_cmp q e.0.items) ∙ h.0) (lacks q es h.1)

vec_total : IsTotalOrder vec_cmp
vec_total = record {
  antisymm = λ x y. nat_list_cmp_total.antisymm x.items y.items;
  trans = λ x y z. nat_list_cmp_total.trans x.items y.items z.items;
  congr = λ x y z. nat_list_cmp_total.congr x.items y.items z.items;
}

below_rest : (k : Vec ℕ Global) (es : Entries) → AllByRecursion (λ y. vec_cmp k y ≡ Less) (keys_of es) → NonePasses (is_at (at_bytes k.items)) es
below_rest k [] h = tt
below_rest k (e ∷ es) h = (ap is_eq h.0, below_rest k es h.1)

-- where the key stands nowhere among the changes behind it, it is as if it were the last
early : (rest : List Change) (k q : List ℕ) (v : Value) (x y : Value) → has_key rest k ≡ false → x ≡ cond (bytes_eq q k) v y → latest rest q x ≡ cond (bytes_eq q k) v (latest rest q y)
early rest k q v x y none e =
    ap (latest rest q) e
    ∙ elim (bytes_eq q k) as (λ b. bytes_eq q k ≡ b → latest rest q (cond b v y) ≡ cond b v (latest rest q y)) [
      | true ↦ λ is. latest-other rest q v (ap (has_key rest) ((bytes_decides q k).0 is) ∙ none)
      | false ↦ λ _. refl
    ] refl

inserted : (es : Entries) (k : Vec ℕ Global) (v : Value) → IsStrictlySortedBy vec_cmp (keys_of es) → (q : List ℕ) (b : Value)
    → latest (changes_of (insert_entry vec_cmp es k v)) q b ≡ cond (bytes_eq q k.items) v (latest (changes_of es) q b)
inserted [] k v s q b = refl
inserted (e ∷ es) k v s q b =
    elim (vec_cmp k e.0) as (λ r. vec_cmp k e.0 ≡ r → latest (changes_of (match_ordering r ((k, v) ∷ e ∷ es) ((e.0, v) ∷ es) (e ∷ insert_entry vec_cmp es k v))) q b
    ≡ cond (bytes_eq q k.items) v (latest (changes_of (e ∷ es)) q b)) [
      | Less ↦ λ lt. early (changes_of (e ∷ es)) k.items q v _ b (lacks k.items (e ∷ es) (none_below_head vec_total k e es s lt)) refl
      | Equal ↦ λ eq. let same : k.items ≡ e.0.items = order-IsAntisymmetric k.items e.0.items eq in
          early (changes_of es) k.items q v _ (cond (bytes_eq q e.0.items) e.1 b) (ap (has_key (changes_of es)) same ∙ lacks e.0.items es (below_rest e.0 es (sorted_head vec_cmp e.0 (keys_of es) s)))
          (twice q k.items e.0.items v e.1 b same)
      | Greater ↦ λ gt. inserted es k v (sorted_tail vec_cmp e.0 (keys_of es) s) q (cond (bytes_eq q e.0.items) e.1 b)
    ] refl
  where
    twice : (q k e : List ℕ) (v w b : Value) → k ≡ e → cond (bytes_eq q e) v b ≡ cond (bytes_eq q k) v (cond (bytes_eq q e) w b)
    twice q k e v w b p = subst (λ x. cond (bytes_eq q e) v b ≡ cond (bytes_eq q x) v (cond (bytes_eq q e) w b)) (sym p)
        (elim (bytes_eq q e) as (λ t. cond t v b ≡ cond t v (cond t w b)) [ true ↦ refl | false ↦ refl ])

abbrev pub change_at : List ℕ → Value → Change
change_at key value = record { key = key; value = value }

-- a change put in its place leaves what it leaves at the end
pub inserted_last : (es new : Entries) (k : Vec ℕ Global) (v : Value) → IsStrictlySortedBy vec_cmp (keys_of es) → new ≡ insert_entry vec_cmp es k v → (q : List ℕ) (b : Value)
    → latest (changes_of new) q b ≡ latest (changes_of es ++ change_at k.items v ∷ []) q b
inserted_last es new k v s e q b = ap (λ t. latest (changes_of t) q b) e ∙ inserted es k v s q b ∙ sym (latest-append (changes_of es) (change_at k.items v ∷ []) q b)

all_below : (k : Vec ℕ Global) (es : Entries) → AllByRecursion (λ y. vec_cmp k y ≡ Less) (keys_of es) → AllByRecursion (λ y. slice_cmp nat_cmp k.items y ≡ Less) (map (λ c. c.key) (changes_of es))
all_below k [] h = tt
all_below k (e ∷ es) h = (h.0, all_below k es h.1)

pub rising : (es : Entries) → IsStrictlySortedBy vec_cmp (keys_of es) → IsRising (changes_of es)
unfolding IsStrictlySortedBy
rising [] s = tt
rising (e ∷ es) s = (all_below e.0 es s.0, rising es s.1)
