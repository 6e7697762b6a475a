-- A walk has no more nodes than there are types, and its end.
use Rattle.std.proofs.Common.{◌≡◌, refl, sym, ap, ◌∙◌, ℕ, zero, suc, ◌+◌, ◌-◌, ◌<◌, ◌≤◌, List, [], ◌∷◌, Bool, true, false, ◌||◌, Some, length, map, take, drop, arith, inl, inr, rules, eqb, get_or}
use Rattle.std.specs.Prelude.{slice_get, ◌⊎◌}
use Rattle.std.specs.List.{list_any}
use Rattle.std.proofs.lemmas.Bool.Decides.{Decides-eqb}
use Rattle.std.proofs.lemmas.Map.Keys.{IsDistinct-from_apart}
use Rattle.std.proofs.lemmas.Map.Steps.{length-le_from_distinct_below}
use Rattle.std.proofs.lemmas.Option.{same_Some, slice_get_within, get_or_from_slice_get}
use Rattle.gno_layouts.proofs.Ends.{some_at}
use Rattle.gno_terms.specs.declared.term.GoType.{GoType}
use Rattle.gno_terms.specs.declared.term.TermOf.{TermOf}
use Rattle.gno_terms.specs.declared.term.TermOf.TheVariants as t
use Rattle.gno_terms.specs.declared.term.TypeRef.{TypeRef}
use Rattle.gno_terms.specs.Tables.{Table, Is, PartsBelow, deep}
use Rattle.gno_type_rows.proofs.Defining.{ref_eq}
use Rattle.gno_embedding.specs.declared.ways.Reached.{Reached}
use Rattle.gno_embedding.specs.Embedding.{IsKnown, fields_in}
use Rattle.gno_embedding.specs.Nodes.{IsOfNode}
use Rattle.gno_embedding.specs.Reaching.{AreReached, IsBlocked, number_of}
use Rattle.gno_embedding.specs.Same.{may_embed}
use Rattle.gno_embedding.specs.Walking.{HasOneDefinition, HasOneNumber, IsWalk, IsWalking}
use Rattle.gno_embedding.proofs.Ends.{begun, blocked, reached_all}
use Rattle.gno_embedding.proofs.Opened.{mapped, same_size, own_fields}
use Rattle.gno_embedding.proofs.Walked.{all_fields, one_type}

either : (a b : Bool) → (a || b) ≡ true → (a ≡ true) ⊎ (b ≡ true)
either true b e = inl refl
either false b e = inr e

not_true : (b : Bool) → (b ≡ true → ⊥) → b ≡ false
not_true true f = absurd (f refl)
not_true false f = refl

abbrev number : Reached → ℕ
number it = it.of.0

later_any : (q : ℕ) (x : Reached) (its : List Reached) → (i : ℕ) × (it : Reached) × (slice_get its i ≡ Some it) × (q ≡ it.of.0) → (i : ℕ) × (it : Reached) × (slice_get (x ∷ its) i ≡ Some it) × (q ≡ it.of.0)
later_any q x its r = (suc r.0, r.1, r.2, r.3)

any_at : (q : ℕ) (its : List Reached) → list_any (eqb q) (map number its) ≡ true → (i : ℕ) × (it : Reached) × (slice_get its i ≡ Some it) × (q ≡ it.of.0)
any_at q [] e = absurd (search (rules, e))
any_at q (x ∷ its) e = by (any_at q its) (either (eqb q x.of.0) (list_any (eqb q) (map number its)) e)
  where
    by : (list_any (eqb q) (map number its) ≡ true → (i : ℕ) × (it : Reached) × (slice_get its i ≡ Some it) × (q ≡ it.of.0)) → (eqb q x.of.0 ≡ true) ⊎ (list_any (eqb q) (map number its) ≡ true)
        → (i : ℕ) × (it : Reached) × (slice_get (x ∷ its) i ≡ Some it) × (q ≡ it.of.0)
    by later (inl h) = (0, x, refl, (Decides-eqb q x.of.0).0 h)
    by later (inr h) = later_any q x its (later h)

module _ (table : Table) (s : GoType) (root : Reached) (its : List Reached) (types : List GoType) (m i : ℕ) (walk : IsWalk table s (root ∷ its) types m i) where
  type_at_place : (k : ℕ) (it : Reached) → slice_get its k ≡ Some it → (x : GoType) × (slice_get types (suc k) ≡ Some x) × Is table it.of x
  type_at_place k it h =
      let w = slice_get_within its k it h in
      let x = some_at types (suc k) (let z = walk.size in omega (arith, w, z)) in
      (x.0, x.1, walk.is (suc k) it x.0 h x.1 (omega arith))

  apart : (j k d : ℕ) → j < k → k < length (map number its) → eqb (get_or (map number its) j d) (get_or (map number its) k d) ≡ false
  apart j k d lt within =
      let size = same_size number its in
      let a = some_at its j (omega (arith, lt, within, size)) in
      let b = some_at its k (omega (arith, within, size)) in
      let p : get_or (map number its) j d ≡ a.0.of.0 = get_or_from_slice_get (map number its) j a.0.of.0 d (mapped number its j a.0 a.1) in
      let q : get_or (map number its) k d ≡ b.0.of.0 = get_or_from_slice_get (map number its) k b.0.of.0 d (mapped number its k b.0 b.1) in
      let x = type_at_place j a.0 a.1 in
      let y = type_at_place k b.0 b.1 in
      not_true _ (λ e. (
      let same : a.0.of.0 ≡ b.0.of.0 = sym p ∙ (Decides-eqb _ _).0 e ∙ q in
      let one = walk.once (suc j) (suc k) y.0 (x.1 ∙ ap Some (one_type table a.0.of b.0.of x.0 y.0 (ref_eq a.0.of b.0.of same) x.2 y.2)) y.1 in
      omega (arith, one, lt)))

  below : (q : ℕ) → list_any (eqb q) (map number its) ≡ true → q < length table.types
  below q e =
      let r = any_at q its e in
      let x = type_at_place r.0 r.1 r.2 in
      let w = slice_get_within table.types r.1.of.0 x.0 x.2 in
      let same = r.3 in
      omega (arith, w, same)

  bounded_by : length (root ∷ its) ≤ length table.types + 1
  bounded_by =
      let n = length-le_from_distinct_below (map number its) (length table.types) (IsDistinct-from_apart eqb (map number its) apart) below in
      let size = same_size number its in
      omega (arith, n, size)

pub bounded : (table : Table) (s : GoType) (nodes : List Reached) (m i : ℕ) → IsWalking table s nodes m i → length nodes ≤ length table.types + 1
bounded table s [] m i w = omega arith
bounded table s (root ∷ its) m i w = bounded_by table s root its w.0 m i w.1

no_fields : (x : TermOf TypeRef) → may_embed x ≡ false → fields_in x ≡ []
no_fields (t.Struct fs) e = absurd (search (rules, e))
no_fields _ e = refl

not_given : (x : TermOf TypeRef) → may_embed x ≡ false → (a b : List ℕ) (c : ℕ) → x ≡ t.Defined a b c → ⊥
not_given x e a b c h =
    let f : true ≡ false = ap may_embed (sym h) ∙ e in
    search (rules, f)

-- a type that has no fields
pub nothing_reached : (table : Table) → HasOneDefinition table → HasOneNumber table → (r : TypeRef) (x : TermOf TypeRef) → PartsBelow (length table.types) x → may_embed x ≡ false → AreReached table (deep table.types x) []
nothing_reached table one number r x below e =
    let s : GoType = deep table.types x in
    let root : Reached = record { of = r; depth = 0; followed = false; twice = false; from = 0; place = 0; pointer = false } in
    let begin : IsWalking table s (root ∷ []) 0 0 = (s ∷ [], begun table s root refl refl refl) in
    let of : IsOfNode table s (root ∷ []) 0 s = record { node = root; at = refl; itself = λ z. refl; other = λ w. absurd (omega (arith, w)) } in
    let w = all_fields table one number s (root ∷ []) 0 0 begin s of [] (own_fields table x [] below (not_given x e) (sym (no_fields x e))) refl in
    reached_all table s root [] w.0 1 0 w.1 one refl

pub reached_from : (table : Table) → HasOneDefinition table → (s : GoType) (nodes : List Reached) (m : ℕ) → IsWalking table s nodes m 0 → m ≡ length nodes → AreReached table s (drop 1 nodes)
reached_from table one s [] m w e = absurd (search (rules, w.1.first_at))
reached_from table one s (root ∷ its) m w e = reached_all table s root its w.0 m 0 w.1 one e

take_size : (n : ℕ) (xs : List Reached) → n ≤ length xs → length (take n xs) ≡ n
take_size zero xs w = refl
take_size (suc n) [] w = absurd (omega (arith, w))
take_size (suc n) (x ∷ xs) w = (let r = take_size n xs (omega (arith, w)) in omega (arith, r))

take_at : (n : ℕ) (xs : List Reached) (k : ℕ) (x : Reached) → slice_get (take n xs) k ≡ Some x → slice_get xs k ≡ Some x
take_at zero xs k x h = absurd (search (rules, h))
take_at (suc n) [] k x h = absurd (search (rules, h))
take_at (suc n) (y ∷ xs) zero x h = h
take_at (suc n) (y ∷ xs) (suc k) x h = take_at n xs k x h

pub blocked_from : (table : Table) (s : GoType) (nodes : List Reached) (m i : ℕ) → IsWalking table s nodes m i → m < length nodes → ((u : GoType) → IsOfNode table s nodes m u → IsKnown table u → ⊥) → IsBlocked table s (map number_of (take m (drop 1 nodes)))
blocked_from table s [] m i w lt f = absurd (omega (arith, lt))
blocked_from table s (root ∷ its) m i w lt f =
    let walk = w.1 in
    let x = some_at w.0 m (let z = walk.size in omega (arith, lt, z)) in
    let it = some_at (root ∷ its) m lt in
    let of : IsOfNode table s (root ∷ its) m x.0 = record {
      node = it.0;
      at = it.1;
      itself = λ e. same_Some x.0 s (sym x.1 ∙ ap (slice_get w.0) e ∙ walk.first_type);
      other = λ pos. walk.is m it.0 x.0 it.1 x.1 pos;
    } in
    blocked table s root its w.0 m i walk x.0 x.1 (f x.0 of) (take m its) (take_size m its (omega (arith, lt))) (λ k it h. take_at m its k it h)

take_all : (xs : List Reached) → take (length xs) xs ≡ xs
take_all [] = refl
take_all (x ∷ xs) = ap (λ ys. x ∷ ys) (take_all xs)

pub behind_first : (xs : List Reached) → take (length xs - 1) (drop 1 xs) ≡ drop 1 xs
behind_first [] = search (rules)
behind_first (x ∷ xs) =
    let e : suc (length xs) - 1 ≡ length xs = omega arith in
    ap (λ n. take n xs) e ∙ take_all xs
