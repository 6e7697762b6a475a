-- The first rows.
use Rattle.std.proofs.Common.{◌≡◌, refl, sym, ap, ◌∙◌, ℕ, zero, suc, ◌-◌, ◌<◌, ◌≤◌, List, [], ◌∷◌, ◌++◌, Option, Some, length, true, length-append, take, arith}
use Rattle.std.specs.Prelude.{slice_get}
use Rattle.std.specs.List.{AllByRecursion}
use Rattle.std.proofs.lemmas.List.{length-take-le}
use Rattle.std.proofs.lemmas.Option.{slice_get_within}
use Rattle.gno_layouts.specs.declared.row.Row.{Row}
use Rattle.gno_layouts.specs.declared.settling.State.{State}
use Rattle.gno_layouts.specs.declared.settling.State.TheVariants.{Settled}
use Rattle.gno_layouts.specs.Layouts.{parts, is_known}
use Rattle.gno_layouts.specs.Settling.{layout_of, EachDerived, AreRows, EachHasRows, AreLayouts, Holds}
use Rattle.gno_layouts.proofs.Agreed.{Agree, fits_agree, waits_agree}
use Rattle.gno_layouts.proofs.Derived.{settled_state, derived_stays}

module _ {A : Type 0} where
  pub get_taken : (size : ℕ) (xs : List A) (n : ℕ) → n < size → slice_get (take size xs) n ≡ slice_get xs n
  get_taken zero xs n w = absurd (omega (arith, w))
  get_taken (suc size) [] n w = refl
  get_taken (suc size) (x ∷ xs) zero w = refl
  get_taken (suc size) (x ∷ xs) (suc n) w = get_taken size xs n (omega (arith, w))

  -- a list of one element more
  pub taken_init : (xs ys : List A) (y : A) → xs ≡ ys ++ y ∷ [] → take (length xs - 1) xs ≡ ys
  taken_init xs ys y e = ap (λ l. take (length l - 1) l) e ∙ ap (λ n. take n (ys ++ y ∷ [])) (one ys) ∙ front ys
    where
      one : (l : List A) → length (l ++ y ∷ []) - 1 ≡ length l
      one l = let k = length-append l (y ∷ []) in omega (arith, k)

      front : (l : List A) → take (length l) (l ++ y ∷ []) ≡ l
      front [] = refl
      front (x ∷ l) = ap (λ z. x ∷ z) (front l)

module _ (rows : List Row) (states : List State) (holders : List (List ℕ)) (links : List (Option ℕ)) (are : AreLayouts rows states holders links) (size : ℕ) (within : size ≤ length rows) (parts_within : EachHasRows (take size rows)) where
  count : {A : Type 0} (xs : List A) → length xs ≡ length rows → length (take size xs) ≡ length (take size rows)
  count xs e = length-take-le size xs (omega (arith, e, within)) ∙ sym (length-take-le size rows within)

  agree : Agree (length (take size rows)) states (take size states)
  agree n w = get_taken size states n (let z = length-take-le size rows within in omega (arith, z, w))

  row_below : (n : ℕ) (r : Row) → slice_get (take size rows) n ≡ Some r → n < size
  row_below n r h = let w = slice_get_within (take size rows) n r h in let z = length-take-le size rows within in omega (arith, w, z)

  row_at : (n : ℕ) (r : Row) → slice_get (take size rows) n ≡ Some r → slice_get rows n ≡ Some r
  row_at n r h = sym (get_taken size rows n (row_below n r h)) ∙ h

  state_at : (n : ℕ) (r : Row) (s : State) → slice_get (take size rows) n ≡ Some r → slice_get (take size states) n ≡ Some s → slice_get states n ≡ Some s
  state_at n r s h k = sym (get_taken size states n (row_below n r h)) ∙ k

  -- a row that is left has the parts that it had
  row_stays : (n : ℕ) (r : Row) → n < length (take size rows) → slice_get rows n ≡ Some r → is_known r ≡ true → (slice_get (take size rows) n ≡ Some r) × AreRows (length (take size rows)) r
  row_stays n r w h known =
      let below : n < size = (let z = length-take-le size rows within in omega (arith, w, z)) in
      let there : slice_get (take size rows) n ≡ Some r = get_taken size rows n below ∙ h in
      (there, parts_within n r there)

  derived : EachDerived (take size rows) (take size states)
  derived n layout e =
      let w = slice_get_within (take size states) n (Settled layout) (settled_state (slice_get (take size states) n) layout e) in
      let z = count states are.settled.size in
      let left : n < length (take size rows) = omega (arith, w, z) in
      derived_stays rows (take size rows) (λ k. k < length (take size rows)) row_stays n layout left (are.settled.derived n layout (sym (ap layout_of (agree n left)) ∙ e))

  still : (m n : ℕ) → n < length (take size rows) → Holds holders m n → Holds (take size holders) m n
  still m n w h = (h.0, get_taken size holders n (let z = length-take-le size rows within in omega (arith, w, z)) ∙ h.1, h.2)

  each_still : (m : ℕ) (ns : List ℕ) → AllByRecursion (λ n. n < length (take size rows)) ns → AllByRecursion (Holds holders m) ns → AllByRecursion (Holds (take size holders) m) ns
  each_still m [] b h = tt
  each_still m (n ∷ ns) b h = (still m n b.0 h.0, each_still m ns b.1 h.1)

  pub taken : AreLayouts (take size rows) (take size states) (take size holders) (take size links)
  taken = record {
    parts = parts_within;
    settled = record {
      size = count states are.settled.size;
      fits = λ n r s h k. fits_agree (length (take size rows)) states (take size states) agree r s (parts_within n r h) (are.settled.fits n r s (row_at n r h) (state_at n r s h k));
      derived = derived;
      waits = λ n r s h k. waits_agree (length (take size rows)) states (take size states) agree r s (parts_within n r h) (are.settled.waits n r s (row_at n r h) (state_at n r s h k));
    };
    held = record {
      size = count holders are.held.size;
      each = λ n r h. each_still n (parts r) (parts_within n r h) (are.held.each n r (row_at n r h));
    };
    linked = count links are.linked;
  }
