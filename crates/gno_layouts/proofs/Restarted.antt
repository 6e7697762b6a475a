-- Rows that begin anew.
use Rattle.std.proofs.Common.{◌≡◌, refl, sym, ap, ◌∙◌, subst, ℕ, zero, suc, ◌+◌, ◌<◌, ◌≤◌, List, [], Bool, Option, Some, None, length, true, false, inl, inr, rules, arith}
use Rattle.std.specs.Prelude.{◌⊎◌, slice_get, slice_set}
use Rattle.std.specs.List.{AllByRecursion}
use Rattle.std.proofs.lemmas.Option.{slice_get_within}
use Rattle.gno_layouts.specs.declared.row.Row.{Row}
use Rattle.gno_layouts.specs.declared.row.Row.TheVariants as r
use Rattle.gno_layouts.specs.declared.settling.State.{State}
use Rattle.gno_layouts.specs.declared.settling.State.TheVariants.{Waiting, Settled}
use Rattle.gno_layouts.specs.Layouts.{parts, nothing, kept}
use Rattle.gno_layouts.specs.Settling.{Fits, EachDerived, IsDue, IsBoard, AreRows, EachHasRows, AreHolders, Holds}
use Rattle.gno_layouts.proofs.Derived.{settled_state}
use Rattle.gno_layouts.proofs.Ends.{some_at}
use Rattle.gno_layouts.proofs.Boards.{waiting_within}
use Rattle.gno_layouts.proofs.SetAt.{before, set_here, set_elsewhere, Same, here, elsewhere, where_is}

unwrapped : {A : Type 0} {a b : A} → Some a ≡ Some b → a ≡ b
unwrapped e = search (rules, e)

fresh_fits : (states : List State) (row : Row) → Fits states row (Waiting zero nothing)
fresh_fits states row = (nothing, refl, refl, omega arith)

-- what begins is not settled
fresh_derived : (rows : List Row) (states : List State) → ((n : ℕ) (state : State) → slice_get states n ≡ Some state → state ≡ Waiting zero nothing) → EachDerived rows states
fresh_derived rows states begin n layout e = absurd (differ (begin n (Settled layout) (settled_state (slice_get states n) layout e)))
  where
    differ : Settled layout ≡ Waiting zero nothing → ⊥
    differ d = search (rules, d)

pub fresh_board : (rows : List Row) (states : List State) (links : List (Option ℕ)) → length states ≡ length rows → length links ≡ length rows → ((n : ℕ) (state : State) → slice_get states n ≡ Some state → state ≡ Waiting zero nothing)
    → IsBoard rows states links None [] (λ n. zero ≤ n) (length rows)
fresh_board rows states links size linked begin = record {
  size = size;
  linked = linked;
  fits = λ n row state h k. subst (Fits states row) (sym (begin n state k)) (fresh_fits states row);
  derived = fresh_derived rows states begin;
  due = λ n row place held h k known. inl (omega arith);
  stacked = refl;
  told = tt;
  bound = let b = waiting_within states in omega (arith, b, size);
}

-- the next is not among the rest
pub next_left : (number n : ℕ) → number ≤ n → (n ≡ number → ⊥) → number + 1 ≤ n
next_left number n w f = by (where_is n number)
  where
    by : Same n number → number + 1 ≤ n
    by (here e) = absurd (f e)
    by (elsewhere g) = at_least n number w g
      where
        at_least : (k m : ℕ) → m ≤ k → (k ≡ m → ⊥) → m + 1 ≤ k
        at_least zero zero w g = absurd (g refl)
        at_least zero (suc m) w g = absurd (omega (arith, w))
        at_least (suc k) zero w g = omega arith
        at_least (suc k) (suc m) w g = let h = at_least k m (omega (arith, w)) (λ e. g (ap suc e)) in omega (arith, h)

-- each row has begun
pub none_past : (rows : List Row) (states : List State) (links : List (Option ℕ)) (top : Option ℕ) (stack : List ℕ) (room number : ℕ) → length rows ≤ number → IsBoard rows states links top stack (λ n. number ≤ n) room → IsBoard rows states links top stack (λ _. ⊥) room
none_past rows states links top stack room number past is = record {
  size = is.size;
  linked = is.linked;
  fits = is.fits;
  derived = is.derived;
  stacked = is.stacked;
  told = is.told;
  bound = is.bound;
  due = λ n row place held h k known. by n row place (slice_get_within rows n row h) (is.due n row place held h k known);
} where
  by : (n : ℕ) (row : Row) (place : ℕ) → n < length rows → (number ≤ n) ⊎ IsDue states stack row place → ⊥ ⊎ IsDue states stack row place
  by n row place w (inl p) = absurd (omega (arith, w, p, past))
  by n row place w (inr d) = inr d

-- ---- rows of which some are undefined again

parts_kept : (P : ℕ → Type 0) (row : Row) (b : Bool) → AllByRecursion P (parts row) → AllByRecursion P (parts (kept row b))
parts_kept P (r.Single c) b h = h
parts_kept P (r.Array l of) b h = h
parts_kept P (r.Struct fs) b h = h
parts_kept P (r.Defined of) false h = tt
parts_kept P (r.Defined of) true h = h

module _ (rows : List Row) (b : ℕ → Bool) where
  -- the rows before a number
  pub record Forgot (less : List Row) (number : ℕ) : Type 0 where
    pub done : (n : ℕ) (row : Row) → n < number → slice_get rows n ≡ Some row → slice_get less n ≡ Some (kept row (b n))
    pub left : (n : ℕ) → number ≤ n → slice_get less n ≡ slice_get rows n

  pub forgot_on : (less : List Row) (number : ℕ) → Forgot less number → (row new : Row) → slice_get less number ≡ Some row → new ≡ kept row (b number) → Forgot (slice_set less number new) (number + 1)
  forgot_on less number is row new there made = record {
    done = λ n r w h. by n r w h (where_is n number);
    left = λ n w. set_elsewhere less number new n (λ e. absurd (omega (arith, w, e))) ∙ is.left n (omega (arith, w));
  } where
    by : (n : ℕ) (r : Row) → n < number + 1 → slice_get rows n ≡ Some r → Same n number → slice_get (slice_set less number new) n ≡ Some (kept r (b n))
    by n r w h (elsewhere f) = set_elsewhere less number new n f ∙ is.done n r (before n number w f) h
    by n r w h (here e) =
        let same : row ≡ r = unwrapped (sym there ∙ sym (ap (slice_get less) e) ∙ is.left n (omega (arith, e)) ∙ h) in
        ap (slice_get (slice_set less number new)) e ∙ set_here less number new (slice_get_within less number row there) ∙ ap Some (made ∙ ap (λ x. kept x (b number)) same ∙ ap (λ k. kept r (b k)) (sym e))

module _ (rows less : List Row) (b : ℕ → Bool) (size : length less ≡ length rows)
    (each : (n : ℕ) (row : Row) → slice_get rows n ≡ Some row → slice_get less n ≡ Some (kept row (b n))) where
  pub record Before (n : ℕ) (row : Row) : Type 0 where
    pub old : Row
    pub there : slice_get rows n ≡ Some old
    pub is : kept old (b n) ≡ row

  before_row : (n : ℕ) (row : Row) → slice_get less n ≡ Some row → Before n row
  before_row n row h =
      let w = slice_get_within less n row h in
      let x = some_at rows n (omega (arith, w, size)) in
      record { old = x.0; there = x.1; is = unwrapped (sym (each n x.0 x.1) ∙ h) }

  pub kept_parts : EachHasRows rows → EachHasRows less
  kept_parts are n row h =
      let f : Before n row = before_row n row h in
      subst (λ k. AreRows k row) (sym size) (subst (AreRows (length rows)) f.is (parts_kept (λ k. k < length rows) f.old (b n) (are n f.old f.there)))

  pub kept_holders : (holders : List (List ℕ)) → AreHolders rows holders → AreHolders less holders
  kept_holders holders are = record {
    size = are.size ∙ sym size;
    each = λ n row h. let f : Before n row = before_row n row h in subst (λ x. AllByRecursion (Holds holders n) (parts x)) f.is (parts_kept (Holds holders n) f.old (b n) (are.each n f.old f.there));
  }
