-- A row whose underlying type is told.
use Rattle.std.proofs.Common.{◌≡◌, refl, sym, ap, ◌∙◌, subst, ℕ, zero, ◌<◌, List, [], Option, Some, None, length, take, true, false, inl, inr, rules, arith}
use Rattle.std.specs.Prelude.{◌⊎◌, ⊤, slice_get, slice_set}
use Rattle.std.specs.List.{AllByRecursion}
use Rattle.std.proofs.lemmas.Option.{slice_get_within}
use Rattle.gno_layouts.specs.declared.row.Layout.{Layout}
use Rattle.gno_layouts.specs.declared.row.Row.{Row}
use Rattle.gno_layouts.specs.declared.row.Row.TheVariants.{Defined}
use Rattle.gno_layouts.specs.declared.settling.State.{State}
use Rattle.gno_layouts.specs.declared.settling.State.TheVariants.{Waiting, Settled}
use Rattle.gno_layouts.specs.Layouts.{parts, is_known}
use Rattle.gno_layouts.specs.Settling.{Totals, Fits, EachDerived, IsDue, IsBoard, AreRows, EachHasRows, AreHolders, AreLayouts, Holds}
use Rattle.gno_layouts.proofs.Agreed.{each_wider}
use Rattle.gno_layouts.proofs.Boards.{waiting_within}
use Rattle.gno_layouts.proofs.Derived.{each_true, derived_stays}
use Rattle.gno_layouts.proofs.SetAt.{set_size, set_here, set_elsewhere, Same, here, elsewhere, where_is}

unwrapped : {A : Type 0} {a b : A} → Some a ≡ Some b → a ≡ b
unwrapped e = search (rules, e)

module _ (rows : List Row) (states : List State) (holders : List (List ℕ)) (links : List (Option ℕ)) (are : AreLayouts rows states holders links) (number of : ℕ) (undefined : slice_get rows number ≡ Some (Defined None)) (within : of < length rows) where
  abbrev new : Row
  new = Defined (Some of)

  abbrev rows' : List Row
  rows' = slice_set rows number new

  size' : length rows' ≡ length rows
  size' = set_size rows number new

  new_at : slice_get rows' number ≡ Some new
  new_at = set_here rows number new (slice_get_within rows number (Defined None) undefined)

  -- the new row, or another
  data Which (n : ℕ) (r : Row) : Type 0 where
    it : n ≡ number → new ≡ r → Which n r
    other : (n ≡ number → ⊥) → slice_get rows n ≡ Some r → Which n r

  which_by : (n : ℕ) (r : Row) → slice_get rows' n ≡ Some r → Same n number → Which n r
  which_by n r h (here e) = it e (unwrapped (sym new_at ∙ ap (slice_get rows') (sym e) ∙ h))
  which_by n r h (elsewhere f) = other f (sym (set_elsewhere rows number new n f) ∙ h)

  which : (n : ℕ) (r : Row) → slice_get rows' n ≡ Some r → Which n r
  which n r h = which_by n r h (where_is n number)

  pub defined_parts : EachHasRows rows'
  defined_parts n r h = by (which n r h)
    where
      same : (k : ℕ) → k < length rows → k < length rows'
      same k w = let e = size' in omega (arith, w, e)

      by : Which n r → AreRows (length rows') r
      by (it e f) = subst (AreRows (length rows')) f (same of within, tt)
      by (other f k) = each_wider (λ i. i < length rows) (λ i. i < length rows') same (parts r) (are.parts n r k)

  module _ (more : List (List ℕ)) (size : length more ≡ length holders) (grows : (m n : ℕ) → Holds holders m n → Holds more m n) (noted : Holds more number of) where
    pub defined_holders : AreHolders rows' more
    defined_holders = record { size = size ∙ are.held.size ∙ sym size'; each = λ n r h. by n r (which n r h) }
      where
        by : (n : ℕ) (r : Row) → Which n r → AllByRecursion (Holds more n) (parts r)
        by n r (it e f) = subst (λ x. AllByRecursion (Holds more n) (parts x)) f (subst (λ m. Holds more m of) (sym e) noted, tt)
        by n r (other f k) = each_wider (Holds holders n) (Holds more n) (grows n) (parts r) (are.held.each n r k)

  -- what waited with no part waits for the new one
  begun : (state : State) → Fits states (Defined None) state → Fits states new state
  begun (Waiting place held) f =
      let none : place ≡ zero = (let w = f.3 in omega (arith, w)) in
      subst (λ p. Fits states new (Waiting p held)) (sym none) (f.0, subst (λ p. Totals states (take p []) f.0) none f.1, f.2, omega arith)
  begun (Settled layout) f = absurd (differ f.0)
    where
      differ : false ≡ true → ⊥
      differ e = search (rules, e)

  -- a row that was known is still there
  row_stays : (n : ℕ) (r : Row) → slice_get rows n ≡ Some r → is_known r ≡ true → slice_get rows' n ≡ Some r
  row_stays n r h known = by (where_is n number)
    where
      differ : false ≡ true → ⊥
      differ e = search (rules, e)

      by : Same n number → slice_get rows' n ≡ Some r
      by (elsewhere f) = set_elsewhere rows number new n f ∙ h
      by (here e) =
          let same : Defined None ≡ r = unwrapped (sym undefined ∙ ap (slice_get rows) (sym e) ∙ h) in
          absurd (differ (ap is_known same ∙ known))

  defined_derived : EachDerived rows' states
  defined_derived n layout e = derived_stays rows rows' (λ _. ⊤) (λ k r p h known. (row_stays k r h known, each_true (parts r))) n layout tt (are.settled.derived n layout e)

  pub defined_board : IsBoard rows' states links None [] (λ n. n ≡ number) (length rows')
  defined_board = record {
    size = are.settled.size ∙ sym size';
    linked = are.linked ∙ sym size';
    fits = λ n r s h k. fits_by n r s k (which n r h);
    derived = defined_derived;
    due = λ n r place held h k known. due_by n r place held k known (which n r h);
    stacked = refl;
    told = tt;
    bound = let b = waiting_within states in let a = are.settled.size in let e = size' in omega (arith, a, b, e);
  } where
    fits_by : (n : ℕ) (r : Row) (s : State) → slice_get states n ≡ Some s → Which n r → Fits states r s
    fits_by n r s k (it e f) = subst (λ x. Fits states x s) f (begun s (are.settled.fits number (Defined None) s undefined (ap (slice_get states) (sym e) ∙ k)))
    fits_by n r s k (other f h) = are.settled.fits n r s h k

    due_by : (n : ℕ) (r : Row) (place : ℕ) (held : Layout) → slice_get states n ≡ Some (Waiting place held) → is_known r ≡ true → Which n r → (n ≡ number) ⊎ IsDue states [] r place
    due_by n r place held k known (it e f) = inl e
    due_by n r place held k known (other f h) = let up = are.settled.waits n r (Waiting place held) h k known in inr (up.0, up.1, inl up.2)
