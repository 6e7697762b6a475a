-- How rows settle, one after another.
use Rattle.std.proofs.Common.{◌≡◌, refl, sym, ap, ◌∙◌, subst, ℕ, zero, suc, ◌+◌, ◌<◌, ◌≤◌, List, [], ◌∷◌, Option, Some, None, length, take, true, inl, inr, rules, arith}
use Rattle.std.specs.Prelude.{◌⊎◌, slice_get, slice_set}
use Rattle.std.specs.List.{AllByRecursion}
use Rattle.std.proofs.lemmas.Option.{slice_get_within}
use Rattle.gno_layouts.specs.declared.row.Layout.{Layout}
use Rattle.gno_layouts.specs.declared.row.Row.{Row}
use Rattle.gno_layouts.specs.declared.settling.State.{State}
use Rattle.gno_layouts.specs.declared.settling.State.TheVariants.{Waiting, Settled}
use Rattle.gno_layouts.specs.Layouts.{parts, is_known}
use Rattle.gno_layouts.specs.Settling.{layout_of, settled_at, In, Fits, IsHeldUp, EachFits, Derived, EachDerived, weight, waiting, Stacked, IsDue, IsBoard, IsIdle, CanGoOn, Visited, idle, waits, settles}
use Rattle.gno_layouts.proofs.Derived.{state_derived}
use Rattle.gno_layouts.proofs.SetAt.{set_size, set_here, set_elsewhere, Same, here, elsewhere, where_is}
use Rattle.gno_layouts.proofs.Totals.{Later, totals_later}

-- ---- what is settled

some_is_none : {a : Layout} {A : Type 0} → Some a ≡ None → A
some_is_none e = absurd (search (rules, e))

unwrapped : {A : Type 0} {a b : A} → Some a ≡ Some b → a ≡ b
unwrapped e = search (rules, e)

-- a state that waits has no layout
pub waits_at : (states : List State) (n place : ℕ) (held : Layout) → slice_get states n ≡ Some (Waiting place held) → settled_at states n ≡ None
waits_at states n place held e = ap layout_of e

-- another state where one waited
module _ (states : List State) (n : ℕ) (place : ℕ) (held : Layout) (there : slice_get states n ≡ Some (Waiting place held)) (new : State) where
  within : n < length states
  within = slice_get_within states n (Waiting place held) there

  pub at_new : slice_get (slice_set states n new) n ≡ Some new
  at_new = set_here states n new within

  pub at_other : (k : ℕ) → (k ≡ n → ⊥) → slice_get (slice_set states n new) k ≡ slice_get states k
  at_other k f = set_elsewhere states n new k f

  pub later_set : Later states (slice_set states n new)
  later_set k a e = by (where_is k n)
    where
      by : Same k n → settled_at (slice_set states n new) k ≡ Some a
      by (here h) = some_is_none (sym (subst (λ i. settled_at states i ≡ Some a) h e) ∙ waits_at states n place held there)
      by (elsewhere f) = ap layout_of (at_other k f) ∙ e

  -- what is not settled is still not, but for n
  pub none_set : (k : ℕ) → (k ≡ n → ⊥) → settled_at states k ≡ None → settled_at (slice_set states n new) k ≡ None
  none_set k f e = ap layout_of (at_other k f) ∙ e

fits_later : (states later : List State) → Later states later → (row : Row) (state : State) → Fits states row state → Fits later row state
fits_later states later h row (Waiting place held) f = (f.0, totals_later states later h (take place (parts row)) f.0 f.1, f.2, f.3)
fits_later states later h row (Settled layout) f = (f.0, f.1, totals_later states later h (parts row) f.1 f.2, f.3)

told_later : (states later : List State) → Later states later → (ns : List ℕ) → AllByRecursion (λ n. (a : Layout) × (settled_at states n ≡ Some a)) ns → AllByRecursion (λ n. (a : Layout) × (settled_at later n ≡ Some a)) ns
told_later states later h [] t = tt
told_later states later h (n ∷ ns) t = ((t.0.0, h n t.0.0 t.0.1), told_later states later h ns t.1)

-- ---- how many wait

waiting_set : (states : List State) (n place : ℕ) (held : Layout) (new : State) → slice_get states n ≡ Some (Waiting place held) → waiting (slice_set states n new) + 1 ≡ waiting states + weight new
waiting_set [] n place held new e = absurd (search (rules, e))
waiting_set (s ∷ ss) zero place held new e = let k : weight s ≡ 1 = ap weight (unwrapped e) in omega (arith, k)
waiting_set (s ∷ ss) (suc n) place held new e = let h = waiting_set ss n place held new e in omega (arith, h)

pub waiting_within : (states : List State) → waiting states ≤ length states
waiting_within [] = omega arith
waiting_within (Waiting place held ∷ ss) = let h = waiting_within ss in omega (arith, h)
waiting_within (Settled layout ∷ ss) = let h = waiting_within ss in omega (arith, h)

-- ---- the stack

-- what is not on the stack has any link
stacked_set : (links : List (Option ℕ)) (n : ℕ) (link : Option ℕ) (ns : List ℕ) (top : Option ℕ) → (In n ns → ⊥) → Stacked links top ns → Stacked (slice_set links n link) top ns
stacked_set links n link [] top f s = s
stacked_set links n link (m ∷ ms) top f s =
    (s.0, s.1, set_elsewhere links n link m (λ e. f (inl (sym e))) ∙ s.2, stacked_set links n link ms s.1 (λ i. f (inr i)) s.3)

-- what is on the stack is settled
on_stack : (states : List State) (ns : List ℕ) (n : ℕ) → AllByRecursion (λ k. (a : Layout) × (settled_at states k ≡ Some a)) ns → In n ns → (a : Layout) × (settled_at states n ≡ Some a)
on_stack states [] n t x = absurd x
on_stack states (m ∷ ms) n t (inl e) = (t.0.0, ap (settled_at states) e ∙ t.0.1)
on_stack states (m ∷ ms) n t (inr i) = on_stack states ms n t.1 i

-- ---- a visit

module _ (rows : List Row) (states : List State) (links : List (Option ℕ)) (top : Option ℕ) (stack : List ℕ) (pending : ℕ → Type 0) (room : ℕ) (is : IsBoard rows states links top stack pending room) where
  pub weaker : (less : ℕ → Type 0) → ((n : ℕ) → pending n → less n) → IsBoard rows states links top stack less room
  weaker less f = record {
    size = is.size;
    linked = is.linked;
    fits = is.fits;
    derived = is.derived;
    stacked = is.stacked;
    told = is.told;
    bound = is.bound;
    due = λ n row place held h k known. by n (is.due n row place held h k known);
  } where
    by : {D : Type 0} (n : ℕ) → pending n ⊎ D → less n ⊎ D
    by n (inl p) = inl (f n p)
    by n (inr d) = inr d

  module _ (n : ℕ) where
    abbrev rest : ℕ → Type 0
    rest k = pending k × (k ≡ n → ⊥)

    idle_board : IsIdle rows states n → IsBoard rows states links top stack rest room
    idle_board stands = record {
      size = is.size;
      linked = is.linked;
      fits = is.fits;
      derived = is.derived;
      stacked = is.stacked;
      told = is.told;
      bound = is.bound;
      due = λ k row place held h w known. by k row place held h w known (is.due k row place held h w known);
    } where
      by : (k : ℕ) (row : Row) (place : ℕ) (held : Layout) → slice_get rows k ≡ Some row → slice_get states k ≡ Some (Waiting place held) → is_known row ≡ true
          → pending k ⊎ IsDue states stack row place → rest k ⊎ IsDue states stack row place
      by k row place held h w known (inl p) = inl (p, λ e. stands row place held (subst (λ i. slice_get rows i ≡ Some row) e h) (subst (λ i. slice_get states i ≡ Some (Waiting place held)) e w) known)
      by k row place held h w known (inr d) = inr d

    module _ (row : Row) (can : CanGoOn rows states n row) (new : State) (fit : Fits states row new) where
      abbrev after : List State
      after = slice_set states n new

      later : Later states after
      later = later_set states n can.place can.held can.waits new

      new_at : slice_get after n ≡ Some new
      new_at = at_new states n can.place can.held can.waits new

      fits_after : EachFits rows after
      fits_after k r s h w = fits_later states after later r s (by (where_is k n))
        where
          by : Same k n → Fits states r s
          by (here e) =
              let same_row : row ≡ r = unwrapped (sym can.row_at ∙ sym (ap (slice_get rows) e) ∙ h) in
              let same_state : new ≡ s = unwrapped (sym new_at ∙ sym (ap (slice_get after) e) ∙ w) in
              subst (λ t. Fits states r t) same_state (subst (λ x. Fits states x new) same_row fit)
          by (elsewhere f) = is.fits k r s h (sym (at_other states n can.place can.held can.waits new k f) ∙ w)

      derived_after : EachDerived rows after
      derived_after k layout e = by (where_is k n)
        where
          by : Same k n → Derived rows k layout
          by (here h) =
              let settled : layout_of (Some new) ≡ Some layout = ap layout_of (sym new_at) ∙ sym (ap (settled_at after) h) ∙ e in
              subst (λ i. Derived rows i layout) (sym h) (state_derived rows states is.derived n row new layout can.row_at fit settled)
          by (elsewhere f) = is.derived k layout (sym (ap layout_of (at_other states n can.place can.held can.waits new k f)) ∙ e)

      size_after : length after ≡ length rows
      size_after = set_size states n new ∙ is.size

      -- what is due stays so, where n is on the stack or still waits
      due_after : (more : List ℕ) → ((m : ℕ) → In m stack → In m more) → (settled_at after n ≡ None) ⊎ In n more → (r : Row) (place : ℕ) → IsDue states stack r place → IsDue after more r place
      due_after more wider n_is r place d = (d.0, d.1, by d.2 (where_is d.0 n))
        where
          by : (settled_at states d.0 ≡ None) ⊎ In d.0 stack → Same d.0 n → (settled_at after d.0 ≡ None) ⊎ In d.0 more
          by (inr i) s = inr (wider d.0 i)
          by (inl e) (here k) = subst (λ m. (settled_at after m ≡ None) ⊎ In m more) (sym k) n_is
          by (inl e) (elsewhere f) = inl (none_set states n can.place can.held can.waits new d.0 f e)

      others : (more : List ℕ) → ((m : ℕ) → In m stack → In m more) → (settled_at after n ≡ None) ⊎ In n more
          → (k : ℕ) (r : Row) (place : ℕ) (held : Layout) → slice_get rows k ≡ Some r → slice_get after k ≡ Some (Waiting place held) → is_known r ≡ true → (k ≡ n → ⊥) → rest k ⊎ IsDue after more r place
      others more wider n_is k r place held h w known f = by (is.due k r place held h (sym (at_other states n can.place can.held can.waits new k f) ∙ w) known)
        where
          by : pending k ⊎ IsDue states stack r place → rest k ⊎ IsDue after more r place
          by (inl p) = inl (p, f)
          by (inr d) = inr (due_after more wider n_is r place d)

    waits_board : (row : Row) (place : ℕ) (held : Layout) → CanGoOn rows states n row → Fits states row (Waiting place held) → IsHeldUp states row place → IsBoard rows (slice_set states n (Waiting place held)) links top stack rest room
    waits_board row place held can fit up = record {
      size = size_after row can (Waiting place held) fit;
      linked = is.linked;
      fits = fits_after row can (Waiting place held) fit;
      derived = derived_after row can (Waiting place held) fit;
      stacked = is.stacked;
      told = told_later states (slice_set states n (Waiting place held)) (later row can (Waiting place held) fit) stack is.told;
      bound = let e : waiting (slice_set states n (Waiting place held)) + 1 ≡ waiting states + 1 = waiting_set states n can.place can.held (Waiting place held) can.waits in let b = is.bound in omega (arith, e, b);
      due = λ k r p q h w known. by k r p q h w known (where_is k n);
    } where
      still : settled_at (slice_set states n (Waiting place held)) n ≡ None
      still = ap layout_of (new_at row can (Waiting place held) fit)

      up_after : IsDue (slice_set states n (Waiting place held)) stack row place
      up_after = due_after row can (Waiting place held) fit stack (λ m i. i) (inl still) row place (up.0, up.1, inl up.2)

      by : (k : ℕ) (r : Row) (p : ℕ) (q : Layout) → slice_get rows k ≡ Some r → slice_get (slice_set states n (Waiting place held)) k ≡ Some (Waiting p q) → is_known r ≡ true → Same k n → rest k ⊎ IsDue (slice_set states n (Waiting place held)) stack r p
      by k r p q h w known (elsewhere f) = others row can (Waiting place held) fit stack (λ m i. i) (inl still) k r p q h w known f
      by k r p q h w known (here e) =
          let same_row : row ≡ r = unwrapped (sym can.row_at ∙ sym (ap (slice_get rows) e) ∙ h) in
          let same_state : Waiting place held ≡ Waiting p q = unwrapped (sym (new_at row can (Waiting place held) fit) ∙ sym (ap (slice_get (slice_set states n (Waiting place held))) e) ∙ w) in
          inr (subst (λ x. IsDue (slice_set states n (Waiting place held)) stack x p) same_row (subst (IsDue (slice_set states n (Waiting place held)) stack row) (ap place_of same_state) up_after))
        where
          place_of : State → ℕ
          place_of (Waiting a b) = a
          place_of (Settled a) = zero

    settles_board : (row : Row) (layout : Layout) → CanGoOn rows states n row → Fits states row (Settled layout) → IsBoard rows (slice_set states n (Settled layout)) (slice_set links n top) (Some n) (n ∷ stack) rest room
    settles_board row layout can fit = record {
      size = size_after row can (Settled layout) fit;
      linked = set_size links n top ∙ is.linked;
      fits = fits_after row can (Settled layout) fit;
      derived = derived_after row can (Settled layout) fit;
      stacked = (refl, top, set_here links n top in_links, stacked_set links n top stack top not_on is.stacked);
      told = ((layout, ap layout_of (new_at row can (Settled layout) fit)), told_later states (slice_set states n (Settled layout)) (later row can (Settled layout) fit) stack is.told);
      bound = let e : waiting (slice_set states n (Settled layout)) + 1 ≡ waiting states + 0 = waiting_set states n can.place can.held (Settled layout) can.waits in let b = is.bound in omega (arith, e, b);
      due = λ k r p q h w known. by k r p q h w known (where_is k n);
    } where
      in_links : n < length links
      in_links = let a = slice_get_within rows n row can.row_at in let b = is.linked in omega (arith, a, b)

      not_on : In n stack → ⊥
      not_on i = let a = on_stack states stack n is.told i in some_is_none (sym a.1 ∙ waits_at states n can.place can.held can.waits)

      by : (k : ℕ) (r : Row) (p : ℕ) (q : Layout) → slice_get rows k ≡ Some r → slice_get (slice_set states n (Settled layout)) k ≡ Some (Waiting p q) → is_known r ≡ true → Same k n → rest k ⊎ IsDue (slice_set states n (Settled layout)) (n ∷ stack) r p
      by k r p q h w known (elsewhere f) = others row can (Settled layout) fit (n ∷ stack) (λ m i. inr i) (inr (inl refl)) k r p q h w known f
      by k r p q h w known (here e) =
          some_is_none (ap layout_of (sym (new_at row can (Settled layout) fit) ∙ sym (ap (slice_get (slice_set states n (Settled layout))) e) ∙ w))

    pub after_visit : (states' : List State) (links' : List (Option ℕ)) (top' : Option ℕ) → Visited rows states links top n states' links' top' → (left : List ℕ) × IsBoard rows states' links' top' left rest room
    after_visit states' links' top' (idle f a b c) =
        (stack, subst (λ t. IsBoard rows states' links' t stack rest room) (sym c) (subst (λ l. IsBoard rows states' l top stack rest room) (sym b) (subst (λ s. IsBoard rows s links top stack rest room) (sym a) (idle_board f))))
    after_visit states' links' top' (waits row place held can fit up a b c) =
        (stack, subst (λ t. IsBoard rows states' links' t stack rest room) (sym c) (subst (λ l. IsBoard rows states' l top stack rest room) (sym b) (subst (λ s. IsBoard rows s links top stack rest room) (sym a) (waits_board row place held can fit up))))
    after_visit states' links' top' (settles row layout can fit a b c) =
        (n ∷ stack, subst (λ t. IsBoard rows states' links' t (n ∷ stack) rest room) (sym c) (subst (λ l. IsBoard rows states' l (Some n) (n ∷ stack) rest room) (sym b) (subst (λ s. IsBoard rows s (slice_set links n top) (Some n) (n ∷ stack) rest room) (sym a) (settles_board row layout can fit))))
