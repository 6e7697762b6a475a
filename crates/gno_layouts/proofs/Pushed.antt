-- One row more.
use Rattle.std.proofs.Common.{◌≡◌, sym, ap, ◌∙◌, subst, ℕ, ◌+◌, ◌<◌, List, [], ◌∷◌, ◌++◌, Option, Some, None, length, length-append, arith}
use Rattle.std.specs.Prelude.{⊤, slice_get}
use Rattle.std.specs.List.{AllByRecursion}
use Rattle.std.proofs.lemmas.Option.{slice_get_within}
use Rattle.gno_layouts.specs.declared.row.Layout.{Layout}
use Rattle.gno_layouts.specs.declared.row.Row.{Row}
use Rattle.gno_layouts.specs.declared.settling.State.{State}
use Rattle.gno_layouts.specs.declared.settling.State.TheVariants.{Settled}
use Rattle.gno_layouts.specs.Layouts.{parts}
use Rattle.gno_layouts.specs.Settling.{layout_of, Fits, Waits, Derived, EachDerived, AreRows, AreHolders, AreSettled, AreLayouts, Holds}
use Rattle.gno_layouts.proofs.Ends.{Where, inside, last, get_where, get_left, get_last, some_at}
use Rattle.gno_layouts.proofs.Derived.{settled_state, state_derived, each_true, derived_stays}
use Rattle.gno_layouts.proofs.Agreed.{Agree, each_wider, fits_agree, waits_agree}

pub same_before : {A : Type 0} (xs : List A) (y : A) (n : ℕ) → n < length xs → slice_get (xs ++ y ∷ []) n ≡ slice_get xs n
same_before xs y n w = let x = some_at xs n w in get_left xs y n x.0 x.1 ∙ sym x.1

-- more holders of the same rows
pub more_holders : (rows : List Row) (holders more : List (List ℕ)) → AreHolders rows holders → length more ≡ length holders → ((m n : ℕ) → Holds holders m n → Holds more m n) → AreHolders rows more
more_holders rows holders more are size grows = record {
  size = size ∙ are.size;
  each = λ n row h. each_wider (Holds holders n) (Holds more n) (grows n) (parts row) (are.each n row h);
}

module _ (rows : List Row) (states : List State) (holders : List (List ℕ)) (links : List (Option ℕ)) (are : AreLayouts rows states holders links) (row : Row) (state : State) where
  abbrev rows' : List Row
  rows' = rows ++ row ∷ []

  abbrev states' : List State
  states' = states ++ state ∷ []

  one_row : length rows' ≡ length rows + 1
  one_row = length-append rows (row ∷ [])

  wider : (n : ℕ) → n < length rows → n < length rows'
  wider n w = let e = one_row in omega (arith, w, e)

  agree : Agree (length rows) states states'
  agree n w = same_before states state n (let z = are.settled.size in omega (arith, w, z))

  -- an old row with its state, or the new one
  data Both (n : ℕ) (r : Row) (s : State) : Type 0 where
    old : slice_get rows n ≡ Some r → slice_get states n ≡ Some s → Both n r s
    new : row ≡ r → state ≡ s → Both n r s

  both : (n : ℕ) (r : Row) (s : State) → Where rows row n r → Where states state n s → Both n r s
  both n r s (inside h) (inside k) = old h k
  both n r s (inside h) (last e k) = absurd (let w = slice_get_within rows n r h in let z = are.settled.size in omega (arith, w, z, e))
  both n r s (last e h) (inside k) = absurd (let w = slice_get_within states n s k in let z = are.settled.size in omega (arith, w, z, e))
  both n r s (last e h) (last f k) = new (sym h) (sym k)

  module _ (below : AreRows (length rows) row) (fit : Fits states row state) (waits : Waits states row state) where
    fits_by : (n : ℕ) (r : Row) (s : State) → Both n r s → Fits states' r s
    fits_by n r s (old h k) = fits_agree (length rows) states states' agree r s (are.parts n r h) (are.settled.fits n r s h k)
    fits_by n r s (new e f) = subst (λ x. Fits states' x s) e (subst (λ x. Fits states' row x) f (fits_agree (length rows) states states' agree row state below fit))

    waits_by : (n : ℕ) (r : Row) (s : State) → Both n r s → Waits states' r s
    waits_by n r s (old h k) = waits_agree (length rows) states states' agree r s (are.parts n r h) (are.settled.waits n r s h k)
    waits_by n r s (new e f) = subst (λ x. Waits states' x s) e (subst (λ x. Waits states' row x) f (waits_agree (length rows) states states' agree row state below waits))

    -- what was settled follows from the longer rows
    derived_before : EachDerived rows' states
    derived_before n layout e = derived_stays rows rows' (λ _. ⊤) (λ k r p h known. (get_left rows row k r h, each_true (parts r))) n layout tt (are.settled.derived n layout e)

    derived_by : (n : ℕ) (layout : Layout) → Where states state n (Settled layout) → Derived rows' n layout
    derived_by n layout (inside k) = derived_before n layout (ap layout_of k)
    derived_by n layout (last e k) =
        let at : slice_get rows' n ≡ Some row = ap (slice_get rows') (e ∙ are.settled.size) ∙ get_last rows row in
        state_derived rows' states derived_before n row state layout at fit (ap (λ s. layout_of (Some s)) (sym k))

    settled' : AreSettled rows' states'
    settled' = record {
      size = let z = are.settled.size in let a = one_row in let b = length-append states (state ∷ []) in omega (arith, z, a, b);
      fits = λ n r s h k. fits_by n r s (both n r s (get_where rows row n r h) (get_where states state n s k));
      derived = λ n layout e. derived_by n layout (get_where states state n (Settled layout) (settled_state (slice_get states' n) layout e));
      waits = λ n r s h k. waits_by n r s (both n r s (get_where rows row n r h) (get_where states state n s k));
    }

    parts_by : (n : ℕ) (r : Row) → Where rows row n r → AreRows (length rows') r
    parts_by n r (inside h) = each_wider (λ k. k < length rows) (λ k. k < length rows') wider (parts r) (are.parts n r h)
    parts_by n r (last e h) = subst (AreRows (length rows')) (sym h) (each_wider (λ k. k < length rows) (λ k. k < length rows') wider (parts row) below)

    module _ (more : List (List ℕ)) (size : length more ≡ length holders) (grows : (m n : ℕ) → Holds holders m n → Holds more m n) (noted : AllByRecursion (Holds more (length rows)) (parts row)) where
      still : (m n : ℕ) → Holds more m n → Holds (more ++ [] ∷ []) m n
      still m n h = (h.0, get_left more [] n h.0 h.1, h.2)

      holders_by : (n : ℕ) (r : Row) → Where rows row n r → AllByRecursion (Holds (more ++ [] ∷ []) n) (parts r)
      holders_by n r (inside h) = each_wider (Holds holders n) (Holds (more ++ [] ∷ []) n) (λ k i. still n k (grows n k i)) (parts r) (are.held.each n r h)
      holders_by n r (last e h) = subst (λ x. AllByRecursion (Holds (more ++ [] ∷ []) n) (parts x)) (sym h)
          (subst (λ m. AllByRecursion (Holds (more ++ [] ∷ []) m) (parts row)) (sym e) (each_wider (Holds more (length rows)) (Holds (more ++ [] ∷ []) (length rows)) (still (length rows)) (parts row) noted))

      pub pushed : AreLayouts rows' states' (more ++ [] ∷ []) (links ++ None ∷ [])
      pushed = record {
        parts = λ n r h. parts_by n r (get_where rows row n r h);
        settled = settled';
        held = record {
          size = let z = are.held.size in let a = one_row in let b = length-append more ([] ∷ []) in omega (arith, z, a, b, size);
          each = λ n r h. holders_by n r (get_where rows row n r h);
        };
        linked = let z = are.linked in let a = one_row in let b = length-append links (None ∷ []) in omega (arith, z, a, b);
      }

pub layouts_at : {rows rows' : List Row} {states states' : List State} {holders holders' : List (List ℕ)} {links links' : List (Option ℕ)} → rows ≡ rows' → states ≡ states' → holders ≡ holders' → links ≡ links'
    → AreLayouts rows' states' holders' links' → AreLayouts rows states holders links
layouts_at {rows} {rows'} {states} {states'} {holders} {holders'} {links} {links'} a b d e are =
    subst (λ x. AreLayouts x states holders links) (sym a) (subst (λ x. AreLayouts rows' x holders links) (sym b) (subst (λ x. AreLayouts rows' states' x links) (sym d) (subst (λ x. AreLayouts rows' states' holders' x) (sym e) are)))
