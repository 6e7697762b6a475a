-- What is kept beside rows while they settle.
use Rattle.std.specs.Prelude.{ℕ, ◌≡◌, ◌+◌, ◌<◌, ◌≤◌, ◌⊎◌, ⊤, List, [], ◌∷◌, true, Option, Some, None, length, slice_get, slice_set, take}
use Rattle.std.specs.List.{AllByRecursion}
use Rattle.gno_layouts.specs.declared.row.Layout.{Layout}
use Rattle.gno_layouts.specs.declared.row.Row.{Row}
use Rattle.gno_layouts.specs.declared.settling.State.{State}
use Rattle.gno_layouts.specs.declared.settling.State.TheVariants.{Waiting, Settled}
use Rattle.gno_layouts.specs.Layouts.{parts, is_known, nothing, together, whole, saturated, HasLayout}

abbrev pub layout_of : Option State → Option Layout
layout_of (Some (Settled a)) = Some a
layout_of _ = None

abbrev pub settled_at : List State → ℕ → Option Layout
settled_at states n = layout_of (slice_get states n)

abbrev pub In : ℕ → List ℕ → Type 0
In n [] = ⊥
In n (m ∷ ms) = (n ≡ m) ⊎ In n ms

-- all these are settled, and have this layout together
abbrev pub Totals : List State → List ℕ → Layout → Type 0
Totals states [] a = a ≡ nothing
Totals states (n ∷ ns) a = (b c : Layout) × (settled_at states n ≡ Some b) × Totals states ns c × (a ≡ together b c)

-- what is kept of a row is right, by what is kept of its parts
abbrev pub Fits : List State → Row → State → Type 0
Fits states row (Waiting place held) = (a : Layout) × Totals states (take place (parts row)) a × (held ≡ saturated a) × (place ≤ length (parts row))
Fits states row (Settled layout) = (is_known row ≡ true) × (a : Layout) × Totals states (parts row) a × (layout ≡ saturated (whole row a))

-- the part at the place is not settled
abbrev pub IsHeldUp : List State → Row → ℕ → Type 0
IsHeldUp states row place = (n : ℕ) × (slice_get (parts row) place ≡ Some n) × (settled_at states n ≡ None)

-- what waits is undefined, or waits for a part
abbrev pub Waits : List State → Row → State → Type 0
Waits states row (Waiting place held) = is_known row ≡ true → IsHeldUp states row place
Waits states row (Settled layout) = ⊤

abbrev pub EachFits : List Row → List State → Type 0
EachFits rows states = (n : ℕ) (row : Row) (state : State) → slice_get rows n ≡ Some row → slice_get states n ≡ Some state → Fits states row state

-- a row has this layout, up to the bound
abbrev pub Derived : List Row → ℕ → Layout → Type 0
Derived rows n layout = (a : Layout) × HasLayout rows n a × (layout ≡ saturated a)

-- what is settled follows from the rows, so that none settled in a circle
abbrev pub EachDerived : List Row → List State → Type 0
EachDerived rows states = (n : ℕ) (layout : Layout) → settled_at states n ≡ Some layout → Derived rows n layout

-- what can settle has settled, and nothing else
pub record AreSettled (rows : List Row) (states : List State) : Type 0 where
  pub size : length states ≡ length rows
  pub fits : EachFits rows states
  pub derived : EachDerived rows states
  pub waits : (n : ℕ) (row : Row) (state : State) → slice_get rows n ≡ Some row → slice_get states n ≡ Some state → Waits states row state

-- ---- while rows settle

abbrev pub weight : State → ℕ
weight (Waiting place held) = 1
weight (Settled layout) = 0

-- how many wait
abbrev pub waiting : List State → ℕ
waiting [] = 0
waiting (state ∷ states) = weight state + waiting states

-- a stack by its top and the link of each to the next
abbrev pub Stacked : List (Option ℕ) → Option ℕ → List ℕ → Type 0
Stacked links top [] = top ≡ None
Stacked links top (n ∷ ns) = (top ≡ Some n) × (next : Option ℕ) × (slice_get links n ≡ Some next) × Stacked links next ns

-- the part at the place is not settled, or those that hold it are still to be told that it is
abbrev pub IsDue : List State → List ℕ → Row → ℕ → Type 0
IsDue states stack row place = (n : ℕ) × (slice_get (parts row) place ≡ Some n) × ((settled_at states n ≡ None) ⊎ In n stack)

-- rows of which some are settled. Of the stack the rows that hold them are still to be told, and of what is pending nothing is known
pub record IsBoard (rows : List Row) (states : List State) (links : List (Option ℕ)) (top : Option ℕ) (stack : List ℕ) (pending : ℕ → Type 0) (room : ℕ) : Type 0 where
  pub size : length states ≡ length rows
  pub linked : length links ≡ length rows
  pub fits : EachFits rows states
  pub derived : EachDerived rows states
  pub due : (n : ℕ) (row : Row) (place : ℕ) (held : Layout) → slice_get rows n ≡ Some row → slice_get states n ≡ Some (Waiting place held) → is_known row ≡ true → pending n ⊎ IsDue states stack row place
  pub stacked : Stacked links top stack
  pub told : AllByRecursion (λ n. (a : Layout) × (settled_at states n ≡ Some a)) stack
  pub bound : waiting states + length stack ≤ room

-- each part is a row
abbrev pub AreRows : ℕ → Row → Type 0
AreRows size row = AllByRecursion (λ n. n < size) (parts row)

abbrev pub EachHasRows : List Row → Type 0
EachHasRows rows = (n : ℕ) (row : Row) → slice_get rows n ≡ Some row → AreRows (length rows) row

-- m is among the holders of n
abbrev pub Holds : List (List ℕ) → ℕ → ℕ → Type 0
Holds holders m n = (ms : List ℕ) × (slice_get holders n ≡ Some ms) × In m ms

-- the holders of each row are known
pub record AreHolders (rows : List Row) (holders : List (List ℕ)) : Type 0 where
  pub size : length holders ≡ length rows
  pub each : (n : ℕ) (row : Row) → slice_get rows n ≡ Some row → AllByRecursion (Holds holders n) (parts row)

-- it can't go on
abbrev pub IsIdle : List Row → List State → ℕ → Type 0
IsIdle rows states n = (row : Row) (place : ℕ) (held : Layout) → slice_get rows n ≡ Some row → slice_get states n ≡ Some (Waiting place held) → is_known row ≡ true → ⊥

-- a row that waits and is known
pub record CanGoOn (rows : List Row) (states : List State) (n : ℕ) (row : Row) : Type 0 where
  pub row_at : slice_get rows n ≡ Some row
  pub place : ℕ
  pub held : Layout
  pub waits : slice_get states n ≡ Some (Waiting place held)
  pub known : is_known row ≡ true

-- what a visit of a row leaves
pub data Visited (rows : List Row) (states : List State) (links : List (Option ℕ)) (top : Option ℕ) (n : ℕ) (states' : List State) (links' : List (Option ℕ)) (top' : Option ℕ) : Type 0 where
  idle : IsIdle rows states n → states' ≡ states → links' ≡ links → top' ≡ top → Visited rows states links top n states' links' top'
  waits : (row : Row) (place : ℕ) (held : Layout) → CanGoOn rows states n row → Fits states row (Waiting place held) → IsHeldUp states row place
      → states' ≡ slice_set states n (Waiting place held) → links' ≡ links → top' ≡ top → Visited rows states links top n states' links' top'
  settles : (row : Row) (layout : Layout) → CanGoOn rows states n row → Fits states row (Settled layout)
      → states' ≡ slice_set states n (Settled layout) → links' ≡ slice_set links n top → top' ≡ Some n → Visited rows states links top n states' links' top'

-- rows that have settled, and what is kept beside them
pub record AreLayouts (rows : List Row) (states : List State) (holders : List (List ℕ)) (links : List (Option ℕ)) : Type 0 where
  pub parts : EachHasRows rows
  pub settled : AreSettled rows states
  pub held : AreHolders rows holders
  pub linked : length links ≡ length rows

-- what holds something is still there
abbrev pub Keeps : List Row → List ℕ → List ℕ → Type 0
Keeps rows old new = (n : ℕ) (row : Row) → slice_get rows n ≡ Some row → is_known row ≡ true → In n old → In n new

abbrev pub EachKeeps : List Row → List (List ℕ) → List (List ℕ) → Type 0
EachKeeps rows holders less = (k : ℕ) (ms : List ℕ) → slice_get holders k ≡ Some ms → (ns : List ℕ) × (slice_get less k ≡ Some ns) × Keeps rows ms ns
