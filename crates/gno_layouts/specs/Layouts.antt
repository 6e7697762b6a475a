-- How much the values of types hold, and whether they compare.
use Rattle.std.specs.Prelude.{ℕ, ◌≡◌, ◌+◌, ◌*◌, ◌-◌, ◌^◌, List, [], ◌∷◌, Bool, true, false, ◌&&◌, Option, Some, None, slice_get, min}
use Rattle.std.specs.Option.{is_some}
use Rattle.gno_layouts.specs.declared.row.Layout.{Layout}
use Rattle.gno_layouts.specs.declared.row.Row.{Row}
use Rattle.gno_layouts.specs.declared.row.Row.TheVariants as r

-- the rows of what a value holds
abbrev pub parts : Row → List ℕ
parts (r.Single comparable) = []
parts (r.Array length of) = of ∷ []
parts (r.Struct fields) = fields
parts (r.Defined None) = []
parts (r.Defined (Some of)) = of ∷ []

abbrev pub is_known : Row → Bool
is_known (r.Defined None) = false
is_known _ = true

abbrev pub nothing : Layout
nothing = record { slots = 0; comparable = true }

abbrev pub together : Layout → Layout → Layout
together a b = record { slots = a.slots + b.slots; comparable = a.comparable && b.comparable }

-- of a value whose parts have a layout together
abbrev pub whole : Row → Layout → Layout
whole (r.Single comparable) held = record { slots = 1; comparable = comparable }
whole (r.Array length of) held = record { slots = 1 + length * held.slots; comparable = held.comparable }
whole (r.Struct fields) held = record { slots = 1 + held.slots; comparable = held.comparable }
whole (r.Defined of) held = held

-- what a row says, by what its parts say: a finite derivation
mutual
  pub data HasLayout (rows : List Row) : ℕ → Layout → Type 0 where
    has : {n : ℕ} {a : Layout} (row : Row) (held : Layout) → slice_get rows n ≡ Some row → is_known row ≡ true → HaveLayouts rows (parts row) held → a ≡ whole row held → HasLayout rows n a

  pub data HaveLayouts (rows : List Row) : List ℕ → Layout → Type 0 where
    none : {a : Layout} → a ≡ nothing → HaveLayouts rows [] a
    more : {n : ℕ} {ns : List ℕ} {a : Layout} (b c : Layout) → HasLayout rows n b → HaveLayouts rows ns c → a ≡ together b c → HaveLayouts rows (n ∷ ns) a

-- with the slots that a machine word counts
abbrev pub saturated : Layout → Layout
saturated a = record { slots = min a.slots (2 ^ 64 - 1); comparable = a.comparable }

-- a definition is there
abbrev pub stands : {D : Type 0} → Option (Option D) → Bool
stands None = false
stands (Some definition) = is_some definition

-- a defined type has its underlying type while its definition stands
abbrev pub kept : Row → Bool → Row
kept (r.Defined of) false = r.Defined None
kept row _ = row
