-- Which of many faults is told. This project's own.
use Rattle.std.specs.Prelude.{◌≡◌, ◌<◌, ◌⊎◌, ◌++◌, [], ◌∷◌, ⊤, List, Bool, if◌then◌else◌, nat_eq, nat_lt, Option, Some, None}
use Rattle.gno_scan.specs.declared.token.Pos.{Pos}
use Rattle.gno_typing.specs.declared.fault.Fault.{Fault}

-- a place stands before another one in the files of a package
abbrev pub is_before : Pos → Pos → Bool
is_before a b = if nat_eq a.file b.file then (if nat_eq a.line b.line then nat_lt a.column b.column else nat_lt a.line b.line) else nat_lt a.file b.file

-- the one at the lesser place; of two at one place the first
abbrev pub sooner : Option Fault → Fault → Fault
sooner None f = f
sooner (Some g) f = if is_before f.pos g.pos then f else g

abbrev pub noted : Option Fault → List Fault → Option Fault
noted least [] = least
noted least (f ∷ fs) = noted (Some (sooner least f)) fs

-- a place stands before another one, as a relation
pub record IsPast (a b : Pos) : Type 0 where
  pub place : (b.file < a.file) ⊎ ((b.file ≡ a.file) × ((b.line < a.line) ⊎ ((b.line ≡ a.line) × (b.column < a.column))))

-- each fault of a list is at a later place
abbrev pub AllPast : Pos → List Fault → Type 0
AllPast at [] = ⊤
AllPast at (f ∷ fs) = IsPast f.pos at × AllPast at fs

-- none is at an earlier place
abbrev pub NonePast : Pos → List Fault → Type 0
NonePast at [] = ⊤
NonePast at (f ∷ fs) = (IsPast at f.pos → ⊥) × NonePast at fs

-- the fault is the first of those at the least place
pub record IsLeast (f : Fault) (fs : List Fault) : Type 0 where
  pub before : List Fault
  pub behind : List Fault
  pub stands : fs ≡ before ++ f ∷ behind
  pub earlier : AllPast f.pos before
  pub later : NonePast f.pos behind
