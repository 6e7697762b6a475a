-- What stands in the frames of types that are open.
use Rattle.std.specs.Prelude.{ℕ, ◌≡◌, List, [], ◌∷◌, ◌++◌, map, Bool, true, false, Option, Some, None}
use Rattle.gno_terms.specs.Terms.{parts, term_with, field_of, field_with, method_of, method_with}
use Rattle.gno_type_reading.specs.declared.frame.FrameOf.{FrameOf}
use Rattle.gno_type_reading.specs.declared.frame.FrameOf.TheVariants as frame
use Rattle.gno_type_reading.specs.declared.frame.ActionOf.{ActionOf}
use Rattle.gno_type_reading.specs.declared.frame.ActionOf.TheVariants as act
use Rattle.gno_type_reading.specs.Turns.{turn, opened, closed}

-- each part through a function
abbrev pub frame_with : {A B : Type 0} → (A → B) → FrameOf A → FrameOf B
frame_with f frame.Pointer = frame.Pointer
frame_with f frame.Slice = frame.Slice
frame_with f (frame.Array n) = frame.Array n
frame_with f frame.Key = frame.Key
frame_with f (frame.Value key) = frame.Value (f key)
frame_with f (frame.Params ps variadic) = frame.Params (map f ps) variadic
frame_with f (frame.Result ps variadic) = frame.Result (map f ps) variadic
frame_with f (frame.Results ps variadic rs) = frame.Results (map f ps) variadic (map f rs)
frame_with f (frame.Field fs member embedded) = frame.Field (map (field_with f) fs) member embedded
frame_with f (frame.Method ms member) = frame.Method (map (method_with f) ms) member

abbrev pub action_with : {A B : Type 0} → (A → B) → ActionOf A → ActionOf B
action_with f (act.Opened x) = act.Opened (frame_with f x)
action_with f (act.Made x) = act.Made (term_with f x)
action_with f act.Refused = act.Refused

-- the parts that were read
abbrev pub frame_parts : {A : Type 0} → FrameOf A → List A
frame_parts (frame.Value key) = key ∷ []
frame_parts (frame.Params ps variadic) = ps
frame_parts (frame.Result ps variadic) = ps
frame_parts (frame.Results ps variadic rs) = ps ++ rs
frame_parts (frame.Field fs member embedded) = map field_of fs
frame_parts (frame.Method ms member) = map method_of ms
frame_parts _ = []

abbrev pub action_parts : {A : Type 0} → ActionOf A → List A
action_parts (act.Opened x) = frame_parts x
action_parts (act.Made x) = parts x
action_parts act.Refused = []

-- something is open, or no part was read
abbrev pub is_open : {A B : Type 0} → List A → Option B → Bool
is_open frames None = true
is_open [] (Some of) = false
is_open (f ∷ frames) (Some of) = true

-- what is said next, and which frames stay open
abbrev pub Says : {A : Type 0} → List (FrameOf A) → Option A → List ℕ → ActionOf A → List ℕ → List (FrameOf A) → Type 0
Says frames None text action rest left = (turn action rest ≡ opened text) × (left ≡ frames)
Says [] (Some of) text action rest left = (action ≡ act.Refused) × (left ≡ [])
Says (f ∷ frames) (Some of) text action rest left = (turn action rest ≡ closed f of text) × (left ≡ frames)
