-- What is found about a node: its form, where it has one, and every fault of it and of its parts, in the order in which they are judged.
-- A rule says of each node which verdicts are right. This project's own.
use Rattle.std.specs.Prelude.{ℕ, ◌≡◌, ◌⊎◌, List, [], ◌∷◌, ◌++◌, Bool, true, false, Option, Some, None}
use Rattle.gno_scan.specs.declared.token.Pos.{Pos}
use Rattle.gno_typing.specs.declared.fault.Fault.{Fault}

pub record Verdict (A : Type 0) : Type 0 where
  pub form : Option A
  pub faults : List Fault

-- the form, and no fault
abbrev pub good : {A : Type 0} → A → Verdict A → Type 0
good a v = v ≡ record { form = Some a; faults = [] }

-- a fault of the node itself
abbrev pub bad : {A : Type 0} → ℕ → Pos → Verdict A → Type 0
bad code pos v = v ≡ record { form = None; faults = record { code = code; pos = pos } ∷ [] }

-- a node with a faulty part is not judged
abbrev pub unjudged : {A : Type 0} → Verdict A → Type 0
unjudged v = v ≡ record { form = None; faults = [] }

-- a premise, and the code that its failure gives
abbrev pub wants : {A : Type 0} → Type 0 → ℕ → Pos → (Verdict A → Type 0) → Verdict A → Type 0
wants P code pos J v = (P × J v) ⊎ ((P → ⊥) × bad code pos v)

-- what a premise finds, and the code where it finds nothing
abbrev pub wants_some : {A B : Type 0} → (B → Type 0) → ℕ → Pos → (B → Verdict A → Type 0) → Verdict A → Type 0
wants_some P code pos J v = ((b : _) × P b × J b v) ⊎ (((b : _) → P b → ⊥) × bad code pos v)

-- two cases
abbrev pub where_so : {A : Type 0} → Type 0 → (Verdict A → Type 0) → (Verdict A → Type 0) → Verdict A → Type 0
where_so P J K v = (P × J v) ⊎ ((P → ⊥) × K v)

-- by a test
abbrev pub by_test : {A : Type 0} → Bool → (Verdict A → Type 0) → (Verdict A → Type 0) → Verdict A → Type 0
by_test true J K = J
by_test false J K = K

abbrev pub on : {A B : Type 0} → (A → Verdict B → Type 0) → Option A → Verdict B → Type 0
on go None = unjudged
on go (Some a) = go a

abbrev pub on_two : {A B C : Type 0} → (A → B → Verdict C → Type 0) → Option A → Option B → Verdict C → Type 0
on_two go (Some a) (Some b) = go a b
on_two go _ _ = unjudged

-- a node is judged after its part
pub record After {A B : Type 0} (J : Verdict A → Type 0) (go : A → Verdict B → Type 0) (v : Verdict B) : Type 0 where
  pub part : Verdict A
  pub judged : J part
  pub rest : Verdict B
  pub goes_on : on go part.form rest
  pub form : v.form ≡ rest.form
  pub faults : v.faults ≡ part.faults ++ rest.faults

-- and after two parts
pub record AfterBoth {A B C : Type 0} (J : Verdict A → Type 0) (K : Verdict B → Type 0) (go : A → B → Verdict C → Type 0) (v : Verdict C) : Type 0 where
  pub left : Verdict A
  pub left_judged : J left
  pub right : Verdict B
  pub right_judged : K right
  pub rest : Verdict C
  pub goes_on : on_two go left.form right.form rest
  pub form : v.form ≡ rest.form
  pub faults : v.faults ≡ left.faults ++ (right.faults ++ rest.faults)
