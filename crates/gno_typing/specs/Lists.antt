-- Lists of parts.
use Rattle.std.specs.Prelude.{◌≡◌, ◌++◌, [], ◌∷◌, List, Option, Some, None, option_map}
use Rattle.gno_typing.specs.Giving.{both}
use Rattle.gno_typing.specs.Verdicts.{Verdict, unjudged}

-- one that was faulty is not judged again
abbrev pub where_found : {A B : Type 0} → (A → Verdict B → Type 0) → Option A → Verdict B → Type 0
where_found J None = unjudged
where_found J (Some x) = J x

-- each of a list is judged, in order
pub data AreJudged {A B : Type 0} (J : A → Verdict B → Type 0) : List A → Verdict (List B) → Type 0 where
  none : {y : Verdict (List B)} → y ≡ record { form = Some []; faults = [] } → AreJudged J [] y
  more : {x : A} {xs : List A} {y : Verdict (List B)} (v : Verdict B) (w : Verdict (List B)) → J x v → AreJudged J xs w → y ≡ both (λ b bs. b ∷ bs) v w → AreJudged J (x ∷ xs) y

-- Each of a list that was found is judged, in order; what has no form leaves a gap.
pub data AreKept {A B : Type 0} (J : A → Verdict B → Type 0) : List (Option A) → Verdict (List (Option B)) → Type 0 where
  none : {y : Verdict (List (Option B))} → y ≡ record { form = Some []; faults = [] } → AreKept J [] y
  more : {x : Option A} {xs : List (Option A)} {y : Verdict (List (Option B))} (v : Verdict B) (w : Verdict (List (Option B))) → where_found J x v → AreKept J xs w → y ≡ record { form = option_map (λ bs. v.form ∷ bs) w.form; faults = v.faults ++ w.faults } → AreKept J (x ∷ xs) y

abbrev pub behind_found : {A : Type 0} → A → Option (List A) → Option (List A)
behind_found x None = None
behind_found x (Some xs) = Some (x ∷ xs)

-- all were found
abbrev pub all_found : {A : Type 0} → List (Option A) → Option (List A)
all_found [] = Some []
all_found (None ∷ xs) = None
all_found (Some x ∷ xs) = behind_found x (all_found xs)
