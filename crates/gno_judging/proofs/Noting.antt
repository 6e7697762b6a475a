-- The least of many faults.
use Rattle.std.proofs.Common.{◌≡◌, refl, List, [], ◌∷◌, ◌++◌, Option, Some, None, rules}
use Rattle.gno_judging.specs.Noting.{noted, sooner}
use Rattle.gno_typing.specs.declared.fault.Fault.{Fault}

pub noted_append : (least : Option Fault) (fs gs : List Fault) → noted least (fs ++ gs) ≡ noted (noted least fs) gs
noted_append least [] gs = refl
noted_append least (f ∷ fs) gs = noted_append (Some (sooner least f)) fs gs

-- where nothing is told, there was no fault
some_stays : (fs : List Fault) (f : Fault) → noted (Some f) fs ≡ None → ⊥
some_stays [] f e = absurd (search (rules, e))
some_stays (g ∷ fs) f e = some_stays fs (sooner (Some f) g) e

pub none_is : (fs : List Fault) → noted None fs ≡ None → fs ≡ []
none_is [] e = refl
none_is (f ∷ fs) e = absurd (some_stays fs f e)
