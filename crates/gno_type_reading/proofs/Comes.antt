-- A type's text leads to the type.
use Rattle.std.proofs.Common.{◌≡◌, List, ◌++◌, ℕ, true}
use Rattle.gno_terms.specs.declared.term.GoType.{GoType}
use Rattle.gno_terms.specs.Tables.{Table}
use Rattle.gno_terms.specs.Texts.{type_text}
use Rattle.gno_terms.proofs.Joined.{ends}
use Rattle.gno_type_reading.specs.declared.frame.FrameOf.{FrameOf}
use Rattle.gno_type_reading.proofs.Leads.{LeadsTo, wants, has}

-- before what may end it, whatever is open
abbrev pub Comes : Table → GoType → GoType → Type 0
Comes table s p = (frames : List (FrameOf GoType)) (r : List ℕ) → ends r ≡ true → LeadsTo table s (has frames p r) → LeadsTo table s (wants frames (type_text p ++ r))
