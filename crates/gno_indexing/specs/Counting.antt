-- Whole numbers that count elements, where types are named by their numbers. This project's own.
use Rattle.std.specs.Prelude.{◌≡◌, ℤ, pos, ◌≤ℤ◌, ◌<ℤ◌, Bool, true, false, Option, Some}
use Rattle.gno_base.specs.declared.kind.Kind.{Kind}
use Rattle.gno_base.specs.declared.kind.Kind.TheVariants as k
use Rattle.gno_judging.specs.Stands.{Stands}
use Rattle.gno_indexing.specs.declared.number.Counted.{Counted}
use Rattle.gno_terms.specs.Tables.{Table}
use Rattle.gno_typing.specs.Indexes as indexes

pub record CountedStands (table : Table) (x : Counted) (y : indexes.Counted) : Type 0 where
  pub form : Stands table x.form y.form
  pub value : x.value ≡ y.value

-- from 0, and below an end
abbrev pub IsUnder : ℤ → ℤ → Type 0
IsUnder end n = (pos 0 ≤ℤ n) × (n <ℤ end)

-- the default type of an untyped integer or rune constant has this kind
abbrev pub is_of_wholes : Option Kind → Bool
is_of_wholes (Some k.Int) = true
is_of_wholes (Some k.Int32) = true
is_of_wholes kind = false
