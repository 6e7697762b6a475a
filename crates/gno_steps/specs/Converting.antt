-- Parts of the rule on conversions.
use Rattle.std.specs.Prelude.{◌&&◌, Bool}
use Rattle.gno_constants.specs.declared.constant.Constant.{Constant}
use Rattle.gno_scan.specs.declared.token.Pos.{Pos}
use Rattle.gno_terms.specs.Tables.{Table}
use Rattle.gno_terms.specs.declared.term.GoType.{GoType}
use Rattle.gno_typing.specs.Classes.{IsOf, is_text}
use Rattle.gno_typing.specs.Conversions.{is_whole_constant, same_of, text_of}
use Rattle.gno_typing.specs.Giving.{IsGiven}
use Rattle.gno_typing.specs.Verdicts.{Verdict, After, good, wants}
use Rattle.gno_typing.specs.declared.pending.PendingOf.{PendingOf}
use Rattle.gno_typing.specs.declared.value.ValueOf.{ValueOf}
use Rattle.gno_typing.specs.declared.value.ValueOf.TheVariants as v

-- the character of a whole number, in a string type
abbrev pub character_converted : Table → Pos → GoType → Constant → Verdict (ValueOf GoType) → Type 0
character_converted table place u x = wants (IsOf (λ term. is_text term && is_whole_constant x) table u) 58 place (good (v.Constant place u (text_of x)))

-- a value that takes the type of its conversion
abbrev pub given_converted : Table → Pos → GoType → Bool → PendingOf GoType → Verdict (ValueOf GoType) → Type 0
given_converted table place u calls x = After (IsGiven table u x) (same_of place u calls)
