-- Values that wait, in types that are no interface types. Part of the rule on values in their places.
use Rattle.std.specs.Prelude.{ℕ}
use Rattle.gno_scan.specs.declared.token.Pos.{Pos}
use Rattle.gno_terms.specs.declared.term.GoType.{GoType}
use Rattle.gno_terms.specs.Tables.{Table}
use Rattle.gno_typing.specs.Classes.{IsOf, is_boolean, is_integer}
use Rattle.gno_typing.specs.Giving.{IsGiven}
use Rattle.gno_typing.specs.Verdicts.{Verdict, wants}
use Rattle.gno_typing.specs.declared.form.FormOf.{FormOf}
use Rattle.gno_typing.specs.declared.pending.PendingOf.{PendingOf}
use Rattle.gno_typing.specs.declared.value.Waits.{Waits}
use Rattle.gno_typing.specs.declared.value.Waits.TheVariants as waits

abbrev pub pending_typed : Table → ℕ → Pos → GoType → Waits → PendingOf GoType → Verdict (FormOf GoType) → Type 0
pending_typed table code at u waits.Boolean x = wants (IsOf is_boolean table u) code at (IsGiven table u x)
pending_typed table code at u (waits.Integer shift) x = wants (IsOf is_integer table u) 46 shift (IsGiven table u x)
