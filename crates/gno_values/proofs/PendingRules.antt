-- The rule on values that wait, in their places.
use Rattle.std.proofs.Common.{ℕ, ◌≡◌, subst, sym}
use Rattle.gno_scan.specs.declared.token.Pos.{Pos}
use Rattle.gno_terms.specs.Tables.{Table}
use Rattle.gno_terms.specs.declared.term.GoType.{GoType}
use Rattle.gno_typing.specs.Classes.{IsInterface}
use Rattle.gno_typing.specs.Giving.{IsDefaulted, held, pending_given}
use Rattle.gno_typing.specs.Verdicts.{After, Verdict, where_so}
use Rattle.gno_typing.specs.declared.form.FormOf.{FormOf}
use Rattle.gno_typing.specs.declared.pending.PendingOf.{PendingOf}
use Rattle.gno_typing.specs.declared.value.Waits.{Waits}
use Rattle.gno_typing.specs.declared.value.Waits.TheVariants as waits
use Rattle.gno_values.specs.Pending.{pending_typed}

pub pending_by : (P : (Verdict (FormOf GoType) → Type 0) → Type 0) (table : Table) (code : ℕ) (at : Pos) (u : GoType) (needs : Waits) (x : PendingOf GoType)
    → P (where_so (IsInterface table u) (After (IsDefaulted table x) (held table code at u)) (pending_typed table code at u needs x)) → P (pending_given table code at u needs x)
pending_by P table code at u waits.Boolean x h = h
pending_by P table code at u (waits.Integer shift) x h = h

pub typed_by_waits : (P : (Verdict (FormOf GoType) → Type 0) → Type 0) (table : Table) (code : ℕ) (at : Pos) (u : GoType) (needs other : Waits) (x : PendingOf GoType) → needs ≡ other → P (pending_typed table code at u other x) → P (pending_typed table code at u needs x)
typed_by_waits P table code at u needs other x e h = subst (λ (n : Waits). P (pending_typed table code at u n x)) (sym e) h
