use Rattle.std.proofs.Common.{◌≡◌, sym, ◌∙◌, subst, Some, true}
use Rattle.std.specs.Prelude.{slice_get, slice_set}
use Rattle.gno_layouts.proofs.SetAt.{set_here}
use Rattle.gno_terms.specs.declared.term.TypeRef.{TypeRef}
use Rattle.gno_type_table.proofs.Cutting.{flag_rises}
use Rattle.gno_type_table.proofs.keeping.flag.Goals as goal

unwrapped : {a b : TypeRef} → Some a ≡ Some b → a ≡ b
unwrapped e = cc

pub returns-clause-rise : goal.returns-clause-rise
returns-clause-rise c k h = flag_rises true c.args.awaited.now c.in-Some.t.0 k (c.requires c.in-Some.t (sym c.in-Some.ensures)) h

pub returns-clause-flagged : goal.returns-clause-flagged
returns-clause-flagged c t e =
    let same : c.in-Some.t ≡ t = unwrapped (c.in-Some.ensures ∙ e) in
    subst (λ (u : TypeRef). slice_get (slice_set c.args.awaited.now c.in-Some.t.0 true) u.0 ≡ Some true) same (set_here c.args.awaited.now c.in-Some.t.0 true (c.requires c.in-Some.t (sym c.in-Some.ensures)))
