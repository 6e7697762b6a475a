use Rattle.std.proofs.Common.{List, ℕ, ap, arith, length, length-drop, subst, take}
use Rattle.gno_scan.specs.Escapes.{AreParts, nothing}
use Rattle.gno_scan.proofs.Fronts.{behind_at}
use Rattle.gno_scan.proofs.Parting.{parts_step}
use Rattle.gno_scan.proofs.escape.bad_escape.Goals as goal

pub loop-at-init : goal.loop-at-init
loop-at-init c = record { parts = nothing; within = omega arith }

pub loop-at-preserved : goal.loop-at-preserved
loop-at-preserved c =
    let rest = behind_at c.loop-at.at c.args.inside.now in
    let next = subst (λ (t : List ℕ). AreParts c.args.quote (take c.in-Some.length t)) rest c.in-Some.ensures.part in
    record {
      parts = parts_step c.args.quote c.loop-at.at c.in-Some.length c.args.inside.now c.loop-at.invariant.within c.loop-at.invariant.parts next;
      within = omega (arith, c.in-Some.ensures.within.1, ap length rest, length-drop c.loop-at.at c.args.inside.now, c.loop-at-test.true);
    }
