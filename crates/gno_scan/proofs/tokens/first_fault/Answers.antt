use Rattle.std.proofs.Common.{inr, refl, subst}
use Rattle.std.specs.Prelude.{Option}
use Rattle.gno_scan.specs.declared.scanner.Fault.{Fault}
use Rattle.gno_scan.specs.Scan.{IsFound, in_tokens}
use Rattle.gno_scan.proofs.FirstFaults.{bad_first, none_before, some_before}
use Rattle.gno_scan.proofs.tokens.first_fault.Goals as goal
use Rattle.gno_scan.proofs.tokens.first_fault.Goals.{in_default-via-in-Some+else-fault-bad, in_default-via-in_default}

pub returns-in-Some : goal.returns-in-Some
returns-in-Some c =
    let ends = subst (λ (f : Option Fault). IsFound c.args.file c.args.text.now f) c.in-Some.is c.requires.found in
    rw c.fault_at.ensures (c.in-Some.fault.at, in_tokens ends.spans _ c.requires.size ends.fault (inr (c.args.bad, c.requires.bad, c.if-fault-bad.true)), ends.pos_is)

pub returns-in_default : goal.returns-in_default
returns-in_default c = elim c.in_default.branch [
  | in_default-via-in-Some+else-fault-bad w ↦ (c.args.bad, bad_first c.args.file c.args.bad c.args.text.now c.args.found c.requires.size c.requires.bad c.requires.found (some_before c.args.found w.in-Some.fault c.args.bad w.in-Some.is w.if-fault-bad.false), rw (c.behind.ensures, c.first_of.ensures) refl)
  | in_default-via-in_default w ↦ (c.args.bad, bad_first c.args.file c.args.bad c.args.text.now c.args.found c.requires.size c.requires.bad c.requires.found (none_before c.args.found c.args.bad w.in_default.is), rw (c.behind.ensures, c.first_of.ensures) refl)
]
