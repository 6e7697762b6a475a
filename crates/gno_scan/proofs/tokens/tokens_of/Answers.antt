use Rattle.std.proofs.Common.{inl, subst}
use Rattle.std.specs.Prelude.{Option}
use Rattle.gno_scan.specs.declared.scanner.Fault.{Fault}
use Rattle.gno_scan.specs.Scan.{IsFound, in_tokens}
use Rattle.gno_scan.proofs.tokens.tokens_of.Goals as goal

pub returns-in-Some : goal.returns-in-Some
returns-in-Some c =
    let ends = subst (λ (f : Option Fault). IsFound c.args.scanner.file c.args.scanner.text.now f) c.in-Some.is c.requires.found in
    rw c.fault_at.ensures (c.in-Some.fault.at, in_tokens ends.spans _ c.requires.size ends.fault (inl c.requires.utf8), ends.pos_is)
