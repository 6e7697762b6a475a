use Rattle.std.proofs.Common.{subst}
use Rattle.std.specs.Prelude.{Bool}
use Rattle.gno_scan.specs.Scan.{HasScanned}
use Rattle.gno_scan.proofs.Scanning.{all_read, ends_closed}
use Rattle.gno_scan.proofs.scanner.Scanner.end.Goals as goal

pub returns-then-not-is_closed : goal.returns-then-not-is_closed
returns-then-not-is_closed c =
    let s = c.args.self in
    all_read s.file s.at s.text.now s.tokens s.pos (subst (λ (b : Bool). HasScanned s.file s.text.now s.at b s.tokens s.pos) c.if-not-is_closed.true c.requires.stands) c.requires.over

pub returns : goal.returns
returns c =
    let s = c.args.self in
    rw c.in_ok-push.ensures.ok
    (ends_closed s.file s.at s.text.now s.tokens s.pos (subst (λ (b : Bool). HasScanned s.file s.text.now s.at b s.tokens s.pos) c.if-not-is_closed.false c.requires.stands) c.requires.over)
