use Rattle.std.proofs.Common.{sym, subst}
use Rattle.gno_scan.specs.declared.scanner.Fault.{Fault}
use Rattle.gno_scan.specs.Pieces.{BeginsOpen, BeginsStray}
use Rattle.gno_scan.specs.Scan.{EndsAt}
use Rattle.gno_scan.proofs.Fronts.{behind_at}
use Rattle.gno_scan.proofs.Scanning.{ends_open, ends_stray, near_pos}
use Rattle.gno_scan.proofs.scanner.Scanner.read.Goals as goal

pub read_piece-requires-clause-near : goal.read_piece-requires-clause-near
read_piece-requires-clause-near c = near_pos _ _ _ _ _ _ c.requires.stands

pub returns-in-Open-clause-fault : goal.returns-in-Open-clause-fault
returns-in-Open-clause-fault c =
    let s = c.args.self.now in
    subst (λ (f : Fault). EndsAt s.file s.text.now f.code f.at f.pos) (sym c.fault.ensures)
    (ends_open s.file s.at s.text.now s.is_closed s.tokens s.pos c.requires.stands (subst BeginsOpen (behind_at s.at s.text.now) c.in-Open.ensures))

pub returns-in-Stray-clause-fault : goal.returns-in-Stray-clause-fault
returns-in-Stray-clause-fault c =
    let s = c.args.self.now in
    subst (λ (f : Fault). EndsAt s.file s.text.now f.code f.at f.pos) (sym c.fault-in-Stray.ensures)
    (ends_stray s.file s.at s.text.now s.is_closed s.tokens s.pos c.requires.stands c.requires.more (subst BeginsStray (behind_at s.at s.text.now) c.in-Stray.ensures))
