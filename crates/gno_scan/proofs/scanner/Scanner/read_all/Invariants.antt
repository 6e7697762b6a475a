use Rattle.std.proofs.Common.{◌≡◌, ◌-◌, length}
use Rattle.gno_scan.specs.Scan.{Stands}
use Rattle.gno_scan.proofs.scanner.Scanner.read_all.Given as goal

abbrev pub decreases-loop-self : goal.decreases-loop-self
decreases-loop-self l = length l.self.text.now - l.self.at

abbrev pub invariant-loop-self : goal.invariant-loop-self
invariant-loop-self l = record {
  stands : Stands l.self;
  file : l.self.file ≡ l.fn.self.file;
  text : l.self.text.now ≡ l.fn.self.text.now;
}
