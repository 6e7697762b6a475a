use Rattle.std.proofs.Common.{◌∙◌, subst}
use Rattle.std.specs.Prelude.{Bool}
use Rattle.gno_scan.specs.Scan.{HasScanned}
use Rattle.gno_scan.proofs.Scanning.{inserts, word_stands}
use Rattle.gno_scan.proofs.scanner.Scanner.end_line.Goals as goal

pub returns-clause-stands : goal.returns-clause-stands
returns-clause-stands c =
    let s = c.args.self.now in
    let moved = c.move_behind.ensures in
    let here = word_stands s.text.now s.at c.args.word.now c.requires.stands.within c.requires.word in
    let closed = subst (λ (b : Bool). HasScanned s.file s.text.now s.at b s.tokens s.pos) c.requires.closed c.requires.stands in
    rw (moved.same.0, moved.same.1, moved.at, moved.tokens.1, moved.tokens.0 ∙ c.in_ok-push.ensures.ok, moved.pos, c.behind.ensures, c.to_line_feed-feed.ensures.count)
    (inserts s.file s.at s.text.now c.args.word.now s.tokens s.pos c.args.piece closed here c.requires.begins c.requires.between c.requires.ends)
