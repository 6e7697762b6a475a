use Rattle.std.proofs.Common.{◌∙◌}
use Rattle.gno_scan.proofs.Scanning.{reads, word_stands}
use Rattle.gno_scan.proofs.scanner.Scanner.read_token.Goals as goal

pub returns-clause-stands : goal.returns-clause-stands
returns-clause-stands c =
    let moved = c.move_behind.ensures in
    let here = word_stands c.args.self.now.text.now c.args.self.now.at c.args.word.now c.requires.stands.within c.requires.word in
    rw (moved.same.0, moved.same.1, moved.at, moved.tokens.1 ∙ c.closes_line-self.ensures, moved.tokens.0 ∙ c.in_ok-push.ensures.ok, moved.pos)
    (reads c.args.self.now.file c.args.self.now.at c.args.self.now.text.now c.args.word.now c.args.self.now.is_closed c.args.self.now.tokens c.args.self.now.pos c.args.kind c.requires.stands here c.requires.begins c.requires.right)
