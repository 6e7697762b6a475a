use Rattle.std.proofs.Common.{◌∙◌, sym}
use Rattle.gno_scan.proofs.Scanning.{passes, word_stands}
use Rattle.gno_scan.proofs.scanner.Scanner.pass.Goals as goal

pub returns-clause-stands : goal.returns-clause-stands
returns-clause-stands c =
    let moved = c.move_behind.ensures in
    let here = word_stands c.args.self.now.text.now c.args.self.now.at c.args.word.now c.requires.stands.within c.requires.word in
    rw (moved.same.0, moved.same.1, moved.at, moved.tokens.1, moved.tokens.0, moved.pos)
    (passes c.args.self.now.file c.args.self.now.at c.args.self.now.text.now c.args.word.now c.args.self.now.is_closed c.args.self.now.tokens c.args.self.now.pos c.args.piece c.requires.stands here c.requires.begins c.requires.between
    (sym c.is_line_over.ensures ∙ c.if-is_line_over.false))
