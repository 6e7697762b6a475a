use Rattle.std.proofs.Common.{refl, sym, subst}
use Rattle.gno_scan.specs.declared.scanner.Fault.{Fault}
use Rattle.gno_scan.specs.Scan.{EndsAt}
use Rattle.gno_scan.proofs.Scanning.{ends_wrong, is_between, offset_within, word_stands}
use Rattle.gno_scan.proofs.scanner.Scanner.read_piece.Goals as goal

pub fault_in-requires-clause-within : goal.fault_in-requires-clause-within
fault_in-requires-clause-within c = offset_within c.args.piece c.args.word.now c.in-Some.wrong.code c.in-Some.wrong.offset c.in-Some.ensures.wrong

pub returns-in-Some-clause-fault : goal.returns-in-Some-clause-fault
returns-in-Some-clause-fault c =
    let s = c.args.self.now in
    let here = word_stands s.text.now s.at c.args.word.now c.requires.stands.within c.requires.word in
    let wrong = c.in-Some.ensures.wrong in
    let fits = offset_within c.args.piece c.args.word.now c.in-Some.wrong.code c.in-Some.wrong.offset wrong in
    subst (λ (f : Fault). EndsAt s.file s.text.now f.code f.at f.pos) (sym c.fault_in.ensures)
    (ends_wrong s.file s.at s.text.now c.args.word.now s.is_closed s.tokens s.pos c.args.piece c.in-Some.wrong.code c.in-Some.wrong.offset c.requires.stands here c.requires.begins wrong fits)

pub pass-requires : goal.pass-requires
pass-requires c = record {
  word = c.requires.word;
  begins = c.requires.begins;
  between = is_between c.args.piece c.args.word.now (c.in_default.ensures.right refl) c.in_default-piece.not-Token;
  size = c.requires.size;
  near = c.requires.near;
  stands = c.requires.stands;
}
