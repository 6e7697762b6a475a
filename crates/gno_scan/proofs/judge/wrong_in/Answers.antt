use Rattle.std.proofs.Common.{sym, subst}
use Rattle.gno_scan.specs.declared.piece.Piece.{Piece}
use Rattle.gno_scan.specs.Tokens.{IsWrong, other_number}
use Rattle.gno_scan.proofs.judge.wrong_in.Goals as goal

pub returns-in-OtherNumber-clause-wrong : goal.returns-in-OtherNumber-clause-wrong
returns-in-OtherNumber-clause-wrong c = subst (λ (piece : Piece). IsWrong piece c.args.word.now 6 0) (sym c.in-OtherNumber.is) (other_number c.args.word.now)
