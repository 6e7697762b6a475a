use Rattle.std.proofs.Common.{List, ℕ, subst}
use Rattle.std.specs.Prelude.{None}
use Rattle.gno_scan.specs.Tokens.{Span, TokensOf}
use Rattle.gno_scan.proofs.Scanning.{has_tokens}
use Rattle.gno_scan.proofs.scanner.Scanner.read_all.Goals as goal

pub returns-clause-found : goal.returns-clause-found
returns-clause-found c =
    let s = c.loop-self.self in
    subst (λ (t : List ℕ). (spans : List Span) × TokensOf t spans None) c.loop-self.invariant.text
    (has_tokens s.file s.at s.text.now s.is_closed s.tokens s.pos c.loop-self.invariant.stands c.loop-self-test.false)
