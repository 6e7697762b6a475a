use Rattle.std.proofs.Common.{length}
use Rattle.std.proofs.lemmas.Bool.{eqb-true, eq-eqb}
use Rattle.gno_scan.proofs.Judging.{escape_one, escape_only}
use Rattle.gno_scan.proofs.judge.is_one_character.Goals as goal

pub returns-in-Some : goal.returns-in-Some
returns-in-Some c =
    let text = c.args.inside.now in (
      λ e. escape_one c.in-Some.size text c.in-Some.ensures.found (eqb-true c.in-Some.size (length text) e),
      λ one. eq-eqb c.in-Some.size (length text) (escape_only c.in-Some.size text c.in-Some.ensures.within.0 c.in-Some.ensures.within.1 c.in-Some.ensures.found one),
    )
