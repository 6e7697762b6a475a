use Rattle.gno_scan.specs.Scan.{too_long}
use Rattle.gno_scan.proofs.tokens.scan.Goals as goal

pub returns-then-text-gt-MOST_BYTES : goal.returns-then-text-gt-MOST_BYTES
returns-then-text-gt-MOST_BYTES c = (0, too_long c.if-text-gt-MOST_BYTES.true, c.first_of.ensures)
