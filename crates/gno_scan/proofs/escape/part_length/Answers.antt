use Rattle.std.proofs.Common.{List, ℕ}
use Rattle.std.specs.Prelude.{Option, Some, None, IfSome}
use Rattle.gno_scan.specs.Escapes.{AreParts, IsEscape}
use Rattle.gno_scan.proofs.Parting.{bad_at_once, one_byte, one_part}
use Rattle.gno_scan.proofs.escape.part_length.Goals as goal
use Rattle.std.proofs.Common.{take}

are_parts : (quote : ℕ) (text : List ℕ) (found : Option ℕ) → IfSome found (λ size. IsEscape quote (take size text)) → IfSome found (λ size. AreParts quote (take size text))
are_parts quote text None is = is
are_parts quote text (Some size) is = one_part quote (take size text) is

pub returns-then-text-eq92-clause-part : goal.returns-then-text-eq92-clause-part
returns-then-text-eq92-clause-part c = are_parts c.args.quote c.args.text.now c.escape_length.result c.escape_length.ensures.found

pub returns-then-text-eq92-clause-bad : goal.returns-then-text-eq92-clause-bad
returns-then-text-eq92-clause-bad c = λ none. bad_at_once c.args.quote c.args.text.now c.requires c.if-text-eq92.true (c.escape_length.ensures.none none)

pub returns-else-text-eq92-clause-part : goal.returns-else-text-eq92-clause-part
returns-else-text-eq92-clause-part c = one_byte c.args.quote c.args.text.now c.requires c.if-text-eq92.false
