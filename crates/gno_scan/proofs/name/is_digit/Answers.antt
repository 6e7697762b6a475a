use Rattle.std.proofs.Common.{sym, ◌∙◌}
use Rattle.gno_scan.proofs.Letters.{from_ascii, is_digit-ascii, is_digit-decimal, is_digit-other}
use Rattle.gno_scan.proofs.name.is_digit.Goals as goal

pub returns-then-is_ascii : goal.returns-then-is_ascii
returns-then-is_ascii c = c.is_ascii_digit.ensures.value ∙ sym (is_digit-ascii c.args.c (from_ascii _ _ c.is_ascii.ensures c.if-is_ascii.true))

pub returns-in-DecimalNumber : goal.returns-in-DecimalNumber
returns-in-DecimalNumber c = sym (is_digit-decimal c.args.c c.for_char.result c.for_char.ensures c.in-DecimalNumber.is)

pub returns-in_default : goal.returns-in_default
returns-in_default c = sym (is_digit-other c.args.c c.for_char.result c.for_char.ensures c.in_default.not-DecimalNumber)
