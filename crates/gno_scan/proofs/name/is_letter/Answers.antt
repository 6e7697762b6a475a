use Rattle.std.proofs.Common.{ap, sym, ◌∙◌}
use Rattle.ucd_category.specs.GeneralCategoryGroup.{in_group}
use Rattle.ucd_category.specs.declared.GeneralCategoryGroup.TheVariants.{Letter}
use Rattle.gno_scan.proofs.Letters.{from_ascii, from_wide, is_letter-alphabetic, is_letter-other, is_letter-wide}
use Rattle.gno_scan.proofs.name.is_letter.Goals as goal

pub returns-then-is_ascii_alphabetic : goal.returns-then-is_ascii_alphabetic
returns-then-is_ascii_alphabetic c =
    is_letter-alphabetic c.args.c c.is_ascii_alphabetic.result (from_ascii _ _ c.is_ascii.ensures c.if-is_ascii.true) c.is_ascii_alphabetic.ensures.value c.if-is_ascii_alphabetic.true

pub returns-else-is_ascii_alphabetic : goal.returns-else-is_ascii_alphabetic
returns-else-is_ascii_alphabetic c =
    is_letter-other c.args.c c.is_ascii_alphabetic.result (from_ascii _ _ c.is_ascii.ensures c.if-is_ascii.true) c.is_ascii_alphabetic.ensures.value c.if-is_ascii_alphabetic.false

pub returns-else-is_ascii : goal.returns-else-is_ascii
returns-else-is_ascii c =
    c.contains.ensures ∙ ap (in_group Letter) c.for_char.ensures ∙ sym (is_letter-wide c.args.c (from_wide _ _ c.is_ascii.ensures c.if-is_ascii.false))
