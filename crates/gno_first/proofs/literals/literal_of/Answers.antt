use Rattle.std.proofs.Common.{sym, ◌∙◌}
use Rattle.gno_first.proofs.Spellings.{parsed-none, parsed-large, parsed-other, parsed-is}
use Rattle.gno_first.proofs.literals.literal_of.Goals as goal

pub returns-in_default : goal.returns-in_default
returns-in_default c = parsed-none _ _ c.parsed.ensures c.in_default.is

pub returns-then-number-ge-LITERAL_LIMIT : goal.returns-then-number-ge-LITERAL_LIMIT
returns-then-number-ge-LITERAL_LIMIT c = parsed-large _ _ _ c.parsed.ensures c.in-Some.is c.if-number-ge-LITERAL_LIMIT.true

pub returns-then-not-branch : goal.returns-then-not-branch
returns-then-not-branch c = parsed-other _ _ _ c.parsed.ensures c.in-Some.is (sym c.in_ok-is_spelling.ensures ∙ c.if-not-branch.true)

pub returns : goal.returns
returns c = parsed-is _ _ (sym c.in_ok-is_spelling.ensures ∙ c.if-not-branch.false) c.if-number-ge-LITERAL_LIMIT.false
