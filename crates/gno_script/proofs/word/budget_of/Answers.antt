use Rattle.std.proofs.Common.{sym, ◌∙◌}
use Rattle.gno_script.proofs.Budgets.{parsed-none, parsed-large, parsed-other, parsed-is}
use Rattle.gno_script.proofs.word.budget_of.Goals as goal

pub returns-in_default : goal.returns-in_default
returns-in_default c = parsed-none _ _ c.parsed.ensures c.in_default.is

pub returns-then-number : goal.returns-then-number
returns-then-number c = parsed-large _ _ _ c.parsed.ensures c.in-Some.is c.if-number.true

pub returns-then-not-branch : goal.returns-then-not-branch
returns-then-not-branch c = parsed-other _ _ _ c.parsed.ensures c.in-Some.is (sym c.in_ok-is_spelling.ensures ∙ c.if-not-branch.true)

pub returns : goal.returns
returns c = parsed-is _ _ (sym c.in_ok-is_spelling.ensures ∙ c.if-not-branch.false) c.if-number.false
