use Rattle.std.proofs.Common.{sym, ◌∙◌}
use Rattle.gno_scan.proofs.Operators.{longest_one, longest_three, longest_two, none_begins, spells_one, spells_three, spells_two}
use Rattle.gno_scan.proofs.operator.operator_at.Goals as goal

pub returns-in-Some-clause-spelled : goal.returns-in-Some-clause-spelled
returns-in-Some-clause-spelled c = (spells_three _ _ (sym c.at_three.ensures ∙ c.in-Some.is)).spelled

pub returns-in-Some-clause-longest : goal.returns-in-Some-clause-longest
returns-in-Some-clause-longest c = longest_three _ _ (sym c.at_three.ensures ∙ c.in-Some.is)

pub returns-in-Some-at_two-clause-spelled : goal.returns-in-Some-at_two-clause-spelled
returns-in-Some-at_two-clause-spelled c = (spells_two _ _ (sym c.at_two.ensures ∙ c.in-Some-at_two.is)).spelled

pub returns-in-Some-at_two-clause-longest : goal.returns-in-Some-at_two-clause-longest
returns-in-Some-at_two-clause-longest c = longest_two _ _ (sym c.at_three.ensures ∙ c.in_default.is) (sym c.at_two.ensures ∙ c.in-Some-at_two.is)

pub returns-in-Some-at_one-clause-spelled : goal.returns-in-Some-at_one-clause-spelled
returns-in-Some-at_one-clause-spelled c = (spells_one _ _ (sym c.at_one.ensures ∙ c.in-Some-at_one.is)).spelled

pub returns-in-Some-at_one-clause-longest : goal.returns-in-Some-at_one-clause-longest
returns-in-Some-at_one-clause-longest c =
    longest_one _ _ (sym c.at_three.ensures ∙ c.in_default.is) (sym c.at_two.ensures ∙ c.in_default-at_two.is) (sym c.at_one.ensures ∙ c.in-Some-at_one.is)

pub returns-in_default-at_one-clause-none : goal.returns-in_default-at_one-clause-none
returns-in_default-at_one-clause-none c =
    λ _. none_begins _ (sym c.at_three.ensures ∙ c.in_default.is) (sym c.at_two.ensures ∙ c.in_default-at_two.is) (sym c.at_one.ensures ∙ c.in_default-at_one.is)

pub returns-in-Some-clause-within : goal.returns-in-Some-clause-within
returns-in-Some-clause-within c = (spells_three _ _ (sym c.at_three.ensures ∙ c.in-Some.is)).within

pub returns-in-Some-at_two-clause-within : goal.returns-in-Some-at_two-clause-within
returns-in-Some-at_two-clause-within c = (spells_two _ _ (sym c.at_two.ensures ∙ c.in-Some-at_two.is)).within

pub returns-in-Some-at_one-clause-within : goal.returns-in-Some-at_one-clause-within
returns-in-Some-at_one-clause-within c = (spells_one _ _ (sym c.at_one.ensures ∙ c.in-Some-at_one.is)).within
