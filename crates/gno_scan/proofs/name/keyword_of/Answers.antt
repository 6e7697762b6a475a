use Rattle.std.proofs.Common.{ap, arith, length, ◌<◌, ◌≤◌}
use Rattle.gno_scan.specs.Kinds.{keywords_by_length}
use Rattle.gno_scan.proofs.Keywords.{exact, keywords_from_seven-spelled, keywords_of_five-spelled, keywords_of_four-spelled, keywords_of_six-spelled, keywords_up_to_three-spelled, table_from_seven, table_up_to_three}
use Rattle.gno_scan.proofs.name.keyword_of.Goals as goal

pub returns-in-0-to-3 : goal.returns-in-0-to-3
returns-in-0-to-3 c =
    let short : length c.args.word.now ≤ 3 = omega arith in
    exact _ _ _ (table_up_to_three _ short) keywords_up_to_three-spelled c.keyword_up_to_three.ensures

pub returns-in-4 : goal.returns-in-4
returns-in-4 c = exact _ _ _ (ap keywords_by_length c.in-4.is) keywords_of_four-spelled c.keyword_of_four.ensures

pub returns-in-5 : goal.returns-in-5
returns-in-5 c = exact _ _ _ (ap keywords_by_length c.in-5.is) keywords_of_five-spelled c.keyword_of_five.ensures

pub returns-in-6 : goal.returns-in-6
returns-in-6 c = exact _ _ _ (ap keywords_by_length c.in-6.is) keywords_of_six-spelled c.keyword_of_six.ensures

pub returns-in_default : goal.returns-in_default
returns-in_default c =
    let long : 6 < length c.args.word.now = omega arith in
    exact _ _ _ (table_from_seven _ long) keywords_from_seven-spelled c.keyword_from_seven.ensures
