use Rattle.std.proofs.Common.{sym, ◌∙◌, rules, []}
use Rattle.gno_first.specs.Declaring.{with_names}
use Rattle.gno_first.specs.Form.{names_in, in_front, first_of}
use Rattle.gno_first.specs.Options.{all_from}
use Rattle.gno_first.proofs.Declaring.{with_stands}
use Rattle.gno_first.proofs.Each.{fails_with}
use Rattle.gno_first.proofs.FormLaws.{first_no_head, first_no_variables, first_is}
use Rattle.gno_first.proofs.first.read.Goals as goal

pub returns-then-not-begins_well : goal.returns-then-not-begins_well
returns-then-not-begins_well c = first_no_head c.args.tree.now (sym c.begins_well.ensures ∙ c.if-not-begins_well.true)

pub returns-in_err-variables : goal.returns-in_err-variables
returns-in_err-variables c =
    let e = fails_with (with_names [] (all_from names_in (in_front c.args.tree.now.declarations))) (first_of c.args.tree.now) _
    (first_no_variables c.args.tree.now) (rw (c.parted.ensures.front, c.as_slice.ensures) at c.in_err-variables.ensures) in
    search (rules, e)

pub file_with-requires : goal.file_with-requires
file_with-requires c = with_stands [] _ _ c.in_ok-variables.ensures

pub returns : goal.returns
returns c =
    let head = sym c.begins_well.ensures ∙ c.if-not-begins_well.false in
    let found = rw (c.parted.ensures.front, c.as_slice.ensures) at c.in_ok-variables.ensures in
    rw (first_is c.args.tree.now c.in_ok-variables.variables head found)
    (rw (c.as_slice-2.ensures, c.parted.ensures.behind, c.as_slice.ensures) at c.file_with.ensures)
