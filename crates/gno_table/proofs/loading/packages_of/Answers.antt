use Rattle.std.proofs.Common.{◌≡◌, ◌∙◌, sym}
use Rattle.gno_table.proofs.FoundPackages.{made_again, same_packages}
use Rattle.gno_table.proofs.loading.packages_of.Goals as goal

pub returns-else-are_same-clause-finds : goal.returns-else-are_same-clause-finds
returns-else-are_same-clause-finds c e memory a =
    let packages : c.as_slice.result.now ≡ memory = c.as_slice.ensures ∙ same_packages _ _ (sym c.in-Some.is ∙ c.in_ok-packages.ensures.finds memory a) in
    let made = made_again c.args.rows.now c.in-Ok.batch.changes c.as_slice.result.now memory a packages c.in-Ok.ensures.rows c.in-Ok.ensures.rising in
    let t = c.if-are_same.ensures.1 (c.as_slice-2.ensures ∙ made) in cc
