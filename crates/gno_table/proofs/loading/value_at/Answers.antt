use Rattle.std.proofs.Common.{rules, ◌∙◌, ap, sym}
use Rattle.std.specs.Option.{option_copied}
use Rattle.std.proofs.lemmas.Fn.{always_returns_same}
use Rattle.gno_table.proofs.RisingRows.{order}
use Rattle.gno_table.proofs.Searches.{matched, missed}
use Rattle.gno_table.proofs.loading.value_at.Goals as goal

pub returns-in_err-at : goal.returns-in_err-at
returns-in_err-at c s =
    let answer = c.binary_search_by.ensures.position (λ r. order r.key c.args.key.now) (always_returns_same _ _ _ (λ a r f called. search rules)) in
    ap option_copied c.from_residual.ensures ∙ sym (missed c.args.rows.now c.args.key.now c.binary_search_by.result s answer c.in_err-at.ensures.value)

pub returns : goal.returns
returns c s =
    let answer = c.binary_search_by.ensures.position (λ r. order r.key c.args.key.now) (always_returns_same _ _ _ (λ a r f called. search rules)) in
    c.as_ref.ensures.value ∙ sym (matched c.args.rows.now c.args.key.now c.binary_search_by.result c.in_ok-at.at c.index-rows-at.result s c.binary_search_by.ensures.bound answer c.in_ok-at.ensures.value)
