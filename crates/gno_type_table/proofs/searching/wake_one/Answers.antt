use Rattle.std.proofs.Common.{◌≡◌, refl, sym, ap, ◌∙◌, length, get_or, Some, true, true≢false, arith}
use Rattle.std.specs.Prelude.{slice_get}
use Rattle.std.proofs.lemmas.Option.{slice_get-get_or}
use Rattle.gno_promotion.specs.declared.found.Search.{Search}
use Rattle.gno_type_table.specs.Kept.{awaited_by}
use Rattle.gno_type_table.proofs.Putting.{next_searched, next_skipped, on_ok, past_result, past_same}
use Rattle.gno_type_table.proofs.searching.wake_one.Goals as goal

unwrapped : {a b : Search} → Some a ≡ Some b → a ≡ b
unwrapped e = cc

pub search_at-requires-clause-size : goal.search_at-requires-clause-size
search_at-requires-clause-size c = c.requires.kept.size

pub search_at-requires-clause-flags : goal.search_at-requires-clause-flags
search_at-requires-clause-flags c = c.requires.kept.flags

pub returns-then-waits_for-clause-ok : goal.returns-then-waits_for-clause-ok
returns-then-waits_for-clause-ok c =
    on_ok c.search_at.result
    (λ s. next_searched c.args.rows.now c.args.defined (length c.args.rows.now.types) c.args.number c.args.searches.now c.search_at.new.searches c.args.awaited.now c.search_at.new.awaited s c.requires.kept)
    c.search_at.ensures.ok

pub returns-then-waits_for-clause-past : goal.returns-then-waits_for-clause-past
returns-then-waits_for-clause-past c =
    past_result c.args.rows.now c.args.number c.args.searches.now c.search_at.new.searches c.args.awaited.now c.search_at.new.awaited c.search_at.result c.search_at.ensures.ok c.search_at.ensures.err

pub returns-else-waits_for-clause-ok : goal.returns-else-waits_for-clause-ok
returns-else-waits_for-clause-ok c =
    let own : Search = get_or c.args.searches.now c.args.number c.index-searches-number.result in
    let size = c.requires.kept.size in
    let within = c.requires.number in
    let there : slice_get c.args.searches.now c.args.number ≡ Some own = slice_get-get_or c.args.searches.now c.args.number c.index-searches-number.result (omega (arith, size, within)) in
    next_skipped c.args.rows.now c.args.defined (length c.args.rows.now.types) c.args.number c.args.searches.now c.args.awaited.now
    (λ y h e.
    let same : y ≡ own = unwrapped (sym h ∙ there) in
    let is : c.waits_for.result ≡ true = c.waits_for.ensures.1 (ap awaited_by (sym same) ∙ e) in
    true≢false (sym is ∙ c.if-waits_for.false))
    c.requires.kept

pub returns-else-waits_for-clause-past : goal.returns-else-waits_for-clause-past
returns-else-waits_for-clause-past c = past_same c.args.rows.now refl refl
