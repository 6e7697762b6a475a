use Rattle.std.proofs.Common.{refl, ap, ◌∙◌, length, Some, false, arith}
use Rattle.std.proofs.lemmas.Option.{slice_get-get_or}
use Rattle.gno_type_table.proofs.Putting.{own_searched, quiet, past_same, past_on, past_searched}
use Rattle.gno_type_table.proofs.searching.wake.Goals as goal

pub search_at-requires-clause-size : goal.search_at-requires-clause-size
search_at-requires-clause-size c = c.requires.kept.size

pub search_at-requires-clause-flags : goal.search_at-requires-clause-flags
search_at-requires-clause-flags c = c.requires.kept.flags

pub wake_all-requires-clause-kept : goal.wake_all-requires-clause-kept
wake_all-requires-clause-kept c =
    own_searched c.args.rows.now c.args.defined (length c.args.rows.now.types) c.args.defined.0 c.args.searches.now c.search_at.new.searches c.args.awaited.now c.search_at.new.awaited c.in_ok-search_at.ensures.ok refl c.requires.kept

pub returns-in_err-search_at-clause-past : goal.returns-in_err-search_at-clause-past
returns-in_err-search_at-clause-past c = past_same c.args.rows.now c.in_err-search_at.ensures.err.0 c.in_err-search_at.ensures.err.1

pub returns-then-awaited-number-clause-past : goal.returns-then-awaited-number-clause-past
returns-then-awaited-number-clause-past c =
    past_on c.args.rows.now c.args.searches.now c.search_at.new.searches c.wake_all.new.searches c.args.awaited.now c.search_at.new.awaited c.wake_all.new.awaited
    (past_searched c.args.rows.now c.args.defined.0 c.args.searches.now c.search_at.new.searches c.args.awaited.now c.search_at.new.awaited c.in_ok-search_at.ensures.ok)
    c.wake_all.ensures.past

pub returns-else-awaited-number-clause-ok : goal.returns-else-awaited-number-clause-ok
returns-else-awaited-number-clause-ok c =
    let within = c.requires.defined in
    let flags = c.requires.kept.flags in
    let size = c.search_at.auto.awaited in
    quiet c.args.rows.now c.args.defined (length c.args.rows.now.types) 0 c.search_at.new.searches c.search_at.new.awaited
    (slice_get-get_or c.search_at.new.awaited c.args.defined.0 false (omega (arith, within, flags, size)) ∙ ap Some c.if-awaited-number.false)
    (own_searched c.args.rows.now c.args.defined (length c.args.rows.now.types) c.args.defined.0 c.args.searches.now c.search_at.new.searches c.args.awaited.now c.search_at.new.awaited c.in_ok-search_at.ensures.ok refl c.requires.kept)

pub returns-else-awaited-number-clause-past : goal.returns-else-awaited-number-clause-past
returns-else-awaited-number-clause-past c =
    past_searched c.args.rows.now c.args.defined.0 c.args.searches.now c.search_at.new.searches c.args.awaited.now c.search_at.new.awaited c.in_ok-search_at.ensures.ok
