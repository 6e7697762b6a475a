use Rattle.std.proofs.Common.{◌+◌, drop, false, get_or}
use Rattle.std.proofs.lemmas.List.{drop_all}
use Rattle.gno_embedding.specs.declared.ways.Reached.{Reached}
use Rattle.gno_terms.specs.Tables.{deep}
use Rattle.gno_promotion.proofs.Gathering.{so_all, so_more, split}
use Rattle.gno_promotion.proofs.gather.push_reached.Goals as goal

-- what stands past the end
none : Reached
none = record { of = record { 0 = 0 }; depth = 0; followed = false; twice = false; from = 0; place = 0; pointer = false }

pub loop-it-preserved : goal.loop-it-preserved
unfolding none
loop-it-preserved c =
    let table = c.args.rows.now in
    let its = c.args.reached.now in
    let at = c.loop-it.it-index in
    so_more table its (drop at its) c.args.candidates.now.items (get_or its at none) (drop (at + 1) its) c.loop-it.candidates.items c.push_members.new.candidates.items
    (deep table.types c.term.result.now) (split its at none c.loop-it-test.true) c.loop-it.invariant c.term.ensures.is c.in_ok-push_members.ensures

pub returns : goal.returns
returns c =
    let its = c.args.reached.now in
    so_all c.args.rows.now its (drop c.loop-it.it-index its) c.args.candidates.now.items c.loop-it.candidates.items (drop_all c.loop-it.it-index its c.loop-it-test.false) c.loop-it.invariant
