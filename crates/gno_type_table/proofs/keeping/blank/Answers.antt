use Rattle.std.proofs.Common.{◌≤◌, [], ◌∷◌, length, length-append, ap, arith}
use Rattle.gno_promotion.specs.declared.found.Search.TheVariants.{Blocked}
use Rattle.gno_type_table.proofs.Putting.{blank_none, blank_push}
use Rattle.gno_type_table.proofs.keeping.blank.Goals as goal

pub loop-number-init : goal.loop-number-init
loop-number-init c = (ap length c.new-searches.ensures.items, blank_none c.new-searches.ensures.items)

pub loop-number-preserved : goal.loop-number-preserved
loop-number-preserved c = (
  let items = ap length c.in_ok-push.ensures.items in let size = c.loop-number.invariant.0 in omega (arith, items, size, length-append c.loop-number.searches.items (Blocked c.new.result ∷ [])),
  blank_push c.loop-number.searches.items c.push.new.self.items c.new.result c.in_ok-push.ensures.items c.new.ensures c.loop-number.invariant.1,
)

pub returns-clause-size : goal.returns-clause-size
returns-clause-size c =
    let end : c.args.count ≤ c.loop-number._number = c.loop-number-test.false in
    let auto = c.loop-number.auto._number-end in
    let size = c.loop-number.invariant.0 in
    omega (arith, end, auto, size)

pub returns-clause-each : goal.returns-clause-each
returns-clause-each c = c.loop-number.invariant.1
