use Rattle.std.proofs.Common.{◌≡◌, ◌+◌, ◌∷◌, ◌∙◌, List, drop, take, ap, arith, subst, sym}
use Rattle.std.specs.Prelude.{Result, Ok, Err, IfErr, IsErrAnd, Bool}
use Rattle.std.proofs.lemmas.List.{take_all}
use Rattle.gno_script.specs.declared.item.Item.{Item}
use Rattle.gno_cmd.specs.declared.performing.ItemFault.TheVariants.{Write}
use Rattle.gno_cmd.specs.Performing.{AreNamed, IsBeforeCommit}
use Rattle.gno_cmd.proofs.Running.{done_step, at_item}
use Rattle.gno_cmd.proofs.Stopped.{HasCome, HasCome-step, performed, stops_before, stops_within}
use Rattle.gno_cmd.proofs.session.run_items.Goals as goal

pub loop-item-preserved : goal.loop-item-preserved
loop-item-preserved g c =
    let inv = c.loop-item.invariant in
    let item = c.item-item.result in
    let later = drop (c.loop-item.item-index + 1) c.args.items.now in
    let performs = c.in_ok-ran.ensures.performs in
    let items : drop c.loop-item.item-index c.args.items.now ≡ item ∷ later = at_item c.args.items.now c.loop-item.item-index item c.loop-item-test.true c.item-item.is in
    let bound = done_step c.loop-item.packages c.loop-item.done item performs.reply performs.replies in
    record {
      came = λ told. rw c.both-good.ensures (HasCome-step c.args.packages.now c.args.items.now c.loop-item.item-index _ _ _ c.loop-item.packages c.perform.new.packages c.loop-item.done c.loop-item.good item _ c.in_ok-ran.ran c.loop-item-test.true c.item-item.is (inv.came told) (inv.told told) performs);
      count = omega (arith, inv.count, bound, performs.shows.done);
      is_open = c.in_ok-ran.ensures.open.0;
      name = c.in_ok-ran.ensures.open.1;
      stands = c.in_ok-ran.ensures.stands;
      start = λ first. absurd {A = g.K.Keeper.tables c.perform.new.keeper c.args.name.now ≡ g.K.Keeper.tables c.args.keeper.now c.args.name.now} (omega (arith, first));
      told = λ told. c.in_ok-ran.ensures.told (inv.told told);
      others = λ other ne. c.in_ok-ran.ensures.others other ne ∙ inv.others other ne;
      named = (subst (λ (rest : List Item). AreNamed rest) items inv.named).1;
      later_out = omega (arith, inv.later_out, c.in_ok-ran.ensures.later_out);
      later_zero = omega (arith, inv.later_zero, c.in_ok-ran.ensures.later_zero);
      later = omega (arith, inv.later, c.in_ok-ran.ensures.later);
    }

same_fault : {X E : Type 0} (result : Result X E) (given fault : E) → IsErrAnd result (λ e. e ≡ given) → result ≡ Err fault → given ≡ fault
same_fault (Ok value) given fault is e = absurd is
same_fault (Err other) given fault is e = cc

pub returns-in_err-ran-clause-within : goal.returns-in_err-ran-clause-within
returns-in_err-ran-clause-within g c = λ fault told.
    let inv = c.loop-item.invariant in
    let write : c.perform.result ≡ Err Write = c.in_err-ran.was ∙ ap Err (same_fault c.from_residual.result _ Write c.from_residual.ensures.1 fault) in
    stops_within c.args.packages.now c.args.items.now c.loop-item.item-index _ _ _ c.loop-item.packages c.loop-item.done c.loop-item.good c.item-item.result _ c.loop-item-test.true c.item-item.is (inv.came told) (c.perform.ensures.told (inv.told told)) (c.perform.ensures.broken write)

if_err : {X E : Type 0} (P : E → Type 0) (result : Result X E) (given : E) → IsErrAnd result (λ e. e ≡ given) → P given → IfErr result P
if_err P (Ok value) given is p = absurd is
if_err P (Err other) given is p = subst P (sym is) p

pub returns-in_err-ran-clause-before : goal.returns-in_err-ran-clause-before
returns-in_err-ran-clause-before g c =
    let inv = c.loop-item.invariant in
    if_err _ c.from_residual.result _ c.from_residual.ensures.1
    (λ before told. stops_before c.args.packages.now c.args.items.now c.loop-item.item-index _ _ _ c.loop-item.packages c.loop-item.done c.loop-item.good _ _ _
    (omega (arith, c.loop-item-test.true)) (inv.came told) (c.in_err-ran.ensures.unwritten before) (ap (λ tables. tables c.args.name.now) (c.in_err-ran.ensures.unstored before)) inv.start (inv.told told) inv.stands)

pub returns-clause-over : goal.returns-clause-over
returns-clause-over g c = λ told.
    let inv = c.loop-item.invariant in
    performed c.args.packages.now c.args.items.now (take c.loop-item.item-index c.args.items.now) _ _ c.loop-item.packages c.loop-item.done c.loop-item.good _
    (take_all c.loop-item.item-index c.args.items.now (omega (arith, c.loop-item-test.false))) (inv.came told) inv.stands
