use Rattle.std.proofs.Common.{◌≡◌, sym, ◌∙◌, subst, ℕ, ◌-◌, ◌+◌, ◌<◌, ◌≤◌, List, length, arith, reverse, false, get_or}
use Rattle.std.specs.Prelude.{slice_get, Some}
use Rattle.std.proofs.lemmas.Option.{slice_get-get_or}
use Rattle.gno_embedding.specs.declared.ways.Reached.{Reached}
use Rattle.gno_selectors.specs.declared.selection.Passed.{Passed}
use Rattle.gno_selectors.specs.Standings.{GoesFrom}
use Rattle.gno_selectors.proofs.Ways.{goes_on}
use Rattle.gno_selectors.proofs.way.way_to.Goals as goal

-- what stands past the end
abbrev none : Reached
none = record { of = record { 0 = 0 }; depth = 0; followed = false; twice = false; from = 0; place = 0; pointer = false }

pub loop-number-preserved : goal.loop-number-preserved
loop-number-preserved c =
    let its = c.args.reached.now in
    let number : ℕ = c.loop-number.number in
    let n : ℕ = number - 1 in
    let some : 0 < number = c.loop-number-test.true in
    let within : number ≤ length its = c.loop-number.invariant.within in
    let it : Reached = get_or its n none in
    let at : slice_get its n ≡ Some it = slice_get-get_or its n none (omega (arith, some, within)) in
    let back = c.requires.behind n it at in
    let way = c.loop-number.way.items in
    record {
      goes = subst (λ (ps : List Passed). GoesFrom its it.from (c.args.place + 1) (reverse ps)) (sym c.in_ok-push.ensures.items)
          (goes_on its (c.args.place + 1) number n it way (omega (arith, some)) at c.loop-number.invariant.goes);
      within = omega (arith, back, some, within);
    }

pub returns : goal.returns
returns c =
    let its = c.args.reached.now in
    let none_left : c.loop-number.number ≤ 0 = c.loop-number-test.false in
    let zero : c.loop-number.number ≡ 0 = omega (arith, none_left) in
    subst (GoesFrom its 0 (c.args.place + 1)) (sym (c.from_vec.ensures ∙ c.reverse.ensures.items))
    (subst (λ n. GoesFrom its n (c.args.place + 1) (reverse c.loop-number.way.items)) zero c.loop-number.invariant.goes)
