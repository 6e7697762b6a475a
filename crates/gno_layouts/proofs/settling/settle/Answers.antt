use Rattle.std.proofs.Common.{◌≡◌, sym, subst, ℕ, ◌+◌, ◌-◌, ◌≤◌, length, arith, Option, Some}
use Rattle.gno_layouts.specs.Settling.{IsBoard}
use Rattle.gno_layouts.proofs.Told.{top_within, some_room, settled_none, settled_spent}
use Rattle.gno_layouts.proofs.settling.settle.Goals as goal

pub returns-in-None : goal.returns-in-None
returns-in-None c =
    let b = c.loop-turn.invariant in
    settled_none c.args.rows.now c.loop-turn.states c.loop-turn.links c.loop-turn.top b.1 b.0 c.in-None.is b.3

pub told-top-requires-clause-within : goal.told-top-requires-clause-within
told-top-requires-clause-within c =
    let b = c.loop-turn.invariant in
    top_within c.args.rows.now c.loop-turn.states c.loop-turn.links c.in-Some.number b.0 b.1
    (subst (λ (t : Option ℕ). IsBoard c.args.rows.now c.loop-turn.states c.loop-turn.links t b.0 (λ _. ⊥) b.1) c.in-Some.is b.3)

pub told-top-requires-clause-board : goal.told-top-requires-clause-board
told-top-requires-clause-board c =
    let b = c.loop-turn.invariant in
    let is : IsBoard c.args.rows.now c.loop-turn.states c.loop-turn.links (Some c.in-Some.number) b.0 (λ _. ⊥) b.1 =
    subst (λ (t : Option ℕ). IsBoard c.args.rows.now c.loop-turn.states c.loop-turn.links t b.0 (λ _. ⊥) b.1) c.in-Some.is b.3 in
    (b.0, b.1 - 1, subst (IsBoard c.args.rows.now c.loop-turn.states c.loop-turn.links (Some c.in-Some.number) b.0 (λ _. ⊥)) (sym (some_room c.args.rows.now c.loop-turn.states c.loop-turn.links c.in-Some.number b.0 b.1 is)) is)

pub loop-turn-preserved : goal.loop-turn-preserved
loop-turn-preserved c =
    let b = c.loop-turn.invariant in
    let is : IsBoard c.args.rows.now c.loop-turn.states c.loop-turn.links (Some c.in-Some.number) b.0 (λ _. ⊥) b.1 =
    subst (λ (t : Option ℕ). IsBoard c.args.rows.now c.loop-turn.states c.loop-turn.links t b.0 (λ _. ⊥) b.1) c.in-Some.is b.3 in
    let one : b.1 - 1 + 1 ≡ b.1 = some_room c.args.rows.now c.loop-turn.states c.loop-turn.links c.in-Some.number b.0 b.1 is in
    let left = c.told-top.ensures b.0 (b.1 - 1) (subst (IsBoard c.args.rows.now c.loop-turn.states c.loop-turn.links (Some c.in-Some.number) b.0 (λ _. ⊥)) (sym one) is) in
    let room : b.1 + c.loop-turn._turn ≡ length c.args.rows.now = b.2 in
    (left.0, b.1 - 1, omega (arith, one, room), left.1)

pub returns : goal.returns
returns c =
    let b = c.loop-turn.invariant in
    let past : length c.args.rows.now ≤ c.loop-turn._turn = c.loop-turn-test.false in
    let room : b.1 + c.loop-turn._turn ≡ length c.args.rows.now = b.2 in
    settled_spent c.args.rows.now c.loop-turn.states c.loop-turn.links c.loop-turn.top b.1 b.0 (omega (arith, past, room)) b.3
