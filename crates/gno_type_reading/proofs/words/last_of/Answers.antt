use Rattle.std.proofs.Common.{◌≡◌, ◌+◌, ◌-◌, ◌<◌, ℕ, subst, arith, drop, length, true}
use Rattle.std.specs.List.{list_all}
use Rattle.gno_type_reading.proofs.Cuts.{other, cut_found, uncut}
use Rattle.gno_type_reading.proofs.words.last_of.Goals as goal

pub returns-then-text-end : goal.returns-then-text-end
returns-then-text-end c =
    let text = c.args.text.now in
    let end = c.loop-end.end in
    let back : end ≡ end - 1 + 1 = omega (arith, c.loop-end-test.true) in
    let within : end - 1 < length text = let w = c.loop-end.invariant.within in omega (arith, w, c.loop-end-test.true) in
    record {
      cut = cut_found c.args.byte text (end - 1) 0 within c.if-text-end.true (subst (λ (n : ℕ). list_all (other c.args.byte) (drop n text) ≡ true) back c.loop-end.invariant.none);
      within = within;
    }

pub returns : goal.returns
returns c =
    let none : c.loop-end.end ≡ 0 = omega (arith, c.loop-end-test.false) in
    record {
      cut = uncut c.args.byte c.args.text.now (subst (λ (n : ℕ). list_all (other c.args.byte) (drop n c.args.text.now) ≡ true) none c.loop-end.invariant.none);
      within = tt;
    }
