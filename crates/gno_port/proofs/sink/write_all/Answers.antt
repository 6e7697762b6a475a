use Rattle.std.proofs.Common.{rules, arith, ◌≡◌, ◌≤◌, ◌<◌, ℕ, length, take, drop, ◌+◌, refl, length-drop, length-take}
use Rattle.gno_port.specs.Streams.{Writes, Gained}
use Rattle.gno_port.proofs.Steps.{wrote, take_rest}
use Rattle.gno_port.proofs.sink.write_all.Goals as goal

pub loop-written-preserved : goal.loop-written-preserved
loop-written-preserved g c = record {
  within = omega (arith, c.in-Ok.ensures.bytes.0, length-drop {A = ℕ}, take_rest c.loop-written.written c.args.bytes.now, length-take {A = ℕ});
  gained = wrote _ _ _ c.args.bytes.now _ c.loop-written.written c.in-Ok.count (take_rest c.loop-written.written c.args.bytes.now) c.loop-written.invariant.gained c.in-Ok.ensures.bytes.1;
  later = omega (arith, c.loop-written.invariant.later, c.in-Ok.ensures.later);
  later_zero = omega (arith, c.loop-written.invariant.later_zero, c.in-Ok.ensures.later_zero);
}
