use Rattle.std.proofs.Common.{◌≡◌, arith, sym, take}
use Rattle.std.proofs.lemmas.List.{take_all}
use Rattle.gno_port.proofs.Steps.{with_more-nil}
use Rattle.gno_cmd.proofs.Fronts.{as_far, encode_lower-more, encode_lower-nil, front_at, joined, whole}
use Rattle.gno_cmd.proofs.line.write_hex.Goals as goal

pub loop-byte-init : goal.loop-byte-init
loop-byte-init g c = record {
  gained = rw encode_lower-nil (sym (with_more-nil (g.E.Sink.holds c.args.err.now)));
  later = omega arith;
  later_zero = omega arith;
}

pub loop-byte-preserved : goal.loop-byte-preserved
loop-byte-preserved g c = record {
  gained = rw (encode_lower-more c.args.bytes.now c.loop-byte.byte-index c.loop-byte-test.true, ← c.hex_digits.ensures) (joined _ _ _ _ _ c.loop-byte.invariant.gained c.in_ok-write_all.ensures.ok);
  later = omega (arith, c.loop-byte.invariant.later, c.in_ok-write_all.ensures.later);
  later_zero = omega (arith, c.loop-byte.invariant.later_zero, c.in_ok-write_all.ensures.later_zero);
}

pub returns-in_err-write_all-clause-front : goal.returns-in_err-write_all-clause-front
returns-in_err-write_all-clause-front g c =
    front_at _ _ _ c.args.bytes.now c.loop-byte.byte-index c.loop-byte-test.true c.loop-byte.invariant.gained
    (rw (← c.hex_digits.ensures) (as_far c.write_all.result _ _ c.hex_digits.result c.write_all.ensures.ok c.write_all.ensures.err))

pub returns-clause-front : goal.returns-clause-front
returns-clause-front g c =
    let all : take c.loop-byte.byte-index c.args.bytes.now ≡ c.args.bytes.now = take_all _ _ (omega arith) in
    whole _ _ _ (rw all at c.loop-byte.invariant.gained)
