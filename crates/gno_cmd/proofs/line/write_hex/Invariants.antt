use Rattle.std.proofs.Common.{◌≤◌, take}
use Rattle.hex.specs.Hex.{encode_lower}
use Rattle.gno_port.specs.Streams.{Gained}
use Rattle.gno_cmd.proofs.line.write_hex.Given as goal

abbrev pub invariant-loop-byte : goal.invariant-loop-byte
invariant-loop-byte g l = record {
  gained : Gained (g.E.Sink.holds l.fn.err) (g.E.Sink.holds l.err) (encode_lower (take l.byte-index l.bytes));
  later : g.E.Sink.faults l.fn.err ≤ g.E.Sink.faults l.err;
  later_zero : g.E.Sink.zero_writes l.fn.err ≤ g.E.Sink.zero_writes l.err;
}
