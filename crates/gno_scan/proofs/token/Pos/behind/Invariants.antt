use Rattle.std.proofs.Common.{◌≡◌, ◌<◌, ◌+◌, ◌^◌, drop, length}
use Rattle.gno_scan.specs.Places.{behind}
use Rattle.gno_scan.proofs.token.Pos.behind.Given as goal

abbrev pub invariant-loop-byte : goal.invariant-loop-byte
invariant-loop-byte l = record {
  rest : behind l.pos (drop l.byte-index l.bytes) ≡ behind l.fn.self l.bytes;
  line : l.pos.line + length (drop l.byte-index l.bytes) < 2 ^ 32;
  column : l.pos.column + length (drop l.byte-index l.bytes) < 2 ^ 32;
}
