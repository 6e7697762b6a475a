use Rattle.std.proofs.Common.{◌≡◌, ◌≤◌, ◌+◌, length}
use Rattle.gno_port.specs.Causes.{counted}
use Rattle.gno_port.specs.Streams.{Lost}
use Rattle.gno_port.proofs.source.read_all.Given as goal

abbrev pub invariant-loop-turn : goal.invariant-loop-turn
invariant-loop-turn g l = record {
  within : length l.text ≤ l.limit;
  each : l._turn ≤ length l.text;
  lost : Lost (g.I.Source.left l.fn.input) (g.I.Source.left l.input) l.text;
  later : g.I.Source.faults l.fn.input ≤ g.I.Source.faults l.input;
  not_ended : g.I.Source.ends l.input ≡ g.I.Source.ends l.fn.input;
  gave : counted (g.I.Source.given l.input) 0 ≡ counted (g.I.Source.given l.fn.input) (length l.text);
  bound : g.I.Source.given l.input ≤ g.I.Source.given l.fn.input + length l.text;
}
