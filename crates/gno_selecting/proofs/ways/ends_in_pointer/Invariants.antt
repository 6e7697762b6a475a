use Rattle.std.specs.Prelude.{◌≡◌, drop}
use Rattle.gno_typing.specs.Selectors.{ends_in_pointer}
use Rattle.gno_selecting.proofs.ways.ends_in_pointer.Given as goal

abbrev pub invariant-loop-field : goal.invariant-loop-field
invariant-loop-field l = ends_in_pointer l.ends (drop l.field-index l.way) ≡ ends_in_pointer l.pointer l.way
