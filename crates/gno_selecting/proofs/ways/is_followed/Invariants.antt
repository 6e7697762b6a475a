use Rattle.std.specs.Prelude.{◌≡◌, drop}
use Rattle.gno_typing.specs.Selectors.{is_followed}
use Rattle.gno_selecting.proofs.ways.is_followed.Given as goal

abbrev pub invariant-loop-field : goal.invariant-loop-field
invariant-loop-field l = is_followed (drop l.field-index l.way) ≡ is_followed l.way
