use Rattle.std.specs.Prelude.{◌≡◌, ◌++◌, drop}
use Rattle.gno_type_rows.specs.Keys.{refs}
use Rattle.gno_type_rows.proofs.key.push_refs.Given as goal

abbrev pub invariant-loop-of : goal.invariant-loop-of
invariant-loop-of l = l.numbers ++ refs (drop l.of-index l.types) ≡ l.fn.numbers ++ refs l.types
