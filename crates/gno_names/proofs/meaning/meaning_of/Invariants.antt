use Rattle.std.specs.Prelude.{◌≡◌, drop, None}
use Rattle.std.specs.Option.{option_copied}
use Rattle.gno_names.specs.Scopes.{innermost}
use Rattle.gno_names.proofs.meaning.meaning_of.Given as goal

abbrev pub invariant-loop-one : goal.invariant-loop-one
invariant-loop-one l = innermost (option_copied l.found) (drop l.one-index l.names) l.name ≡ innermost None l.names l.name
