use Rattle.std.proofs.Common.{◌≡◌, drop}
use Rattle.gno_rules.specs.Statements.{are_names}
use Rattle.gno_simple.proofs.left.are_names.Given as goal

abbrev pub invariant-loop-found : goal.invariant-loop-found
invariant-loop-found l = are_names (drop l.found-index l.list) ≡ are_names l.list
