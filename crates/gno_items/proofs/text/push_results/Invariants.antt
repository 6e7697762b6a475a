use Rattle.std.proofs.Common.{◌≡◌, ◌++◌, drop}
use Rattle.std.specs.Prelude.{codes}
use Rattle.std.specs.List.{flat_map}
use Rattle.gno_items.specs.Text.{result_text}
use Rattle.gno_items.proofs.text.push_results.Given as goal

abbrev pub invariant-loop-one : goal.invariant-loop-one
invariant-loop-one l = l.text ++ flat_map result_text (drop l.one-index l.results) ≡ l.fn.text ++ (codes "ok" ++ flat_map result_text l.results)
