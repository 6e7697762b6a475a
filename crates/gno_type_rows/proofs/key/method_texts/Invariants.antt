use Rattle.std.specs.Prelude.{◌≡◌, ◌++◌, drop}
use Rattle.gno_type_rows.specs.Keys.{method_texts}
use Rattle.gno_type_rows.proofs.key.method_texts.Given as goal

abbrev pub invariant-loop-method : goal.invariant-loop-method
invariant-loop-method l = l.texts ++ method_texts (drop l.method-index l.methods) ≡ method_texts l.methods
