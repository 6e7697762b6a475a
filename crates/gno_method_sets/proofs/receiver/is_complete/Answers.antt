use Rattle.std.proofs.Common.{sym, subst}
use Rattle.std.specs.Prelude.{IsTrue, ◌↔◌}
use Rattle.gno_embedding.specs.Embedding.{IsComplete, base}
use Rattle.gno_method_sets.proofs.Receivers.{its_base}
use Rattle.gno_method_sets.proofs.Rows.{other_base}
use Rattle.gno_terms.specs.declared.term.GoType.{GoType}
use Rattle.gno_method_sets.proofs.receiver.is_complete.Goals as goal

pub returns-in-Pointer : goal.returns-in-Pointer
returns-in-Pointer c s is = c.is_complete.ensures (base s) (its_base c.args.types.now c.args.t c.term.result.now c.term.ensures.is c.in-Pointer.of c.in-Pointer.is c.term.ensures.parts s is)

pub returns-in_default : goal.returns-in_default
returns-in_default c s is =
    subst (λ (x : GoType). IsTrue c.is_complete-in_default.result ↔ IsComplete c.args.types.now x) (sym (other_base c.args.types.now c.args.t c.term.result.now c.term.ensures.is s is c.in_default.not-Pointer))
    (c.is_complete-in_default.ensures s is)
