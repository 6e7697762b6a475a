use Rattle.std.proofs.Common.{subst}
use Rattle.std.specs.Prelude.{IfOk}
use Rattle.gno_terms.proofs.NormalTypes.{normal_of_normal_parts}
use Rattle.gno_terms.specs.declared.term.GoType.{GoType}
use Rattle.gno_terms.specs.declared.term.TermOf.TheVariants as t
use Rattle.gno_terms.specs.declared.term.TypeRef.{TypeRef}
use Rattle.gno_terms.specs.Tables.{Is}
use Rattle.gno_giving.proofs.basics.basic.Goals as goal

pub returns-clause-is : goal.returns-clause-is
returns-clause-is c = subst (λ (s : GoType). IfOk c.intern.result (λ (n : TypeRef). Is c.intern.new.self n s)) (normal_of_normal_parts (t.Basic c.args.kind) tt) c.intern.ensures.is
