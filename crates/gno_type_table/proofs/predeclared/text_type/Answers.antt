use Rattle.std.proofs.Common.{subst}
use Rattle.std.specs.Prelude.{IfOk}
use Rattle.gno_terms.specs.declared.term.GoType.{GoType}
use Rattle.gno_terms.specs.declared.term.TypeRef.{TypeRef}
use Rattle.gno_terms.specs.Tables.{Is}
use Rattle.gno_type_table.proofs.ErrorType.{normal_text}
use Rattle.gno_type_table.proofs.predeclared.text_type.Goals as goal

pub returns-clause-is : goal.returns-clause-is
returns-clause-is c = subst (λ (s : GoType). IfOk c.intern.result (λ (t : TypeRef). Is c.intern.new.self t s)) normal_text c.intern.ensures.is
