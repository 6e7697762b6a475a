use Rattle.std.proofs.Common.{subst, Ok, Err, length}
use Rattle.std.specs.Prelude.{IfOk}
use Rattle.std.specs.declared.result.Result.{Result}
use Rattle.std.specs.declared.alloc.AllocError.{AllocError}
use Rattle.std.proofs.lemmas.Option.{slice_get_within}
use Rattle.gno_terms.specs.declared.term.GoType.{GoType}
use Rattle.gno_terms.specs.declared.term.TypeRef.{TypeRef}
use Rattle.gno_terms.specs.declared.term.TermOf.TheVariants as t
use Rattle.gno_terms.specs.Normal.{normal}
use Rattle.gno_terms.specs.Tables.{Table, Is, Below}
use Rattle.gno_terms.specs.Terms.{type_of}
use Rattle.gno_terms.proofs.NormalTypes.{normal_of_normal_parts}
use Rattle.gno_type_table.proofs.tests.basic.Goals as goal

below : (table : Table) (s : GoType) (r : Result TypeRef AllocError) → IfOk r (λ n. Is table n s) → IfOk r (λ n. Below (length table.types) n)
below table s (Ok n) h = slice_get_within table.types n.0 s h
below table s (Err e) h = tt

pub returns-clause-is : goal.returns-clause-is
returns-clause-is c = subst (λ (s : GoType). IfOk c.intern.result (λ (n : TypeRef). Is c.intern.new.self n s)) (normal_of_normal_parts (t.Basic c.args.kind) tt) c.intern.ensures.is

pub returns-clause-below : goal.returns-clause-below
returns-clause-below c = below c.intern.new.self (normal (type_of (t.Basic c.args.kind))) c.intern.result c.intern.ensures.is
