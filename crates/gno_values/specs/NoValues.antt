-- Operands that are no value, and no method of one. This project's own.
use Rattle.std.specs.Prelude.{⊤}
use Rattle.gno_terms.specs.declared.term.TypeRef.{TypeRef}
use Rattle.gno_typing.specs.declared.operand.OperandOf.{OperandOf}
use Rattle.gno_typing.specs.declared.operand.OperandOf.TheVariants as o

abbrev pub IsNoValue : OperandOf TypeRef → Type 0
IsNoValue (o.Value x) = ⊥
IsNoValue (o.Method at of calls form bound) = ⊥
IsNoValue x = ⊤
