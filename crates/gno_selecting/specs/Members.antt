-- Members that were found by numbers of types, as the rules have them. This project's own.
use Rattle.std.specs.Prelude.{ℕ, Bool, List}
use Rattle.gno_scan.specs.declared.token.Pos.{Pos}
use Rattle.gno_selectors.specs.declared.selection.Passed.{Passed}
use Rattle.gno_terms.specs.declared.term.GoType.{GoType}
use Rattle.gno_terms.specs.declared.term.MethodOf.{MethodOf}
use Rattle.gno_terms.specs.declared.term.TypeRef.{TypeRef}
use Rattle.gno_terms.specs.Tables.{Table}
use Rattle.gno_type_classes.specs.declared.holders.Holder as code
use Rattle.gno_typed.specs.declared.step.ReceiverOf.{ReceiverOf}
use Rattle.gno_typing.specs.Binary.{calls_in}
use Rattle.gno_typing.specs.Operands.{settled}
use Rattle.gno_typing.specs.Selectors.{Holder, MethodFound, selected_in}
use Rattle.gno_typing.specs.Verdicts.{Verdict, After}
use Rattle.gno_typing.specs.declared.form.FormOf.{FormOf}
use Rattle.gno_typing.specs.declared.operand.OperandOf.{OperandOf}
use Rattle.gno_typing.specs.declared.operand.OperandOf.TheVariants as o
use Rattle.gno_typing.specs.declared.value.Standing.TheVariants as st
use Rattle.gno_typing.specs.declared.value.ValueOf.{ValueOf}

-- the type whose fields and methods count
abbrev pub holder_with : code.Holder → GoType → Holder
holder_with h u = record { of = u; pointer = h.pointer; fields_alone = h.fields_alone }

-- a method of a type, with the type of the method
abbrev pub method_found : List Passed → GoType → MethodOf TypeRef → GoType → MethodFound
method_found way of m t = record { way = way; of = of; method = record { name = m.name; «package» = m.«package»; of = t; pointer = m.pointer } }

abbrev pub bound_form : Bool → Pos → Bool → FormOf GoType → Holder → MethodFound → ReceiverOf GoType → OperandOf GoType
bound_form as_place place calls form h x r = o.Method place x.method.of calls form (record { place = as_place; pointer = h.pointer; way = x.way; name = x.method.name; «package» = x.method.«package»; receiver = r })

-- a member of a value in its own or its default type
abbrev pub settled_selected : Table → Pos → List ℕ → List ℕ → ValueOf GoType → Verdict (OperandOf GoType) → Type 0
settled_selected table place path name x = After (settled table 52 place x) (λ y. selected_in table place path name y.of st.Result (calls_in x) y.form)
