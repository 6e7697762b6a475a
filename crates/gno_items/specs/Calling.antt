-- The call of a function of a realm. The refusals stand in their order: the first that applies is the answer.
use Rattle.std.specs.Prelude.{ℕ, ◌-◌, List, [], ◌∷◌, Option, Some, None, Bool, false, ◌&&◌, if◌then◌else◌, nat_le, position, codes}
use Rattle.std.specs.Str.{bytes_eq}
use Rattle.std.specs.Fmt.{signed_decimal}
use Rattle.gno_base.specs.Number.{Number}
use Rattle.gno_first.specs.declared.tree.FirstFunc.{FirstFunc}
use Rattle.gno_machine.specs.Meaning.{Ended, run_meaning}
use Rattle.gno_items.specs.declared.memory.Package.{Package}
use Rattle.gno_items.specs.declared.calling.Called.{Called}
use Rattle.gno_items.specs.declared.reply.ResultText.{ResultText}
use Rattle.gno_items.specs.declared.reply.End.TheVariants.{Ok, Spent}
use Rattle.gno_items.specs.Memory.{package_of}
use Rattle.gno_items.specs.Replies.{refusal}

-- a name is exported where it begins with an upper case letter. Go specification, "Exported identifiers", for names in ASCII.
abbrev pub is_exported : List ℕ → Bool
is_exported [] = false
is_exported (first ∷ rest) = nat_le 65 first && nat_le first 90

-- the number of the first function of that name
abbrev pub function_of : List FirstFunc → List ℕ → Option ℕ
function_of functions name = position (λ f. bytes_eq f.name name) functions

-- a result is of type `int`
abbrev pub results_of : Option Number → List ResultText
results_of None = []
results_of (Some number) = record { value = signed_decimal number.value; of = codes "int" } ∷ []

abbrev pub refused_call : ℕ → Called
refused_call code = record { reply = refusal code; values = None }

-- a run that is spent leaves the values as they were
abbrev pub ran : ℕ → Ended → Called
ran budget ended = if ended.end.spent
    then record { reply = record { end = Spent; printed = ended.end.printed; used = budget - ended.end.left }; values = None }
    else record { reply = record { end = Ok (results_of ended.end.result); printed = ended.end.printed; used = budget - ended.end.left }; values = Some ended.values }

abbrev pub called_function : Package → ℕ → List ℕ → Option ℕ → Called
called_function p budget function None = refused_call 105
called_function p budget function (Some at) = if is_exported function then ran budget (run_meaning p.file at p.values budget) else refused_call 105

abbrev pub called_in : ℕ → List ℕ → Option Package → Called
called_in budget function None = refused_call 104
called_in budget function (Some p) = called_function p budget function (function_of p.file.functions function)

-- 104: no package of that path is held. 105: it has no such function that may be called.
abbrev pub called : List Package → ℕ → List ℕ → List ℕ → Called
called memory budget path function = called_in budget function (package_of memory path)
