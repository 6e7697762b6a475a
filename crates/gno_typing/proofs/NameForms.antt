-- Each name has a form or a fault.
use Rattle.std.proofs.Common.{ℕ, Bool, true, false, List, Option, Some, None}
use Rattle.std.specs.Prelude.{codes}
use Rattle.std.specs.Str.{bytes_eq}
use Rattle.gno_scan.specs.declared.token.Pos.{Pos}
use Rattle.gno_terms.specs.declared.term.GoType.{GoType}
use Rattle.gno_terms.specs.Exported.{is_exported}
use Rattle.gno_terms.specs.Terms.{term_of}
use Rattle.gno_typed.specs.declared.code.CodeId.{CodeId}
use Rattle.gno_typed.specs.declared.code.VariableId.{VariableId}
use Rattle.gno_typed.specs.declared.scope.NamedOf.{NamedOf}
use Rattle.gno_typed.specs.declared.scope.NamedOf.TheVariants as n
use Rattle.gno_typing.specs.Builtins.{Builtin}
use Rattle.gno_typing.specs.Laws.{HasForm}
use Rattle.gno_typing.specs.Names.{Meaning, builtin_of, exported, found, function, function_named, is_blank, is_realm, meaning_of, meant, named, type_name, variable}
use Rattle.gno_typing.specs.Verdicts.{Verdict, by_test}
use Rattle.gno_typing.specs.declared.operand.OperandOf.TheVariants as o
use Rattle.gno_typing.specs.declared.value.ValueOf.TheVariants as v
use Rattle.gno_typing.proofs.Parts.{bad_form, good_form}

pub test_form : {A : Type 0} (test : Bool) (J K : Verdict A → Type 0) → HasForm J → HasForm K → HasForm (by_test test J K)
test_form true J K h k = h
test_form false J K h k = k

variable_form : (realm : Bool) (at : Pos) (id : VariableId) (s : GoType) → HasForm (variable realm at id s)
variable_form true at id s = good_form _
variable_form false at id s = good_form _

type_name_form : (realm : Bool) (at : Pos) (s : GoType) → HasForm (type_name realm at s)
type_name_form true at s = bad_form 82 at
type_name_form false at s = good_form _

function_form : (crossing : Bool) (at : Pos) (code : CodeId) (s : GoType) → HasForm (function crossing at code s)
function_form true at code s = good_form _
function_form false at code s = good_form _

function_named_form : (it : Option Builtin) (at : Pos) (name : List ℕ) → HasForm (function_named it at name)
function_named_form None at name = bad_form 40 at
function_named_form (Some it) at name = good_form _

meant_form : (at : Pos) (is : NamedOf GoType) → HasForm (meant at is)
meant_form at (n.Variable id s) = variable_form (is_realm (term_of s)) at id s
meant_form at (n.Constant s x) = good_form _
meant_form at (n.TypeName s) = type_name_form (is_realm (term_of s)) at s
meant_form at (n.Function code s crossing) = function_form crossing at code s
meant_form at (n.Package path) = good_form _
meant_form at (n.Builtin name) = test_form (bytes_eq name (codes "nil")) _ _ (good_form (o.Value (v.Nil at))) (test_form (bytes_eq name (codes "cross")) _ _ (good_form (o.Cross at)) (function_named_form (builtin_of name) at name))

found_form : (at : Pos) (is : Option (NamedOf GoType)) → HasForm (found at is)
found_form at None = bad_form 40 at
found_form at (Some is) = meant_form at is

pub named_form : (ms : List Meaning) (at : Pos) (name : List ℕ) → HasForm (named ms at name)
unfolding named
named_form ms at name = test_form (is_blank name) _ _ (bad_form 41 at) (found_form at (meaning_of ms name))

pub exported_form : (ms : List Meaning) (at : Pos) (name : List ℕ) → HasForm (exported ms at name)
unfolding exported
exported_form ms at name = test_form (is_exported name) _ _ (found_form at (meaning_of ms name)) (bad_form 40 at)
