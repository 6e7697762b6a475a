-- Each name has one verdict.
use Rattle.std.proofs.Common.{ℕ, Bool, true, false, List, Option, Some, None}
use Rattle.std.specs.Prelude.{codes}
use Rattle.std.specs.Str.{bytes_eq}
use Rattle.gno_scan.specs.declared.token.Pos.{Pos}
use Rattle.gno_terms.specs.declared.term.GoType.{GoType}
use Rattle.gno_terms.specs.Exported.{is_exported}
use Rattle.gno_terms.specs.Terms.{term_of}
use Rattle.gno_typed.specs.declared.code.CodeId.{CodeId}
use Rattle.gno_typed.specs.declared.code.VariableId.{VariableId}
use Rattle.gno_typed.specs.declared.scope.NamedOf.{NamedOf}
use Rattle.gno_typed.specs.declared.scope.NamedOf.TheVariants as n
use Rattle.gno_typing.specs.Builtins.{Builtin}
use Rattle.gno_typing.specs.Laws.{HasOne}
use Rattle.gno_typing.specs.Names.{Meaning, builtin_of, exported, found, function, function_named, is_blank, is_realm, meaning_of, meant, named, type_name, variable}
use Rattle.gno_typing.specs.Verdicts.{Verdict, by_test}
use Rattle.gno_typing.specs.declared.operand.OperandOf.TheVariants as o
use Rattle.gno_typing.specs.declared.value.ValueOf.TheVariants as v
use Rattle.gno_typing.proofs.OneParts.{bad_one, good_one}

test_one : {A : Type 0} (test : Bool) (J K : Verdict A → Type 0) → HasOne J → HasOne K → HasOne (by_test test J K)
test_one true J K h k = h
test_one false J K h k = k

variable_one : (realm : Bool) (at : Pos) (id : VariableId) (s : GoType) → HasOne (variable realm at id s)
variable_one true at id s = good_one _
variable_one false at id s = good_one _

type_name_one : (realm : Bool) (at : Pos) (s : GoType) → HasOne (type_name realm at s)
type_name_one true at s = bad_one 82 at
type_name_one false at s = good_one _

function_one : (crossing : Bool) (at : Pos) (code : CodeId) (s : GoType) → HasOne (function crossing at code s)
function_one true at code s = good_one _
function_one false at code s = good_one _

function_named_one : (it : Option Builtin) (at : Pos) (name : List ℕ) → HasOne (function_named it at name)
function_named_one None at name = bad_one 40 at
function_named_one (Some it) at name = good_one _

meant_one : (at : Pos) (is : NamedOf GoType) → HasOne (meant at is)
meant_one at (n.Variable id s) = variable_one (is_realm (term_of s)) at id s
meant_one at (n.Constant s x) = good_one _
meant_one at (n.TypeName s) = type_name_one (is_realm (term_of s)) at s
meant_one at (n.Function code s crossing) = function_one crossing at code s
meant_one at (n.Package path) = good_one _
meant_one at (n.Builtin name) = test_one (bytes_eq name (codes "nil")) _ _ (good_one (o.Value (v.Nil at))) (test_one (bytes_eq name (codes "cross")) _ _ (good_one (o.Cross at)) (function_named_one (builtin_of name) at name))

found_name_one : (at : Pos) (is : Option (NamedOf GoType)) → HasOne (found at is)
found_name_one at None = bad_one 40 at
found_name_one at (Some is) = meant_one at is

pub named_one : (ms : List Meaning) (at : Pos) (name : List ℕ) → HasOne (named ms at name)
unfolding named
named_one ms at name = test_one (is_blank name) _ _ (bad_one 41 at) (found_name_one at (meaning_of ms name))

pub exported_one : (ms : List Meaning) (at : Pos) (name : List ℕ) → HasOne (exported ms at name)
unfolding exported
exported_one ms at name = test_one (is_exported name) _ _ (found_name_one at (meaning_of ms name)) (bad_one 40 at)
