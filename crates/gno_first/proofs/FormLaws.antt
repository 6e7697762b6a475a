-- What becomes of a file by its parts.
use Rattle.std.proofs.Common.{◌≡◌, ℕ, List, [], ◌∷◌, ◌++◌, Bool, true, false, refl, sym, ap, Option, Some, None}
use Rattle.std.specs.Prelude.{option_map}
use Rattle.gno_tree.specs.declared.file.FileTree.{FileTree}
use Rattle.gno_tree.specs.declared.file.Function.{Function}
use Rattle.gno_tree.specs.declared.file.TopLevel.{TopLevel}
use Rattle.gno_tree.specs.declared.file.TopLevel.TheVariants as top
use Rattle.gno_tree.specs.declared.type_expr.Signature.{out-Signature}
use Rattle.gno_first.specs.declared.tree.FirstFile.{FirstFile}
use Rattle.gno_first.specs.declared.tree.FirstFunc.{FirstFunc}
use Rattle.gno_first.specs.Declaring.{with_names, name_in}
use Rattle.gno_first.specs.Form.{begins_well, are_names, names_of_functions, names_in, in_front, behind, function_in, function_of, is_crossing, has_int, body_of, file_with, first_of}
use Rattle.gno_first.specs.Options.{and_then, where_true, each, all_from}
use Rattle.gno_first.proofs.Declaring.{front_names, no_names, all_names, test_false, with_names_is}
use Rattle.gno_first.proofs.Holds.{Holds, holds_if, holds_at, holds_then, holds_map, holds_true}

pub file_no_functions : (name : List ℕ) (variables : List (List ℕ)) (declared : List TopLevel) → each (function_in variables) declared ≡ None → file_with name variables declared ≡ None
unfolding file_with
file_no_functions name variables declared e = rw e refl

-- a function has the name that its declaration has
same_name : (variables : List (List ℕ)) (f : Function) → Holds (λ function. function.name ≡ f.name.text) (function_of variables f)
unfolding function_of
same_name variables f =
    let Same : FirstFunc → Type 0 = λ function. function.name ≡ f.name.text in
    holds_true Same (is_crossing f) _ (λ _.
    holds_then Same (has_int (out-Signature f.signature).results) _ (λ result _.
    holds_then Same f.body _ (λ block _.
    holds_map Same (λ body. record { name = f.name.text; has_int = result; body = body }) (body_of variables result block)
    (holds_if (λ _. f.name.text ≡ f.name.text) (body_of variables result block) (λ _ _. refl)))))

same_name_in : (variables : List (List ℕ)) (declared : TopLevel) (function : FirstFunc) → function_in variables declared ≡ Some function → name_in declared ≡ Some function.name
same_name_in variables (top.Function f) function e = ap Some (sym (holds_at (λ g. g.name ≡ f.name.text) (function_of variables f) function (same_name variables f) e))
same_name_in variables (top.Declaration d) function e = cc

pub names_are : (variables : List (List ℕ)) (declared : List TopLevel) (functions : List FirstFunc) → each (function_in variables) declared ≡ Some functions
    → each name_in declared ≡ Some (names_of_functions functions)
names_are variables [] functions e = ap (option_map names_of_functions) e
names_are variables (item ∷ declared) functions e = by_item (names_are variables declared) (function_in variables item) (each (function_in variables) declared) refl refl e
  where
    by_item : ((more : List FirstFunc) → each (function_in variables) declared ≡ Some more → each name_in declared ≡ Some (names_of_functions more))
        → (found : Option FirstFunc) (rest : Option (List FirstFunc)) → function_in variables item ≡ found → each (function_in variables) declared ≡ rest
        → and_then found (λ function. option_map (λ more. function ∷ more) rest) ≡ Some functions → each name_in (item ∷ declared) ≡ Some (names_of_functions functions)
    by_item next None rest f r h = cc
    by_item next (Some function) None f r h = cc
    by_item next (Some function) (Some more) f r h = rw (same_name_in variables item function f, next more r) (ap (option_map names_of_functions) h)

pub file_no_names : (name : List ℕ) (variables : List (List ℕ)) (declared : List TopLevel) (functions : List FirstFunc) → each (function_in variables) declared ≡ Some functions
    → with_names variables (each name_in declared) ≡ None → file_with name variables declared ≡ None
unfolding file_with
file_no_names name variables declared functions e h =
    let no = no_names variables (names_of_functions functions) (rw (names_are variables declared functions e) at h) in
    rw (e, no) refl

pub file_is : (name : List ℕ) (variables : List (List ℕ)) (declared : List TopLevel) (functions : List FirstFunc) (scope : List (List ℕ)) → each (function_in variables) declared ≡ Some functions
    → with_names variables (each name_in declared) ≡ Some scope → file_with name variables declared ≡ Some (record { name = name; variables = variables; functions = functions })
unfolding file_with
file_is name variables declared functions scope e h =
    let all = all_names variables (names_of_functions functions) scope (rw (names_are variables declared functions e) at h) in
    rw (e, all) refl

pub file_of_no_names : (name : List ℕ) (variables : List (List ℕ)) (declared : List TopLevel) → are_names variables ≡ false → file_with name variables declared ≡ None
unfolding file_with
file_of_no_names name variables declared e =
    by_functions (each (function_in variables) declared)
  where
    by_functions : (found : Option (List FirstFunc)) → and_then {B = FirstFile} found (λ functions.
        where_true (are_names (variables ++ names_of_functions functions)) (Some (record { name = name; variables = variables; functions = functions }))) ≡ None
    by_functions None = refl
    by_functions (Some functions) =
        let h : are_names (variables ++ names_of_functions functions) ≡ false = test_false (are_names (variables ++ names_of_functions functions)) (λ all.
        let front = front_names variables (names_of_functions functions) all in
        cc) in
        rw h refl

pub first_no_head : (tree : FileTree) → begins_well tree ≡ false → first_of tree ≡ None
unfolding first_of
first_no_head tree e = rw e refl

no_file_behind : (name : List ℕ) (declared : List TopLevel) (found : Option (List (List ℕ))) → with_names [] found ≡ None → and_then found (λ variables. file_with name variables declared) ≡ None
no_file_behind name declared None e = refl
no_file_behind name declared (Some variables) e = file_of_no_names name variables declared (no_names [] variables e)

either_way : (b : Bool) (o : Option FirstFile) → o ≡ None → where_true b o ≡ None
either_way true o e = e
either_way false o e = refl

pub first_no_variables : (tree : FileTree) → with_names [] (all_from names_in (in_front tree.declarations)) ≡ None → first_of tree ≡ None
unfolding first_of
first_no_variables tree e =
    either_way (begins_well tree) _ (no_file_behind tree.package_name.text (behind tree.declarations) (all_from names_in (in_front tree.declarations)) e)

found_behind : (found : Option (List (List ℕ))) (scope : List (List ℕ)) → with_names [] found ≡ Some scope → found ≡ Some scope
unfolding with_names
found_behind None scope e = e
found_behind (Some variables) scope e = ap Some (sym (with_names_is [] variables scope e).0)

pub first_is : (tree : FileTree) (variables : List (List ℕ)) → begins_well tree ≡ true → with_names [] (all_from names_in (in_front tree.declarations)) ≡ Some variables
    → first_of tree ≡ file_with tree.package_name.text variables (behind tree.declarations)
unfolding first_of
first_is tree variables head e = rw (head, found_behind (all_from names_in (in_front tree.declarations)) variables e) refl
