-- What the rules say of each name.
use Rattle.std.proofs.Common.{ℕ, ◌≡◌, refl, sym, ◌∙◌, subst, List, [], ◌∷◌, Bool, true, false, Option, Some, None, rules}
use Rattle.std.specs.Prelude.{if◌then◌else◌, ◌||◌, codes}
use Rattle.std.specs.Str.{bytes_eq}
use Rattle.gno_constants.specs.declared.constant.Constant.{Constant}
use Rattle.gno_judging.specs.Answers.{Answers}
use Rattle.gno_judging.specs.Found.{ConstantTypeStands, OperandStands, TypeStands}
use Rattle.gno_judging.specs.Found.{FormStands as form, OperandStands as operand, ValueStands as value}
use Rattle.gno_judging.specs.Noting.{noted}
use Rattle.gno_judging.specs.Stands.{BothStand}
use Rattle.gno_judging.specs.Stands.{BothStand as both, Stands as stands}
use Rattle.gno_judging.proofs.Answers.{gives, refuses}
use Rattle.gno_names.specs.Scopes.{NamedStands, is_builtin}
use Rattle.gno_names.specs.Scopes.{NamedStands as stands_named}
use Rattle.gno_scan.specs.declared.token.Pos.{Pos}
use Rattle.gno_terms.specs.declared.term.GoType.{GoType}
use Rattle.gno_terms.specs.declared.term.TermOf.{TermOf}
use Rattle.gno_terms.specs.declared.term.TermOf.TheVariants as t
use Rattle.gno_terms.specs.declared.term.TypeRef.{TypeRef}
use Rattle.gno_terms.specs.Exported.{is_exported}
use Rattle.gno_terms.specs.Tables.{Table}
use Rattle.gno_terms.specs.Terms.{term_of, term_with}
use Rattle.gno_typed.specs.declared.code.CodeId.{CodeId}
use Rattle.gno_typed.specs.declared.code.VariableId.{VariableId}
use Rattle.gno_typed.specs.declared.expr.TypedExprOf.TheVariants as w
use Rattle.gno_typed.specs.declared.scope.NamedOf.{NamedOf}
use Rattle.gno_typed.specs.declared.scope.NamedOf.TheVariants as n
use Rattle.gno_typing.specs.Builtins.{Builtin}
use Rattle.gno_typing.specs.Builtins.Builtin.{Append, Cap, Copy, Delete, Len, Make, New, Panic, Print, Println, Recover}
use Rattle.gno_typing.specs.Names.{Meaning, builtin_of, exported, found, function, function_named, is_blank, is_realm, meaning_of, meant, named, predeclared, type_name, variable}
use Rattle.gno_typing.specs.Verdicts.{Verdict, bad, by_test, good}
use Rattle.gno_typing.specs.declared.fault.Fault.{Fault}
use Rattle.gno_typing.specs.declared.form.FormOf.TheVariants as f
use Rattle.gno_typing.specs.declared.operand.OperandOf.{OperandOf}
use Rattle.gno_typing.specs.declared.operand.OperandOf.TheVariants as o
use Rattle.gno_typing.specs.declared.value.Standing.TheVariants as st
use Rattle.gno_typing.specs.declared.value.ValueOf.TheVariants as v

pub is_realm_itself : {A B : Type 0} (f : A → B) (x : TermOf A) → is_realm (term_with f x) ≡ is_realm x
is_realm_itself f t.Realm = refl
is_realm_itself f _ = refl

-- a rule that goes by a test
pub by_its_test : {A B : Type 0} (J : Bool → Verdict B → Type 0) (R : A → B → Type 0) (old new : Option Fault) (x : Option A) (b c : Bool) → b ≡ c → Answers (J b) R old new x → Answers (J c) R old new x
by_its_test J R old new x b c e h = subst (λ b. Answers (J b) R old new x) e h

module _ {A B : Type 0} (R : A → B → Type 0) (J K : Verdict B → Type 0) (old new : Option Fault) (x : Option A) (b : Bool) where
  pub is_so_by : b ≡ true → Answers J R old new x → Answers (by_test b J K) R old new x
  is_so_by e h = subst (λ b. Answers (by_test b J K) R old new x) (sym e) h

  pub is_not_so_by : b ≡ false → Answers K R old new x → Answers (by_test b J K) R old new x
  is_not_so_by e h = subst (λ b. Answers (by_test b J K) R old new x) (sym e) h

module _ (table : Table) (at : Pos) (r : TypeRef) (s : GoType) (old : Option Fault) (is : TypeStands table r s) where
  pub of_realm : (id : VariableId) → Answers (variable true at id s) (OperandStands table) old old (Some (o.Realm at))
  of_realm id = gives (OperandStands table) old _ _ (operand.realm at)

  pub of_variable : (id it : VariableId) → it ≡ id → Answers (variable false at id s) (OperandStands table) old old (Some (o.Value (v.Typed at r st.Place false (f.Whole (w.Variable at r it)))))
  of_variable id it e = subst (λ it. Answers (variable false at id s) (OperandStands table) old old (Some (o.Value (v.Typed at r st.Place false (f.Whole (w.Variable at r it)))))) (sym e)
      (gives (OperandStands table) old _ _ (operand.value (value.typed at st.Place false is (form.whole (stands.variable at id is.is)))))

  pub of_crossing : (code it : CodeId) → it ≡ code → Answers (function true at code s) (OperandStands table) old old (Some (o.Crossing at r it))
  of_crossing code it e = subst (λ it. Answers (function true at code s) (OperandStands table) old old (Some (o.Crossing at r it))) (sym e) (gives (OperandStands table) old _ _ (operand.crossing at code is))

  pub of_function : (code it : CodeId) → it ≡ code → Answers (function false at code s) (OperandStands table) old old (Some (o.Value (v.Typed at r st.Result false (f.Whole (w.Function at r it)))))
  of_function code it e = subst (λ it. Answers (function false at code s) (OperandStands table) old old (Some (o.Value (v.Typed at r st.Result false (f.Whole (w.Function at r it)))))) (sym e)
      (gives (OperandStands table) old _ _ (operand.value (value.typed at st.Result false is (form.whole (stands.function at code is.is)))))

  pub of_type : Answers (type_name false at s) (OperandStands table) old old (Some (o.Type at r))
  of_type = gives (OperandStands table) old _ _ (operand.type at is)

pub of_constant : (table : Table) (at : Pos) (r : TypeRef) (s : GoType) (old : Option Fault) → ConstantTypeStands table r s → (x it : Constant) → it ≡ x → Answers (good (o.Value (v.Constant at s x))) (OperandStands table) old old (Some (o.Value (v.Constant at r it)))
of_constant table at r s old is x it e = subst (λ it. Answers (good (o.Value (v.Constant at s x))) (OperandStands table) old old (Some (o.Value (v.Constant at r it)))) (sym e) (gives (OperandStands table) old _ _ (operand.value (value.constant at x is)))

abbrev pub some : {A : Type 0} → Option A → Bool
some (Some a) = true
some None = false

by_each : (a b c d e f g h i j k : Bool) → some (if a then Some Append else (if b then Some Cap else (if c then Some Copy else (if d then Some Delete else (if e then Some Len else (if f then Some Make else (if g then Some New else (if h then Some Panic else (if i then Some Print else (if j then Some Println else (if k then Some Recover else None))))))))))) ≡ a || (b || (c || (d || (e || (f || (g || (h || (i || (j || (k))))))))))
by_each true b c d e f g h i j k = refl
by_each false true c d e f g h i j k = refl
by_each false false true d e f g h i j k = refl
by_each false false false true e f g h i j k = refl
by_each false false false false true f g h i j k = refl
by_each false false false false false true g h i j k = refl
by_each false false false false false false true h i j k = refl
by_each false false false false false false false true i j k = refl
by_each false false false false false false false false true j k = refl
by_each false false false false false false false false false true k = refl
by_each false false false false false false false false false false true = refl
by_each false false false false false false false false false false false = refl

pub is_builtin_is : (name : List ℕ) → some (builtin_of name) ≡ is_builtin name
is_builtin_is name =
    by_each (bytes_eq name (codes "append")) (bytes_eq name (codes "cap")) (bytes_eq name (codes "copy")) (bytes_eq name (codes "delete")) (bytes_eq name (codes "len")) (bytes_eq name (codes "make")) (bytes_eq name (codes "new")) (bytes_eq name (codes "panic")) (bytes_eq name (codes "print")) (bytes_eq name (codes "println")) (bytes_eq name (codes "recover"))

module _ (table : Table) (at : Pos) (old : Option Fault) where
  pub of_package : (path it : List ℕ) → it ≡ path → Answers (good (o.Package at path)) (OperandStands table) old old (Some (o.Package at it))
  of_package path it e = subst (λ it. Answers (good (o.Package at path)) (OperandStands table) old old (Some (o.Package at it))) (sym e) (gives (OperandStands table) old _ _ (operand.imported at path))

module _ (table : Table) (at : Pos) (name : List ℕ) (old new : Option Fault) where
  known_by : (x : Option Builtin) → some x ≡ true → Answers (function_named x at name) (OperandStands table) old old (Some (o.Builtin at name))
  known_by (Some x) e = gives (OperandStands table) old _ _ (operand.builtin at name)
  known_by None e = absurd (search (rules, e))

  pub known : (it : List ℕ) → it ≡ name → is_builtin name ≡ true → Answers (function_named (builtin_of name) at name) (OperandStands table) old old (Some (o.Builtin at it))
  known it e h = subst (λ it. Answers (function_named (builtin_of name) at name) (OperandStands table) old old (Some (o.Builtin at it))) (sym e) (known_by (builtin_of name) (is_builtin_is name ∙ h))

  unknown_by : (x : Option Builtin) → some x ≡ false → new ≡ noted old (record { code = 40; pos = at } ∷ []) → Answers (function_named x at name) (OperandStands table) old new None
  unknown_by None e n = refuses (OperandStands table) 40 at old new n
  unknown_by (Some x) e n = absurd (search (rules, e))

  pub unknown : is_builtin name ≡ false → new ≡ noted old (record { code = 40; pos = at } ∷ []) → Answers (function_named (builtin_of name) at name) (OperandStands table) old new None
  unknown e n = unknown_by (builtin_of name) (is_builtin_is name ∙ e) n

-- what is known of a name by what stands for its meaning
module _ (P : (Verdict (OperandOf GoType) → Type 0) → Type 0) (table : Table) (at : Pos) where
  by_variable : (id : VariableId) (r : TypeRef) (y : NamedOf GoType) → NamedStands table (n.Variable id r) y → ((s : GoType) → TypeStands table r s → P (variable (is_realm (term_of s)) at id s)) → P (meant at y)
  by_variable _ _ _ (stands_named.variable id is) h = h _ is

  pub as_variable : (id : VariableId) (r : TypeRef) (x : NamedOf TypeRef) (y : NamedOf GoType) → x ≡ n.Variable id r → NamedStands table x y → ((s : GoType) → TypeStands table r s → P (variable (is_realm (term_of s)) at id s)) → P (meant at y)
  as_variable id r x y e is = by_variable id r y (subst (λ x. NamedStands table x y) e is)

  by_constant : (value : Constant) (r : TypeRef) (y : NamedOf GoType) → NamedStands table (n.Constant r value) y → ((s : GoType) → ConstantTypeStands table r s → P (good (o.Value (v.Constant at s value)))) → P (meant at y)
  by_constant _ _ _ (stands_named.constant value is) h = h _ is

  pub as_constant : (value : Constant) (r : TypeRef) (x : NamedOf TypeRef) (y : NamedOf GoType) → x ≡ n.Constant r value → NamedStands table x y → ((s : GoType) → ConstantTypeStands table r s → P (good (o.Value (v.Constant at s value)))) → P (meant at y)
  as_constant value r x y e is = by_constant value r y (subst (λ x. NamedStands table x y) e is)

  by_type_name : (r : TypeRef) (y : NamedOf GoType) → NamedStands table (n.TypeName r) y → ((s : GoType) → TypeStands table r s → P (type_name (is_realm (term_of s)) at s)) → P (meant at y)
  by_type_name _ _ (stands_named.type_name is) h = h _ is

  pub as_type_name : (r : TypeRef) (x : NamedOf TypeRef) (y : NamedOf GoType) → x ≡ n.TypeName r → NamedStands table x y → ((s : GoType) → TypeStands table r s → P (type_name (is_realm (term_of s)) at s)) → P (meant at y)
  as_type_name r x y e is = by_type_name r y (subst (λ x. NamedStands table x y) e is)

  by_function : (code : CodeId) (r : TypeRef) (crossing : Bool) (y : NamedOf GoType) → NamedStands table (n.Function code r crossing) y → ((s : GoType) → TypeStands table r s → P (function crossing at code s)) → P (meant at y)
  by_function _ _ _ _ (stands_named.function code crossing is) h = h _ is

  pub as_function : (code : CodeId) (r : TypeRef) (crossing : Bool) (x : NamedOf TypeRef) (y : NamedOf GoType) → x ≡ n.Function code r crossing → NamedStands table x y → ((s : GoType) → TypeStands table r s → P (function crossing at code s)) → P (meant at y)
  as_function code r crossing x y e is = by_function code r crossing y (subst (λ x. NamedStands table x y) e is)

  by_package : (path : List ℕ) (y : NamedOf GoType) → NamedStands table (n.Package path) y → P (good (o.Package at path)) → P (meant at y)
  by_package _ _ (stands_named.imported path) h = h

  pub as_package : (path : List ℕ) (x : NamedOf TypeRef) (y : NamedOf GoType) → x ≡ n.Package path → NamedStands table x y → P (good (o.Package at path)) → P (meant at y)
  as_package path x y e is = by_package path y (subst (λ x. NamedStands table x y) e is)

  by_builtin : (name : List ℕ) (y : NamedOf GoType) → NamedStands table (n.Builtin name) y → P (predeclared at name) → P (meant at y)
  by_builtin _ _ (stands_named.builtin name) h = h

  pub as_predeclared : (name : List ℕ) (x : NamedOf TypeRef) (y : NamedOf GoType) → x ≡ n.Builtin name → NamedStands table x y → P (predeclared at name) → P (meant at y)
  as_predeclared name x y e is = by_builtin name y (subst (λ x. NamedStands table x y) e is)

  by_none : (y : Option (NamedOf GoType)) → BothStand (NamedStands table) None y → P (bad 40 at) → P (found at y)
  by_none _ both.none h = h

  pub as_nothing : (x : Option (NamedOf TypeRef)) (y : Option (NamedOf GoType)) → x ≡ None → BothStand (NamedStands table) x y → P (bad 40 at) → P (found at y)
  as_nothing x y e is = by_none y (subst (λ x. BothStand (NamedStands table) x y) e is)

  by_some : (m : NamedOf TypeRef) (y : Option (NamedOf GoType)) → BothStand (NamedStands table) (Some m) y → ((y : NamedOf GoType) → NamedStands table m y → P (meant at y)) → P (found at y)
  by_some _ _ (both.some s) h = h _ s

  pub as_something : (m : NamedOf TypeRef) (x : Option (NamedOf TypeRef)) (y : Option (NamedOf GoType)) → x ≡ Some m → BothStand (NamedStands table) x y → ((y : NamedOf GoType) → NamedStands table m y → P (meant at y)) → P (found at y)
  as_something m x y e is = by_some m y (subst (λ x. BothStand (NamedStands table) x y) e is)

-- what is known of a rule by its test
module _ {A : Type 0} (P : (Verdict A → Type 0) → Type 0) (J K : Verdict A → Type 0) where
  pub by_true : (b : Bool) → b ≡ true → P J → P (by_test b J K)
  by_true b e h = subst (λ b. P (by_test b J K)) (sym e) h

  pub by_false : (b : Bool) → b ≡ false → P K → P (by_test b J K)
  by_false b e h = subst (λ b. P (by_test b J K)) (sym e) h

module _ (P : (Verdict (OperandOf GoType) → Type 0) → Type 0) (ms : List Meaning) (at : Pos) (name : List ℕ) where
  pub named_blank : is_blank name ≡ true → P (bad 41 at) → P (named ms at name)
  unfolding named
  named_blank e h = by_true P (bad 41 at) (found at (meaning_of ms name)) (is_blank name) e h

  pub named_found : is_blank name ≡ false → P (found at (meaning_of ms name)) → P (named ms at name)
  unfolding named
  named_found e h = by_false P (bad 41 at) (found at (meaning_of ms name)) (is_blank name) e h

  pub exported_found : is_exported name ≡ true → P (found at (meaning_of ms name)) → P (exported ms at name)
  unfolding exported
  exported_found e h = by_true P (found at (meaning_of ms name)) (bad 40 at) (is_exported name) e h

  pub exported_hidden : is_exported name ≡ false → P (bad 40 at) → P (exported ms at name)
  unfolding exported
  exported_hidden e h = by_false P (found at (meaning_of ms name)) (bad 40 at) (is_exported name) e h
