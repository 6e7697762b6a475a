-- What the rules say of the names of types.
use Rattle.std.proofs.Common.{ℕ, ◌≡◌, refl, subst, List, [], ◌∷◌, true, false, Option, Some, None}
use Rattle.gno_judging.specs.Answers.{Answers}
use Rattle.gno_judging.specs.Found.{OperandStands, TypeStands}
use Rattle.gno_judging.specs.Found.{OperandStands as operand}
use Rattle.gno_judging.specs.Noting.{noted}
use Rattle.gno_judging.specs.Stands.{BothStand}
use Rattle.gno_judging.specs.Stands.{BothStand as both}
use Rattle.gno_judging.proofs.Answers.{gives, refuses}
use Rattle.gno_names.specs.Scopes.{ExportsOf, NamedStands, NamesStand}
use Rattle.gno_names.specs.Scopes.{NamedStands as stands_named}
use Rattle.gno_names.proofs.Judged.{by_false, by_true}
use Rattle.gno_scan.specs.declared.token.Pos.{Pos}
use Rattle.gno_terms.specs.declared.term.GoType.{GoType}
use Rattle.gno_terms.specs.declared.term.TypeRef.{TypeRef}
use Rattle.gno_terms.specs.Tables.{Table}
use Rattle.gno_tree_typing.specs.WrittenTypes.{as_type, qualified_type, type_in, type_named}
use Rattle.gno_typed.specs.declared.scope.NamedOf.{NamedOf}
use Rattle.gno_typed.specs.declared.scope.NamedOf.TheVariants as n
use Rattle.gno_typed.specs.declared.scope.ScopeName.{ScopeName}
use Rattle.gno_tree.specs.declared.word.Name.{Name}
use Rattle.gno_typing.specs.Names.{Meaning, exported, is_blank, meaning_of, named}
use Rattle.gno_typing.specs.Verdicts.{After, Verdict, bad}
use Rattle.gno_typing.specs.declared.fault.Fault.{Fault}
use Rattle.gno_typing.specs.declared.operand.OperandOf.{OperandOf}
use Rattle.gno_typing.specs.declared.operand.OperandOf.TheVariants as o

the_type_by : (table : Table) (at place : Pos) (old : Option Fault) (r : TypeRef) (y : OperandOf GoType) → OperandStands table (o.Type place r) y → Answers (as_type at y) (TypeStands table) old old (Some r)
the_type_by table at _ old _ _ (operand.type place is) = gives (TypeStands table) old _ _ is

pub the_type : (table : Table) (at place : Pos) (old : Option Fault) (r : TypeRef) (x : OperandOf TypeRef) (y : OperandOf GoType) → x ≡ o.Type place r → OperandStands table x y → Answers (as_type at y) (TypeStands table) old old (Some r)
the_type table at place old r x y e h = the_type_by table at place old r y (subst (λ x. OperandStands table x y) e h)

pub no_type : (table : Table) (at : Pos) (old new : Option Fault) (x : OperandOf TypeRef) (y : OperandOf GoType) → OperandStands table x y → ((place : Pos) (r : TypeRef) → x ≡ o.Type place r → ⊥) → new ≡ noted old (record { code = 41; pos = at } ∷ []) → Answers (as_type at y) (TypeStands table) old new None
no_type table at old new _ _ (operand.type place is) h e = absurd (h place _ refl)
no_type table at old new _ _ (operand.value k) h e = refuses (TypeStands table) 41 at old new e
no_type table at old new _ _ (operand.method place calls is k bound) h e = refuses (TypeStands table) 41 at old new e
no_type table at old new _ _ (operand.crossing place code is) h e = refuses (TypeStands table) 41 at old new e
no_type table at old new _ _ (operand.results place of k) h e = refuses (TypeStands table) 41 at old new e
no_type table at old new _ _ (operand.open_array place is) h e = refuses (TypeStands table) 41 at old new e
no_type table at old new _ _ (operand.imported place path) h e = refuses (TypeStands table) 41 at old new e
no_type table at old new _ _ (operand.builtin place name) h e = refuses (TypeStands table) 41 at old new e
no_type table at old new _ _ (operand.cross place) h e = refuses (TypeStands table) 41 at old new e
no_type table at old new _ _ (operand.realm place) h e = refuses (TypeStands table) 41 at old new e

-- what is known of a type by what stands for the meaning of its name
module _ (P : (Verdict GoType → Type 0) → Type 0) (packages : List ℕ → List Meaning) (table : Table) (at : Pos) (name : List ℕ) where
  no_meaning_by : (y : Option (NamedOf GoType)) → BothStand (NamedStands table) None y → P (bad 40 at) → P (type_in packages at y name)
  no_meaning_by _ both.none h = h

  pub no_meaning : (x : Option (NamedOf TypeRef)) (y : Option (NamedOf GoType)) → x ≡ None → BothStand (NamedStands table) x y → P (bad 40 at) → P (type_in packages at y name)
  no_meaning x y e is = no_meaning_by y (subst (λ x. BothStand (NamedStands table) x y) e is)

  a_meaning_by : (xs : List ScopeName) (m : NamedOf TypeRef) (y : Option (NamedOf GoType)) → BothStand (NamedStands table) (Some m) y → ExportsOf table packages y xs → ((y : NamedOf GoType) → NamedStands table m y → ExportsOf table packages (Some y) xs → P (type_in packages at (Some y) name)) → P (type_in packages at y name)
  a_meaning_by xs _ _ (both.some s) given h = h _ s given

  pub a_meaning : (xs : List ScopeName) (m : NamedOf TypeRef) (x : Option (NamedOf TypeRef)) (y : Option (NamedOf GoType)) → x ≡ Some m → BothStand (NamedStands table) x y → ExportsOf table packages y xs → ((y : NamedOf GoType) → NamedStands table m y → ExportsOf table packages (Some y) xs → P (type_in packages at (Some y) name)) → P (type_in packages at y name)
  a_meaning xs m x y e is = a_meaning_by xs m y (subst (λ x. BothStand (NamedStands table) x y) e is)

  a_package_by : (xs : List ScopeName) (path : List ℕ) (y : NamedOf GoType) → NamedStands table (n.Package path) y → ExportsOf table packages (Some y) xs → ((ms : List Meaning) → NamesStand table xs ms → P (After (exported ms at name) (as_type at))) → P (type_in packages at (Some y) name)
  a_package_by xs _ _ (stands_named.imported path) given h = h (packages path) (given path refl)

  pub a_package : (xs : List ScopeName) (path : List ℕ) (x : NamedOf TypeRef) (y : NamedOf GoType) → x ≡ n.Package path → NamedStands table x y → ExportsOf table packages (Some y) xs → ((ms : List Meaning) → NamesStand table xs ms → P (After (exported ms at name) (as_type at))) → P (type_in packages at (Some y) name)
  a_package xs path x y e is = a_package_by xs path y (subst (λ x. NamedStands table x y) e is)

  pub no_package : (x : NamedOf TypeRef) (y : NamedOf GoType) → NamedStands table x y → ((path : List ℕ) → x ≡ n.Package path → ⊥) → P (bad 41 at) → P (type_in packages at (Some y) name)
  no_package _ _ (stands_named.variable id is) other h = h
  no_package _ _ (stands_named.constant value is) other h = h
  no_package _ _ (stands_named.type_name is) other h = h
  no_package _ _ (stands_named.function code crossing is) other h = h
  no_package _ _ (stands_named.imported path) other h = absurd (other path refl)
  no_package _ _ (stands_named.builtin text) other h = h

module _ (P : (Verdict GoType → Type 0) → Type 0) (ms : List Meaning) where
  pub type_named_is : (name : Name) → P (After (named ms name.pos name.text) (as_type name.pos)) → P (type_named ms name)
  unfolding type_named
  type_named_is name h = h

  module _ (packages : List ℕ → List Meaning) (qualifier name : Name) where
    pub qualified_blank : is_blank qualifier.text ≡ true → P (bad 41 qualifier.pos) → P (qualified_type packages ms qualifier name)
    unfolding qualified_type
    qualified_blank e h = by_true P (bad 41 qualifier.pos) (type_in packages qualifier.pos (meaning_of ms qualifier.text) name.text) (is_blank qualifier.text) e h

    pub qualified_in : is_blank qualifier.text ≡ false → P (type_in packages qualifier.pos (meaning_of ms qualifier.text) name.text) → P (qualified_type packages ms qualifier name)
    unfolding qualified_type
    qualified_in e h = by_false P (bad 41 qualifier.pos) (type_in packages qualifier.pos (meaning_of ms qualifier.text) name.text) (is_blank qualifier.text) e h
