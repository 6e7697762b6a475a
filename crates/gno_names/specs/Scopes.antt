-- Which meanings the names of a scope stand for. This project's own.
use Rattle.std.specs.Prelude.{ℕ, ◌≡◌, codes, List, [], ◌∷◌, Bool, ◌||◌, if◌then◌else◌, Option, Some}
use Rattle.std.specs.Str.{bytes_eq}
use Rattle.gno_constants.specs.declared.constant.Constant.{Constant}
use Rattle.gno_judging.specs.Found.{ConstantTypeStands, TypeStands}
use Rattle.gno_terms.specs.declared.term.GoType.{GoType}
use Rattle.gno_terms.specs.declared.term.TypeRef.{TypeRef}
use Rattle.gno_terms.specs.Tables.{Table}
use Rattle.gno_typed.specs.declared.code.CodeId.{CodeId}
use Rattle.gno_typed.specs.declared.code.VariableId.{VariableId}
use Rattle.gno_typed.specs.declared.scope.NamedOf.{NamedOf}
use Rattle.gno_typed.specs.declared.scope.NamedOf.TheVariants as n
use Rattle.gno_typed.specs.declared.scope.ScopeName.{ScopeName}
use Rattle.gno_typing.specs.Names.{Meaning}

-- what a name means, by the number of its type, and by the type
pub data NamedStands (table : Table) : NamedOf TypeRef → NamedOf GoType → Type 0 where
  variable : {r : TypeRef} {s : GoType} (id : VariableId) → TypeStands table r s → NamedStands table (n.Variable id r) (n.Variable id s)
  constant : {r : TypeRef} {s : GoType} (value : Constant) → ConstantTypeStands table r s → NamedStands table (n.Constant r value) (n.Constant s value)
  type_name : {r : TypeRef} {s : GoType} → TypeStands table r s → NamedStands table (n.TypeName r) (n.TypeName s)
  function : {r : TypeRef} {s : GoType} (code : CodeId) (crossing : Bool) → TypeStands table r s → NamedStands table (n.Function code r crossing) (n.Function code s crossing)
  imported : (path : List ℕ) → NamedStands table (n.Package path) (n.Package path)
  builtin : (name : List ℕ) → NamedStands table (n.Builtin name) (n.Builtin name)

-- the same names in the same order
pub data NamesStand (table : Table) : List ScopeName → List Meaning → Type 0 where
  none : NamesStand table [] []
  more : {x : ScopeName} {m : Meaning} {xs : List ScopeName} {ms : List Meaning} → x.name ≡ m.name → NamedStands table x.is m.is → NamesStand table xs ms → NamesStand table (x ∷ xs) (m ∷ ms)

-- these are the names that a package declares, where the meaning is one
abbrev pub ExportsOf : Table → (List ℕ → List Meaning) → Option (NamedOf GoType) → List ScopeName → Type 0
ExportsOf table packages is xs = (path : List ℕ) → is ≡ Some (n.Package path) → NamesStand table xs (packages path)

-- the innermost declaration of a name, which stands last, or what was found before
abbrev pub innermost : Option (NamedOf TypeRef) → List ScopeName → List ℕ → Option (NamedOf TypeRef)
innermost found [] name = found
innermost found (x ∷ xs) name = innermost (if bytes_eq x.name name then Some x.is else found) xs name

-- the name of a predeclared function
abbrev pub is_builtin : List ℕ → Bool
is_builtin name =
    bytes_eq name (codes "append") || (bytes_eq name (codes "cap") || (bytes_eq name (codes "copy") || (bytes_eq name (codes "delete") || (bytes_eq name (codes "len") || (bytes_eq name (codes "make") || (bytes_eq name (codes "new") || (bytes_eq name (codes "panic") || (bytes_eq name (codes "print") || (bytes_eq name (codes "println") || (bytes_eq name (codes "recover")))))))))))
