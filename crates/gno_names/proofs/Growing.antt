-- What names mean stands in a later table as well.
use Rattle.std.proofs.Common.{List}
use Rattle.gno_judging.proofs.FoundLater.{constant_type_later, type_later}
use Rattle.gno_names.specs.Scopes.{NamedStands, NamesStand}
use Rattle.gno_names.specs.Scopes.{NamedStands as named, NamesStand as names}
use Rattle.gno_terms.specs.declared.term.GoType.{GoType}
use Rattle.gno_terms.specs.declared.term.TypeRef.{TypeRef}
use Rattle.gno_terms.specs.Tables.{Grows, Table}
use Rattle.gno_typed.specs.declared.scope.NamedOf.{NamedOf}
use Rattle.gno_typed.specs.declared.scope.ScopeName.{ScopeName}
use Rattle.gno_typing.specs.Names.{Meaning}

module _ (table later : Table) (grows : Grows table later) where
  pub named_later : (x : NamedOf TypeRef) (y : NamedOf GoType) → NamedStands table x y → NamedStands later x y
  named_later _ _ (named.variable id is) = named.variable id (type_later table later grows _ _ is)
  named_later _ _ (named.constant value is) = named.constant value (constant_type_later table later grows _ _ is)
  named_later _ _ (named.type_name is) = named.type_name (type_later table later grows _ _ is)
  named_later _ _ (named.function code crossing is) = named.function code crossing (type_later table later grows _ _ is)
  named_later _ _ (named.imported path) = named.imported path
  named_later _ _ (named.builtin name) = named.builtin name

  pub names_later : (xs : List ScopeName) (ms : List Meaning) → NamesStand table xs ms → NamesStand later xs ms
  names_later _ _ names.none = names.none
  names_later _ _ (names.more same h hs) = names.more same (named_later _ _ h) (names_later _ _ hs)
