-- Interfaces, and types that are embedded.
use Rattle.std.proofs.Common.{ℕ, ◌≡◌, refl, ap, sym, subst, ◌∙◌, Bool, true, false, not, List, [], ◌∷◌, map, length, rules}
use Rattle.std.specs.Prelude.{IsTrue}
use Rattle.gno_embedding.proofs.Paths.{same_underlying}
use Rattle.gno_embedding.specs.Walking.{HasOneDefinition}
use Rattle.gno_judging.specs.Stands.{EachStands}
use Rattle.gno_judging.specs.Stands.{EachStands as each}
use Rattle.gno_made_types.specs.Parts.{MethodStands}
use Rattle.gno_method_sets.proofs.Rows.{term_is, there}
use Rattle.gno_scan.specs.Names.{IsName}
use Rattle.gno_scan.specs.declared.token.Pos.{Pos}
use Rattle.gno_terms.specs.Lawful.{Each, IsLawful, IsLawfulMethod, LawfulType, is_function, is_untyped}
use Rattle.gno_terms.specs.Lawful.{LawfulType as lawful}
use Rattle.gno_terms.specs.Tables.{Below, Is, Table, Underlying, deep, type_at}
use Rattle.gno_terms.specs.Terms.{method_of, method_with, term_of, term_with}
use Rattle.gno_terms.specs.declared.term.FieldOf.{FieldOf}
use Rattle.gno_terms.specs.declared.term.GoType.{GoType}
use Rattle.gno_terms.specs.declared.term.MethodOf.{MethodOf}
use Rattle.gno_terms.specs.declared.term.TermOf.{TermOf}
use Rattle.gno_terms.specs.declared.term.TermOf.TheVariants as t
use Rattle.gno_terms.specs.declared.term.TypeRef.{TypeRef}
use Rattle.gno_tree_typing.specs.WrittenTypes.{IsInterfaceOf, MayBeEmbedded, embedded_field, embedded_methods, field_of_struct, interface_method, method_of_interface, starred}
use Rattle.gno_tree.specs.declared.word.Name.{Name}
use Rattle.gno_type_classes.proofs.SameDefinitions.{underlying_same}
use Rattle.gno_type_classes.specs.Unnumbered.{unnumbered}
use Rattle.gno_typing.specs.Names.{is_blank}
use Rattle.gno_typing.specs.Verdicts.{Verdict, bad, by_test, good, wants, wants_some}

pub true_not : (b : Bool) → b ≡ false → IsTrue (not b)
true_not b e = ap not e

-- the row of the underlying type
module _ (table : Table) (one : HasOneDefinition table) (s u : GoType) (by : Underlying (unnumbered table) s u) (r : TypeRef) (x : TermOf TypeRef) (is : Is table r u) (row : Is table r (deep table.types x)) where
  pub row_is : (v : GoType) → Underlying (unnumbered table) s v → term_of v ≡ term_with (type_at table.types) x
  row_is v h =
      let same : v ≡ u = same_underlying table one s v u (underlying_same (unnumbered table) table refl s v h) (underlying_same (unnumbered table) table refl s u by) in
      ap term_of same ∙ term_is table r u x is row

pub embedded_by : (table : Table) (place : Pos) (s : GoType) (P : (Verdict (List (MethodOf GoType)) → Type 0) → Type 0) → P (wants_some (IsInterfaceOf (unnumbered table) s) 78 place good) → P (embedded_methods (unnumbered table) place s)
unfolding embedded_methods
embedded_by table place s P h = h

pub embedded_field_by : (table : Table) (path : List ℕ) (place : Pos) (star : Bool) (name : List ℕ) (s : GoType) (P : (Verdict (FieldOf GoType) → Type 0) → Type 0)
    → P (wants (MayBeEmbedded (unnumbered table) star s) 78 place (good (field_of_struct path name true (starred star s)))) → P (embedded_field (unnumbered table) path place star name s)
unfolding embedded_field
embedded_field_by table path place star name s P h = h

pub lawful_of : (s : GoType) → LawfulType s → IsLawful (term_of s)
lawful_of _ (lawful.lawful h hs) = h

pub no_interface : (f : TypeRef → GoType) (x : TermOf TypeRef) → ((ns : List (MethodOf TypeRef)) → x ≡ t.Interface ns → ⊥) → (ms : List (MethodOf GoType)) → term_with f x ≡ t.Interface ms → ⊥
no_interface f (t.Interface ns) other ms e = other ns refl
no_interface f _ other ms e = search (rules, e)

typed_function : (x : TermOf GoType) → is_function x ≡ true → is_untyped x ≡ false
typed_function (t.Function ps variadic rs) e = refl
typed_function _ e = absurd (search (rules, e))

pub methods_stand : (table : Table) (ms : List (MethodOf TypeRef)) → Each (Below (length table.types)) (map method_of ms) → Each IsLawfulMethod (map (method_with (type_at table.types)) ms) → EachStands (MethodStands table) ms (map (method_with (type_at table.types)) ms)
methods_stand table [] below h = each.none
methods_stand table (m ∷ ms) below h =
    each.more (record { name = refl; «package» = refl; of = record { is = there table m.of below.0; typed = typed_function (term_of (type_at table.types m.of)) h.0.function }; pointer = refl }) (methods_stand table ms below.1 h.1)

module _ (path : List ℕ) (name : Name) (s : GoType) (P : (Verdict (MethodOf GoType) → Type 0) → Type 0) where
  by_true : (b : Bool) (J K : Verdict (MethodOf GoType) → Type 0) → b ≡ true → P J → P (by_test b J K)
  by_true true J K e h = h
  by_true false J K e h = absurd (search (rules, e))

  by_false : (b : Bool) (J K : Verdict (MethodOf GoType) → Type 0) → b ≡ false → P K → P (by_test b J K)
  by_false false J K e h = h
  by_false true J K e h = absurd (search (rules, e))

  pub blank_method : is_blank name.text ≡ true → P (bad 80 name.pos) → P (interface_method path name s)
  unfolding interface_method
  blank_method e h = by_true (is_blank name.text) _ _ e h

  pub named_method : is_blank name.text ≡ false → P (wants (IsName name.text) 78 name.pos (good (method_of_interface path name.text s))) → P (interface_method path name s)
  unfolding interface_method
  named_method e h = by_false (is_blank name.text) _ _ e h
