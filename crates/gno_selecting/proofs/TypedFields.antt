-- The fields of the types of a table have types that values may have.
use Rattle.std.proofs.Common.{◌≡◌, sym, ap, ◌∙◌, subst, ℕ, zero, suc, List, [], ◌∷◌, Option, Some, None, refl, rules}
use Rattle.std.specs.Prelude.{slice_get, IfSome, IsNone}
use Rattle.std.proofs.lemmas.Option.{same_Some}
use Rattle.gno_embedding.specs.Embedding.{IsKnown, fields_in}
use Rattle.gno_embedding.specs.Walking.{HasOneDefinition}
use Rattle.gno_embedding.proofs.Paths.{same_underlying}
use Rattle.gno_selecting.proofs.Unnumbering.{known_unnumbered, underlying_numbered}
use Rattle.gno_terms.specs.Lawful.{Each, IsLawful, IsLawfulField, IsTyped, LawfulType}
use Rattle.gno_terms.specs.Lawful.{LawfulType as lawful}
use Rattle.gno_terms.specs.declared.term.FieldOf.{FieldOf}
use Rattle.gno_terms.specs.declared.term.GoType.{GoType}
use Rattle.gno_terms.specs.declared.term.TermOf.{TermOf}
use Rattle.gno_terms.specs.declared.term.TermOf.TheVariants as t
use Rattle.gno_terms.specs.declared.term.TypeRef.{TypeRef}
use Rattle.gno_terms.specs.Tables.{Is, Table, Underlying}
use Rattle.gno_terms.specs.Terms.{term_of}
use Rattle.gno_type_classes.specs.Unnumbered.{unnumbered}

lawful_of : (s : GoType) → LawfulType s → IsLawful (term_of s)
lawful_of _ (lawful.lawful h hs) = h

one_of : (fs : List (FieldOf GoType)) (k : ℕ) (f : FieldOf GoType) → Each IsLawfulField fs → slice_get fs k ≡ Some f → IsTyped f.of
one_of [] k f h e = absurd (search (rules, e))
one_of (g ∷ fs) zero f h e = subst (λ (x : FieldOf GoType). IsTyped x.of) (same_Some g f e) h.0.typed
one_of (g ∷ fs) (suc k) f h e = one_of fs k f h.1 e

field_typed : (x : TermOf GoType) (k : ℕ) (f : FieldOf GoType) → IsLawful x → slice_get (fields_in x) k ≡ Some f → IsTyped f.of
field_typed (t.Struct fs) k f h e = one_of fs k f h e
field_typed _ k f h e = absurd (search (rules, e))

module _ (table : Table) (one : HasOneDefinition table) (all_lawful : (r : TypeRef) (s : GoType) → Is table r s → LawfulType s) (r : TypeRef) (s u : GoType) (is : Is table r s) (by : Underlying table s u) where
  in_table : (under : Option TypeRef) → IfSome under (λ q. (s : GoType) → Is table r s → (u : GoType) × Underlying (unnumbered table) s u × Is table q u) → (IsNone under → (s : GoType) → Is table r s → IsKnown (unnumbered table) s → ⊥) → LawfulType u
  in_table (Some q) some none =
      let it = some s is in
      all_lawful q u (subst (λ (v : GoType). Is table q v) (same_underlying table one s it.0 u (underlying_numbered table s it.0 it.1) by) it.2)
  in_table None some none = absurd (none refl s is (known_unnumbered table s (u, by)))

  pub fields_typed : (under : Option TypeRef) → IfSome under (λ q. (s : GoType) → Is table r s → (u : GoType) × Underlying (unnumbered table) s u × Is table q u) → (IsNone under → (s : GoType) → Is table r s → IsKnown (unnumbered table) s → ⊥) → (k : ℕ) (f : FieldOf GoType) → slice_get (fields_in (term_of u)) k ≡ Some f → IsTyped f.of
  fields_typed under some none k f e = field_typed (term_of u) k f (lawful_of u (in_table under some none)) e
