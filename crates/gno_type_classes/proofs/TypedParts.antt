-- The parts of a lawful row are typed.
use Rattle.std.proofs.Common.{ℕ, ◌≡◌, ap, subst, List, Bool, map}
use Rattle.gno_base.specs.declared.kind.Kind.TheVariants.{Uint8}
use Rattle.gno_method_sets.proofs.Rows.{one_type}
use Rattle.gno_type_rows.proofs.Pushed.{term_of_type}
use Rattle.gno_terms.specs.Lawful.{Each, IsLawful, IsTyped, LawfulType, is_untyped}
use Rattle.gno_terms.specs.Lawful.{LawfulType as lawful}
use Rattle.gno_terms.specs.Tables.{Is, Table, deep, type_at, type_or}
use Rattle.gno_terms.specs.Terms.{term_of, term_with}
use Rattle.gno_terms.specs.declared.term.GoType.{GoType}
use Rattle.gno_terms.specs.declared.term.TermOf.{TermOf}
use Rattle.gno_terms.specs.declared.term.TermOf.TheVariants as t
use Rattle.gno_terms.specs.declared.term.TypeRef.{TypeRef}
use Rattle.gno_typing.specs.Classes.{basic}

lawful_of : (s : GoType) → LawfulType s → IsLawful (term_of s)
lawful_of _ (lawful.lawful h hs) = h

module _ (table : Table) where
  pub row_is_lawful : (x : TermOf TypeRef) → LawfulType (deep table.types x) → IsLawful (term_with (type_at table.types) x)
  row_is_lawful x h = subst IsLawful (term_of_type (term_with (type_at table.types) x)) (lawful_of (deep table.types x) h)

  typed_at : (r : TypeRef) (of : GoType) → Is table r of → IsTyped (type_at table.types r) → IsTyped of
  typed_at r of is h = subst IsTyped (ap type_or is) h

  lawful_by : (x y : TermOf TypeRef) → x ≡ y → IsLawful (term_with (type_at table.types) x) → IsLawful (term_with (type_at table.types) y)
  lawful_by x y e h = subst (λ (z : TermOf TypeRef). IsLawful (term_with (type_at table.types) z)) e h

  module _ (x : TermOf TypeRef) (h : IsLawful (term_with (type_at table.types) x)) where
    pub slice_typed : (a : TypeRef) → x ≡ t.Slice a → (of : GoType) → Is table a of → IsTyped of
    slice_typed a e of is = typed_at a of is (lawful_by x (t.Slice a) e h)

    pub array_typed : (n : ℕ) (a : TypeRef) → x ≡ t.Array n a → (of : GoType) → Is table a of → IsTyped of
    array_typed n a e of is = typed_at a of is (lawful_by x (t.Array n a) e h).1

    pub pointer_typed : (a : TypeRef) → x ≡ t.Pointer a → (of : GoType) → Is table a of → IsTyped of
    pointer_typed a e of is = typed_at a of is (lawful_by x (t.Pointer a) e h)

    pub map_typed : (a b : TypeRef) → x ≡ t.Map a b → (key value : GoType) → Is table a key → Is table b value → IsTyped key × IsTyped value
    map_typed a b e key value is own = let p = lawful_by x (t.Map a b) e h in (typed_at a key is p.0, typed_at b value own p.1)

    pub params_typed : (ps : List TypeRef) (variadic : Bool) (rs : List TypeRef) → x ≡ t.Function ps variadic rs → Each IsTyped (map (type_at table.types) ps)
    params_typed ps variadic rs e = (lawful_by x (t.Function ps variadic rs) e h).params

    pub results_typed : (ps : List TypeRef) (variadic : Bool) (rs : List TypeRef) → x ≡ t.Function ps variadic rs → Each IsTyped (map (type_at table.types) rs)
    results_typed ps variadic rs e = (lawful_by x (t.Function ps variadic rs) e h).results

  byte_is_typed : IsTyped (basic Uint8)
  byte_is_typed = ap is_untyped (term_of_type (t.Basic Uint8))

  pub byte_typed : (r : TypeRef) (of : GoType) → Is table r of → Is table r (basic Uint8) → IsTyped of
  byte_typed r of is byte = subst IsTyped (one_type table r (basic Uint8) of byte is) byte_is_typed
