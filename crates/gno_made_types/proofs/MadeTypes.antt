-- Types that were made of others.
use Rattle.std.proofs.Common.{◌≡◌, refl, sym, ap, ◌∙◌, subst, ℕ, Bool, true, false, List, [], ◌∷◌, ◌++◌, map}
use Rattle.gno_judging.specs.Found.{TypeStands}
use Rattle.gno_terms.proofs.NormalTypes.{normal_of, normal_of_normal_parts}
use Rattle.gno_terms.specs.Lawful.{Each, IsTyped, is_untyped}
use Rattle.gno_terms.specs.Normal.{normal, normal_term}
use Rattle.gno_terms.specs.Tables.{Is, Table, deep, type_at}
use Rattle.gno_terms.specs.Terms.{parts, term_of, term_with, type_of}
use Rattle.gno_terms.specs.declared.term.GoType.{GoType}
use Rattle.gno_terms.specs.declared.term.MethodOf.{MethodOf}
use Rattle.gno_terms.specs.declared.term.TermOf.{TermOf}
use Rattle.gno_terms.specs.declared.term.TypeRef.{TypeRef}
use Rattle.gno_scan.specs.declared.token.Pos.{Pos}
use Rattle.gno_terms.specs.declared.term.FieldOf.{FieldOf}
use Rattle.gno_terms.specs.declared.term.TermOf.TheVariants as t
use Rattle.gno_tree_typing.specs.WrittenTypes.{HasName, array_type, interface_type, map_type, small, struct_type}
use Rattle.gno_type_classes.specs.Unnumbered.{unnumbered}
use Rattle.gno_typing.specs.Classes.{IsOf}
use Rattle.gno_typing.specs.Conversions.{is_basic}
use Rattle.gno_typing.specs.Verdicts.{Verdict, good, wants}
use Rattle.gno_type_rows.proofs.Pushed.{term_of_type}

-- a table that says the same of defined types
pub unnumbered_same : (table later : Table) → later.definitions ≡ table.definitions → unnumbered later ≡ unnumbered table
unnumbered_same table later same = ap (λ ds. record { types = []; definitions = ds }) same

module _ (table later : Table) (x : TermOf TypeRef) (y : TermOf GoType) (is : term_with (type_at table.types) x ≡ y) (own : Each (λ s. normal s ≡ s) (parts y)) where
  made_is : normal (deep table.types x) ≡ type_of (normal_term y)
  made_is = ap (λ z. normal (type_of z)) is ∙ normal_of_normal_parts y own

  pub stands_normal : is_untyped (normal_term y) ≡ false → (r : TypeRef) → Is later r (normal (deep table.types x)) → TypeStands later r (type_of (normal_term y))
  stands_normal typed r h = record { is = subst (λ (s : GoType). Is later r s) made_is h; typed = ap is_untyped (term_of_type (normal_term y)) ∙ typed }

  pub stands : normal_term y ≡ y → is_untyped y ≡ false → (r : TypeRef) → Is later r (normal (deep table.types x)) → TypeStands later r (type_of y)
  stands same typed r h = subst (λ (z : TermOf GoType). TypeStands later r (type_of z)) same (stands_normal (ap is_untyped same ∙ typed) r h)

pub interface_stands : (table later : Table) (ms : List (MethodOf TypeRef)) (ns : List (MethodOf GoType)) → term_with (type_at table.types) (t.Interface ms) ≡ t.Interface ns → (r : TypeRef) → Is later r (normal (deep table.types (t.Interface ms))) → TypeStands later r (interface_type ns)
interface_stands table later ms ns is r h =
    record { is = subst (λ (s : GoType). Is later r s) (ap (λ z. normal (type_of z)) is) h; typed = ap (λ s. is_untyped (term_of s)) (normal_of (t.Interface ns)) ∙ ap is_untyped (term_of_type (normal_term (term_with normal (t.Interface ns)))) }

-- ---- rules on types that were made

module _ (table later : Table) (same : later.definitions ≡ table.definitions) (place : Pos) where
  pub array_by : (n : ℕ) (s : GoType) (P : (Verdict GoType → Type 0) → Type 0) → P (small (unnumbered later) place (type_of (t.Array n s))) → P (array_type (unnumbered table) place n s)
  unfolding array_type
  array_by n s P h = subst (λ (seen : Table). P (small seen place (type_of (t.Array n s)))) (unnumbered_same table later same) h

  pub struct_by : (fs : List (FieldOf GoType)) (P : (Verdict GoType → Type 0) → Type 0) → P (wants (Each HasName fs) 78 place (small (unnumbered later) place (type_of (t.Struct fs)))) → P (struct_type (unnumbered table) place fs)
  unfolding struct_type
  struct_by fs P h = subst (λ (seen : Table). P (wants (Each HasName fs) 78 place (small seen place (type_of (t.Struct fs))))) (unnumbered_same table later same) h

pub map_by : (table : Table) (place : Pos) (key value : GoType) (P : (Verdict GoType → Type 0) → Type 0) → P (wants (IsOf is_basic (unnumbered table) key) 62 place (good (type_of (t.Map key value)))) → P (map_type (unnumbered table) place key value)
unfolding map_type
map_by table place key value P h = h
