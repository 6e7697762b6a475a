-- The fields of underlying types, by the numbers of their types.
use Rattle.std.proofs.Common.{◌≡◌, refl, sym, ap, ◌∙◌, subst, ℕ, zero, suc, ◌<◌, List, [], ◌∷◌, map, Bool, true, false, Some, length, arith, rules}
use Rattle.std.specs.Prelude.{slice_get}
use Rattle.std.proofs.lemmas.Option.{same_Some, slice_get_within}
use Rattle.gno_type_rows.proofs.Pushed.{at_it, term_of_type}
use Rattle.gno_terms.specs.declared.term.DefinitionOf.{DefinitionOf}
use Rattle.gno_terms.specs.declared.term.FieldOf.{FieldOf}
use Rattle.gno_terms.specs.declared.term.GoType.{GoType}
use Rattle.gno_terms.specs.declared.term.TermOf.{TermOf}
use Rattle.gno_terms.specs.declared.term.TermOf.TheVariants as t
use Rattle.gno_terms.specs.declared.term.TypeRef.{TypeRef}
use Rattle.gno_terms.specs.Lawful.{Each}
use Rattle.gno_terms.specs.Tables.{Table, Below, Defines, Is, PartsBelow, UnderlyingBy, deep, error_interface, type_at, type_or}
use Rattle.gno_terms.specs.Terms.{field_of, field_with, term_of, term_with}
use Rattle.gno_type_rows.specs.RowTypes.{definition_with, is_defined}
use Rattle.gno_embedding.specs.Embedding.{Embeds, IsKnown, base, base_by, fields_in, is_pointer}
use Rattle.gno_embedding.specs.Nodes.{AreFields, IsFieldAt}
use Rattle.gno_embedding.specs.Walking.{HasOneDefinition}
use Rattle.gno_embedding.proofs.Paths.{same_underlying}

fields_with : (f : TypeRef → GoType) (x : TermOf TypeRef) → fields_in (term_with f x) ≡ map (field_with f) (fields_in x)
fields_with f (t.Struct fs) = refl
fields_with f _ = refl

fields_below : (n : ℕ) (x : TermOf TypeRef) → PartsBelow n x → Each (Below n) (map field_of (fields_in x))
fields_below n (t.Struct fs) h = h
fields_below n _ h = tt

not_defined : (f : TypeRef → GoType) (x : TermOf TypeRef) → ((a b : List ℕ) (c : ℕ) → x ≡ t.Defined a b c → ⊥) → (a b : List ℕ) (c : ℕ) → term_with f x ≡ t.Defined a b c → ⊥
not_defined f (t.Defined d e g) n a b c h = n d e g refl
not_defined f _ n a b c h = search (rules, h)

pub deep_term : (types : List GoType) (x : TermOf TypeRef) → term_of (deep types x) ≡ term_with (type_at types) x
deep_term types x = term_of_type (term_with (type_at types) x)

pub type_is : (types : List GoType) (r : TypeRef) (s : GoType) → slice_get types r.0 ≡ Some s → type_at types r ≡ s
type_is types r s h = ap type_or h

-- a type that is not a defined one
record Own (table : Table) (s : GoType) (x : TermOf GoType) : Type 0 where
  pub type : GoType
  pub by : UnderlyingBy table s type x
  pub same : fields_in (term_of type) ≡ fields_in x

own : (table : Table) (s : GoType) (x : TermOf GoType) → ((a b : List ℕ) (c : ℕ) → x ≡ t.Defined a b c → ⊥) → term_of s ≡ x → Own table s x
own table s (t.Defined a b c) n e = absurd (n a b c refl)
own table s t.Error n e = record { type = error_interface; by = refl; same = ap fields_in (term_of_type _) }
own table s _ n e = record { type = s; by = refl; same = ap fields_in e }

pub own_fields : (table : Table) (x : TermOf TypeRef) (fields : List (FieldOf TypeRef)) → PartsBelow (length table.types) x → ((a b : List ℕ) (c : ℕ) → x ≡ t.Defined a b c → ⊥) → fields ≡ fields_in x → AreFields table (deep table.types x) fields
own_fields table x fields below n e =
    let y : TermOf GoType = term_with (type_at table.types) x in
    let o : Own table (deep table.types x) y = own table (deep table.types x) y (not_defined (type_at table.types) x n) (deep_term table.types x) in
    record {
      underlying = o.type;
      by = subst (UnderlyingBy table (deep table.types x) o.type) (sym (deep_term table.types x)) o.by;
      same = o.same ∙ fields_with (type_at table.types) x ∙ ap (map (field_with (type_at table.types))) (sym e);
      below = subst (λ (fs : List (FieldOf TypeRef)). Each (Below (length table.types)) (map field_of fs)) (sym e) (fields_below (length table.types) x below);
    }

-- a defined type
abbrev Given : Table → GoType → GoType → Type 0
Given table s u = (d : DefinitionOf GoType) × Defines table d × (d.of ≡ s) × (d.underlying ≡ u)

given : (table : Table) (s u : GoType) (x : TermOf GoType) → is_defined x ≡ true → Given table s u → UnderlyingBy table s u x
given table s u (t.Defined a b c) e g = g
given table s u _ e g = absurd (search (rules, e))

is_given : (table : Table) (s u : GoType) (x : TermOf GoType) → is_defined x ≡ true → UnderlyingBy table s u x → Given table s u
is_given table s u (t.Defined a b c) e g = g
is_given table s u _ e g = absurd (search (rules, e))

pub given_fields : (table : Table) (r : TypeRef) (d : DefinitionOf TypeRef) (x : TermOf TypeRef) (fields : List (FieldOf TypeRef)) → is_defined (term_of (type_at table.types r)) ≡ true → Defines table (definition_with (type_at table.types) d) → d.of ≡ r
    → Is table d.underlying (deep table.types x) → PartsBelow (length table.types) x → fields ≡ fields_in x → AreFields table (type_at table.types r) fields
given_fields table r d x fields defined told of is below e = record {
  underlying = deep table.types x;
  by = given table (type_at table.types r) (deep table.types x) (term_of (type_at table.types r)) defined (definition_with (type_at table.types) d, told, ap (type_at table.types) of, type_is table.types d.underlying (deep table.types x) is);
  same = ap fields_in (deep_term table.types x) ∙ fields_with (type_at table.types) x ∙ ap (map (field_with (type_at table.types))) (sym e);
  below = subst (λ (fs : List (FieldOf TypeRef)). Each (Below (length table.types)) (map field_of fs)) (sym e) (fields_below (length table.types) x below);
}

pub not_given : (table : Table) (r : TypeRef) → Below (length table.types) r → is_defined (term_of (type_at table.types r)) ≡ true → ((d : DefinitionOf GoType) → Defines table d → Is table r d.of → ⊥) → IsKnown table (type_at table.types r) → ⊥
not_given table r below defined none known =
    let g = is_given table (type_at table.types r) known.0 (term_of (type_at table.types r)) defined known.1 in
    none g.0 g.1 (at_it table.types r below ∙ ap Some (sym g.2))

pub defined_at : (table : Table) (r : TypeRef) (x : TermOf TypeRef) (a b : List ℕ) (c : ℕ) → x ≡ t.Defined a b c → Is table r (deep table.types x) → is_defined (term_of (type_at table.types r)) ≡ true
defined_at table r x a b c e is = ap (λ (s : GoType). is_defined (term_of s)) (type_is table.types r (deep table.types x) is) ∙ ap is_defined (deep_term table.types x ∙ ap (term_with (type_at table.types)) e)

-- where a field of this type leads
pub points : (types : List GoType) (r : TypeRef) (x : TermOf TypeRef) (a : TypeRef) → slice_get types r.0 ≡ Some (deep types x) → x ≡ t.Pointer a → (type_at types a ≡ base (type_at types r)) × (true ≡ is_pointer (term_of (type_at types r)))
points types r x a is e =
    let term : term_of (type_at types r) ≡ t.Pointer (type_at types a) = ap term_of (type_is types r (deep types x) is) ∙ deep_term types x ∙ ap (term_with (type_at types)) e in
    (sym (ap (base_by (type_at types r)) term), sym (ap is_pointer term))

no_pointer : (f : TypeRef → GoType) (s : GoType) (x : TermOf TypeRef) → ((a : TypeRef) → x ≡ t.Pointer a → ⊥) → (s ≡ base_by s (term_with f x)) × (false ≡ is_pointer (term_with f x))
no_pointer f s (t.Pointer a) n = absurd (n a refl)
no_pointer f s _ n = (refl, refl)

pub stays_there : (types : List GoType) (r : TypeRef) (x : TermOf TypeRef) → slice_get types r.0 ≡ Some (deep types x) → ((a : TypeRef) → x ≡ t.Pointer a → ⊥) → (type_at types r ≡ base (type_at types r)) × (false ≡ is_pointer (term_of (type_at types r)))
stays_there types r x is n =
    let term : term_of (type_at types r) ≡ term_with (type_at types) x = ap term_of (type_is types r (deep types x) is) ∙ deep_term types x in
    let h = no_pointer (type_at types) (type_at types r) x n in
    (h.0 ∙ sym (ap (base_by (type_at types r)) term), h.1 ∙ sym (ap is_pointer term))

pub mapped : {A B : Type 0} (f : A → B) (xs : List A) (k : ℕ) (x : A) → slice_get xs k ≡ Some x → slice_get (map f xs) k ≡ Some (f x)
mapped f [] k x h = absurd (search (rules, h))
mapped f (y ∷ xs) zero x h = ap (λ z. Some (f z)) (same_Some y x h)
mapped f (y ∷ xs) (suc k) x h = mapped f xs k x h

pub same_size : {A B : Type 0} (f : A → B) (xs : List A) → length (map f xs) ≡ length xs
same_size f [] = refl
same_size f (x ∷ xs) = ap suc (same_size f xs)

each_at : {A : Type 0} (P : A → Type 0) (xs : List A) (k : ℕ) (x : A) → Each P xs → slice_get xs k ≡ Some x → P x
each_at P [] k x p h = absurd (search (rules, h))
each_at P (y ∷ xs) zero x p h = subst P (same_Some y x h) p.0
each_at P (y ∷ xs) (suc k) x p h = each_at P xs k x p.1 h

module _ (table : Table) (u : GoType) (fields : List (FieldOf TypeRef)) (are : AreFields table u fields) where
  pub field_at : (k : ℕ) (field : FieldOf TypeRef) → slice_get fields k ≡ Some field → IsFieldAt table u k field
  field_at k field h = record {
    underlying = are.underlying;
    by = are.by;
    at = ap (λ fs. slice_get fs k) are.same ∙ mapped (field_with (type_at table.types)) fields k field h;
  }

  pub field_below : (k : ℕ) (field : FieldOf TypeRef) → slice_get fields k ≡ Some field → Below (length table.types) field.of
  field_below k field h = each_at (Below (length table.types)) (map field_of fields) k field.of are.below (mapped field_of fields k field h)

  pub past : HasOneDefinition table → (k : ℕ) (pointer : Bool) (v : GoType) → Embeds table u k pointer v → k < length fields
  past one k pointer v e =
      let same = same_underlying table one u e.underlying are.underlying e.by are.by in
      let h : slice_get (map (field_with (type_at table.types)) fields) k ≡ Some e.field = sym (ap (λ fs. slice_get fs k) are.same) ∙ sym (ap (λ s. slice_get (fields_in (term_of s)) k) same) ∙ e.at in
      let w = slice_get_within (map (field_with (type_at table.types)) fields) k e.field h in
      let z = same_size (field_with (type_at table.types)) fields in
      omega (arith, w, z)

module _ (table : Table) (u : GoType) (k : ℕ) (field : FieldOf TypeRef) (is : IsFieldAt table u k field) where
  pub leads_to : field.embedded ≡ true → (pointer : Bool) (v : GoType) → pointer ≡ is_pointer (term_of (type_at table.types field.of)) → v ≡ base (type_at table.types field.of) → Embeds table u k pointer v
  leads_to embedded pointer v p b = record {
    underlying = is.underlying;
    by = is.by;
    field = field_with (type_at table.types) field;
    at = is.at;
    embedded = embedded;
    is_pointer = sym p;
    to = sym b;
  }

  pub leads_nowhere : HasOneDefinition table → field.embedded ≡ false → (pointer : Bool) (v : GoType) → Embeds table u k pointer v → ⊥
  leads_nowhere one embedded pointer v e =
      let same = same_underlying table one u e.underlying is.underlying e.by is.by in
      let f : e.field ≡ field_with (type_at table.types) field = same_Some e.field (field_with (type_at table.types) field) (sym e.at ∙ ap (λ s. slice_get (fields_in (term_of s)) k) same ∙ is.at) in
      let h : true ≡ false = sym e.embedded ∙ ap (λ (z : FieldOf GoType). z.embedded) f ∙ embedded in
      search (rules, h)
