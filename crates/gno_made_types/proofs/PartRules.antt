-- The parts of types, and what they stand for.
use Rattle.std.proofs.Common.{◌≡◌, refl, sym, ap, ◌∙◌, subst, ℕ, Bool, true, false, List, [], ◌∷◌, ◌++◌, map, length, if◌then◌else◌}
use Rattle.gno_judging.specs.Found.{TypeStands}
use Rattle.gno_judging.specs.Stands.{EachStands}
use Rattle.gno_judging.specs.Stands.{EachStands as each}
use Rattle.gno_made_types.specs.Parts.{FieldStands, IsFieldOf, IsPart, IsPartField, IsPartMethod, MethodStands}
use Rattle.gno_method_sets.proofs.Rows.{below_it, there}
use Rattle.gno_scan.specs.Names.{IsName}
use Rattle.gno_terms.specs.Exported.{is_exported}
use Rattle.gno_terms.specs.Lawful.{Each, IsLawfulField, IsLawfulMethod, IsPath, IsTyped}
use Rattle.gno_terms.specs.Normal.{normal_field, package_of}
use Rattle.gno_terms.specs.Tables.{Below, Is, Table, type_at, type_or}
use Rattle.gno_terms.specs.Terms.{field_of, field_with, method_of, method_with}
use Rattle.gno_terms.specs.declared.term.FieldOf.{FieldOf}
use Rattle.gno_terms.specs.declared.term.GoType.{GoType}
use Rattle.gno_terms.specs.declared.term.MethodOf.{MethodOf}
use Rattle.gno_terms.specs.declared.term.TypeRef.{TypeRef}
use Rattle.gno_tree_typing.specs.WrittenTypes.{HasName}
use Rattle.gno_type_reading.specs.Known.{IsOwnedName}

pub both_hold : {A : Type 0} (P : A → Type 0) (xs ys : List A) → Each P xs → Each P ys → Each P (xs ++ ys)
both_hold P [] ys h k = k
both_hold P (x ∷ xs) ys h k = (h.0, both_hold P xs ys h.1 k)

module _ (table : Table) where
  at_it : (r : TypeRef) (s : GoType) → Is table r s → type_at table.types r ≡ s
  at_it r s is = ap type_or is

  pub part_of : (r : TypeRef) (s : GoType) → TypeStands table r s → IsPart table r
  part_of r s h = record { below = below_it table r s h.is; typed = subst IsTyped (sym (at_it r s h.is)) h.typed }

  -- ---- lists of types

  pub parts_of : (rs : List TypeRef) (ss : List GoType) → EachStands (TypeStands table) rs ss → Each (IsPart table) rs
  parts_of _ _ each.none = tt
  parts_of _ _ (each.more h hs) = (part_of _ _ h, parts_of _ _ hs)

  pub types_are : (rs : List TypeRef) (ss : List GoType) → EachStands (TypeStands table) rs ss → map (type_at table.types) rs ≡ ss
  types_are _ _ each.none = refl
  types_are _ _ (each.more {b = s} {xs = rs} {ys = ss} h hs) = ap (λ a. a ∷ map (type_at table.types) rs) (at_it _ s h.is) ∙ ap (λ us. s ∷ us) (types_are rs ss hs)

  pub all_below : (rs : List TypeRef) → Each (IsPart table) rs → Each (Below (length table.types)) rs
  all_below [] h = tt
  all_below (r ∷ rs) h = (h.0.below, all_below rs h.1)

  pub all_typed : (rs : List TypeRef) → Each (IsPart table) rs → Each IsTyped (map (type_at table.types) rs)
  all_typed [] h = tt
  all_typed (r ∷ rs) h = (h.0.typed, all_typed rs h.1)

  module _ (P : GoType → Type 0) (holds : (r : TypeRef) (s : GoType) → Is table r s → P s) where
    pub hold_of : (rs : List TypeRef) (ss : List GoType) → EachStands (TypeStands table) rs ss → Each P ss
    hold_of _ _ each.none = tt
    hold_of _ _ (each.more h hs) = (holds _ _ h.is, hold_of _ _ hs)

  -- ---- fields

  pub fields_below : (fs : List (FieldOf TypeRef)) → Each (IsPartField table) fs → Each (Below (length table.types)) (map field_of fs)
  fields_below [] h = tt
  fields_below (f ∷ fs) h = (h.0.of.below, fields_below fs h.1)

  pub fields_lawful : (fs : List (FieldOf TypeRef)) → Each (IsPartField table) fs → Each IsLawfulField (map (field_with (type_at table.types)) fs)
  fields_lawful [] h = tt
  fields_lawful (f ∷ fs) h = (record { name = h.0.named.0; owned = h.0.named.1; typed = h.0.of.typed }, fields_lawful fs h.1)

  field_is : (x : FieldOf TypeRef) (y : FieldOf GoType) → FieldStands table x y → field_with (type_at table.types) x ≡ y
  field_is x y h =
      ap (λ n. record { name = n; «package» = x.«package»; embedded = x.embedded; of = type_at table.types x.of }) h.name
      ∙ ap (λ p. record { name = y.name; «package» = p; embedded = x.embedded; of = type_at table.types x.of }) h.«package»
      ∙ ap (λ e. record { name = y.name; «package» = y.«package»; embedded = e; of = type_at table.types x.of }) h.embedded
      ∙ ap (λ s. record { name = y.name; «package» = y.«package»; embedded = y.embedded; of = s }) (at_it x.of y.of h.of.is)

  pub fields_are : (xs : List (FieldOf TypeRef)) (ys : List (FieldOf GoType)) → EachStands (FieldStands table) xs ys → map (field_with (type_at table.types)) xs ≡ ys
  fields_are _ _ each.none = refl
  fields_are _ _ (each.more {a = x} {b = y} {xs = xs} {ys = ys} h hs) = ap (λ a. a ∷ map (field_with (type_at table.types)) xs) (field_is x y h) ∙ ap (λ us. y ∷ us) (fields_are xs ys hs)

  module _ (path : List ℕ) (is_path : IsPath path) where
    part_field : (x : FieldOf TypeRef) (y : FieldOf GoType) → FieldStands table x y → IsFieldOf path y → HasName y → IsPartField table x
    part_field x y h own name =
        let named : IsOwnedName y.name y.«package» = (name, λ e. subst IsPath (sym own) (subst (λ (b : Bool). IsPath (if b then [] else path)) (sym e) is_path)) in
        record { of = part_of x.of y.of h.of; named = subst (λ (n : List ℕ). IsOwnedName n x.«package») (sym h.name) (subst (λ (p : List ℕ). IsOwnedName y.name p) (sym h.«package») named) }

    pub part_fields : (xs : List (FieldOf TypeRef)) (ys : List (FieldOf GoType)) → EachStands (FieldStands table) xs ys → Each (IsFieldOf path) ys → Each HasName ys → Each (IsPartField table) xs
    part_fields _ _ each.none own names = tt
    part_fields _ _ (each.more {a = x} {b = y} {xs = xs} {ys = ys} h hs) own names = (part_field x y h own.0 names.0, part_fields xs ys hs own.1 names.1)

  pub have_names : (xs : List (FieldOf TypeRef)) (ys : List (FieldOf GoType)) → EachStands (FieldStands table) xs ys → Each (IsPartField table) xs → Each HasName ys
  have_names _ _ each.none h = tt
  have_names _ _ (each.more {a = x} {b = y} {xs = xs} {ys = ys} h hs) parts = (subst IsName h.name parts.0.named.0, have_names xs ys hs parts.1)

  pub hold_of_fields : (P : GoType → Type 0) → ((r : TypeRef) (s : GoType) → Is table r s → P s) → (xs : List (FieldOf TypeRef)) (ys : List (FieldOf GoType)) → EachStands (FieldStands table) xs ys → Each P (map field_of ys)
  hold_of_fields P holds _ _ each.none = tt
  hold_of_fields P holds _ _ (each.more {a = x} {b = y} {xs = xs} {ys = ys} h hs) = (holds x.of y.of h.of.is, hold_of_fields P holds xs ys hs)

  -- ---- methods

  pub methods_below : (ms : List (MethodOf TypeRef)) → Each (IsPartMethod table) ms → Each (Below (length table.types)) (map method_of ms)
  methods_below [] h = tt
  methods_below (m ∷ ms) h = (h.0.of.below, methods_below ms h.1)

  pub methods_lawful : (ms : List (MethodOf TypeRef)) → Each (IsPartMethod table) ms → Each IsLawfulMethod (map (method_with (type_at table.types)) ms)
  methods_lawful [] h = tt
  methods_lawful (m ∷ ms) h = (record { name = h.0.owned.0.0; owned = h.0.owned.0.1; function = h.0.owned.1; no_pointer = h.0.owned.2 }, methods_lawful ms h.1)

  method_is : (x : MethodOf TypeRef) (y : MethodOf GoType) → MethodStands table x y → method_with (type_at table.types) x ≡ y
  method_is x y h =
      ap (λ n. record { name = n; «package» = x.«package»; of = type_at table.types x.of; pointer = x.pointer }) h.name
      ∙ ap (λ p. record { name = y.name; «package» = p; of = type_at table.types x.of; pointer = x.pointer }) h.«package»
      ∙ ap (λ s. record { name = y.name; «package» = y.«package»; of = s; pointer = x.pointer }) (at_it x.of y.of h.of.is)
      ∙ ap (λ b. record { name = y.name; «package» = y.«package»; of = y.of; pointer = b }) h.pointer

  pub methods_are : (xs : List (MethodOf TypeRef)) (ys : List (MethodOf GoType)) → EachStands (MethodStands table) xs ys → map (method_with (type_at table.types)) xs ≡ ys
  methods_are _ _ each.none = refl
  methods_are _ _ (each.more {a = x} {b = y} {xs = xs} {ys = ys} h hs) = ap (λ a. a ∷ map (method_with (type_at table.types)) xs) (method_is x y h) ∙ ap (λ us. y ∷ us) (methods_are xs ys hs)

  part_method : (x : MethodOf TypeRef) (y : MethodOf GoType) → MethodStands table x y → IsLawfulMethod y → IsPartMethod table x
  part_method x y h lawful = subst (λ (m : MethodOf GoType). IsLawfulMethod m → IsPartMethod table x) (method_is x y h) (λ l. record { of = part_of x.of y.of h.of; owned = ((l.name, l.owned), l.function, l.no_pointer) }) lawful

  pub part_methods : (xs : List (MethodOf TypeRef)) (ys : List (MethodOf GoType)) → EachStands (MethodStands table) xs ys → Each IsLawfulMethod ys → Each (IsPartMethod table) xs
  part_methods _ _ each.none h = tt
  part_methods _ _ (each.more {a = x} {b = y} {xs = xs} {ys = ys} h hs) lawful = (part_method x y h lawful.0, part_methods xs ys hs lawful.1)

-- ---- packages of names

twice : (b : Bool) (path : List ℕ) → (if b then [] else (if b then [] else path)) ≡ (if b then [] else path)
twice true path = refl
twice false path = refl

pub normal_fields : (path : List ℕ) (fs : List (FieldOf GoType)) → Each (IsFieldOf path) fs → map normal_field fs ≡ fs
normal_fields path [] h = refl
normal_fields path (f ∷ fs) h =
    let own : package_of f.name f.«package» ≡ f.«package» = ap (package_of f.name) h.0 ∙ twice (is_exported f.name) path ∙ sym h.0 in
    ap (λ p. record { name = f.name; «package» = p; embedded = f.embedded; of = f.of } ∷ map normal_field fs) own ∙ ap (λ gs. f ∷ gs) (normal_fields path fs h.1)
