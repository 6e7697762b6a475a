-- What may be added to a table.
use Rattle.std.proofs.Common.{◌≡◌, refl, sym, ap, ◌∙◌, subst, ℕ, zero, suc, Bool, true, false, List, [], ◌∷◌, ◌++◌, Option, Some, None, length, map, rules}
use Rattle.std.specs.Prelude.{slice_get}
use Rattle.std.proofs.lemmas.Option.{slice_get_within}
use Rattle.gno_terms.specs.declared.term.GoType.{GoType}
use Rattle.gno_terms.specs.declared.term.TypeRef.{TypeRef}
use Rattle.gno_terms.specs.declared.term.TermOf.{TermOf}
use Rattle.gno_terms.specs.declared.term.TermOf.TheVariants as t
use Rattle.gno_terms.specs.declared.term.FieldOf.{FieldOf}
use Rattle.gno_terms.specs.declared.term.MethodOf.{MethodOf}
use Rattle.gno_terms.specs.Lawful.{Each, IsLawful, IsLawfulField, IsLawfulMethod, IsTyped, Last, is_function, is_slice, is_untyped}
use Rattle.gno_terms.specs.Normal.{normal, normal_term}
use Rattle.gno_terms.specs.Tables.{Table, Below, Grows, Is, PartsBelow, deep, type_at, type_or}
use Rattle.gno_terms.specs.Terms.{term_of, term_with, field_of, field_with, method_of, method_with}
use Rattle.gno_terms.proofs.Layers.{term_of-type_of, normal-at}
use Rattle.gno_terms.proofs.Parts.{Each-append, Each-map, Each-weaken}
use Rattle.gno_type_rows.proofs.Pushed.{at_it}
use Rattle.gno_type_texts.specs.Shelves.{AreFields, AreMethods, AreTyped, IsField, IsMethod, IsTypedAt}

untyped_with : {A B : Type 0} (f : A → B) (x : TermOf A) → is_untyped (term_with f x) ≡ is_untyped x
untyped_with f (t.Basic kind) = refl
untyped_with f _ = refl

untyped_normal : (x : TermOf GoType) → is_untyped (normal_term x) ≡ is_untyped x
untyped_normal (t.Basic kind) = refl
untyped_normal _ = refl

module _ (old new : Table) (grows : Grows old new) where
  grown : (r : TypeRef) → IsTypedAt old r → IsTypedAt new r
  grown r h = let is = grows r (type_at old.types r) (at_it old.types r h.0) in (slice_get_within new.types r.0 (type_at old.types r) is, ap (λ o. is_untyped (term_of (type_or o))) is ∙ h.1)

  pub all_grown : (rs : List TypeRef) → AreTyped old rs → AreTyped new rs
  all_grown rs h = Each-weaken (IsTypedAt old) (IsTypedAt new) grown rs h

  pub one_more : (rs : List TypeRef) (r : TypeRef) (x : TermOf TypeRef) → AreTyped old rs → Is new r (normal (deep old.types x)) → is_untyped x ≡ false → AreTyped new (rs ++ r ∷ [])
  one_more rs r x h is typed =
      let term : term_of (normal (deep old.types x)) ≡ normal_term (term_with normal (term_with (type_at old.types) x)) =
      ap term_of (normal-at (term_with (type_at old.types) x)) ∙ term_of-type_of (normal_term (term_with normal (term_with (type_at old.types) x))) in
      let untyped : is_untyped (term_of (type_at new.types r)) ≡ false =
      ap (λ o. is_untyped (term_of (type_or o))) is
      ∙ ap is_untyped term
      ∙ untyped_normal (term_with normal (term_with (type_at old.types) x))
      ∙ untyped_with normal (term_with (type_at old.types) x)
      ∙ untyped_with (type_at old.types) x
      ∙ typed in
      Each-append (IsTypedAt new) rs (r ∷ []) (all_grown rs h) ((slice_get_within new.types r.0 (normal (deep old.types x)) is, untyped), tt)

pub each_at : {A : Type 0} (P : A → Type 0) (xs : List A) (n : ℕ) (x : A) → slice_get xs n ≡ Some x → Each P xs → P x
each_at P [] n x e each = absurd (search (rules, e))
each_at {A} P (y ∷ xs) zero x e each = subst P (ap some_or e) each.0
  where
    some_or : Option A → A
    some_or None = y
    some_or (Some z) = z
each_at P (y ∷ xs) (suc n) x e each = each_at P xs n x e each.1

pub pushed : {A : Type 0} (P : A → Type 0) (xs ys : List A) (x : A) → ys ≡ xs ++ x ∷ [] → Each P xs → P x → Each P ys
pushed P xs ys x e each h = subst (Each P) (sym e) (Each-append P xs (x ∷ []) each (h, tt))

-- what the row of a type says of it
pub function_at : (table : Table) (r : TypeRef) (x : TermOf TypeRef) → Is table r (deep table.types x) → is_function (term_of (type_at table.types r)) ≡ is_function (term_with (type_at table.types) x)
function_at table r x is = ap (λ o. is_function (term_of (type_or o))) is ∙ ap is_function (term_of-type_of (term_with (type_at table.types) x))

pub slice_at : (table : Table) (r : TypeRef) (x : TermOf TypeRef) → Is table r (deep table.types x) → is_slice (term_of (type_at table.types r)) ≡ is_slice (term_with (type_at table.types) x)
slice_at table r x is = ap (λ o. is_slice (term_of (type_or o))) is ∙ ap is_slice (term_of-type_of (term_with (type_at table.types) x))

module _ (table : Table) where
  all_below : (rs : List TypeRef) → AreTyped table rs → Each (Below (length table.types)) rs
  all_below rs h = Each-weaken (IsTypedAt table) (Below (length table.types)) (λ r both. both.0) rs h

  all_typed : (rs : List TypeRef) → AreTyped table rs → Each IsTyped (map (type_at table.types) rs)
  all_typed rs h = Each-map IsTyped (type_at table.types) rs (Each-weaken (IsTypedAt table) (λ r. IsTyped (type_at table.types r)) (λ r both. both.1) rs h)

  pub function_below : (ps rs : List TypeRef) (variadic : Bool) → AreTyped table ps → AreTyped table rs → PartsBelow (length table.types) (t.Function ps variadic rs)
  function_below ps rs variadic p r = Each-append (Below (length table.types)) ps rs (all_below ps p) (all_below rs r)

  pub function_lawful : (ps rs : List TypeRef) (variadic : Bool) → AreTyped table ps → AreTyped table rs → (variadic ≡ true → Last (λ s. is_slice (term_of s) ≡ true) (map (type_at table.types) ps))
      → IsLawful (term_with (type_at table.types) (t.Function ps variadic rs))
  function_lawful ps rs variadic p r last = record { params = all_typed ps p; results = all_typed rs r; last = last }

  pub struct_below : (fs : List (FieldOf TypeRef)) → AreFields table fs → PartsBelow (length table.types) (t.Struct fs)
  struct_below fs h = Each-map (Below (length table.types)) field_of fs (Each-weaken (IsField table) (λ f. Below (length table.types) f.of) (λ f both. both.0) fs h)

  pub struct_lawful : (fs : List (FieldOf TypeRef)) → AreFields table fs → IsLawful (term_with (type_at table.types) (t.Struct fs))
  struct_lawful fs h = Each-map IsLawfulField (field_with (type_at table.types)) fs (Each-weaken (IsField table) (λ f. IsLawfulField (field_with (type_at table.types) f)) (λ f both. both.1) fs h)

  pub interface_below : (ms : List (MethodOf TypeRef)) → AreMethods table ms → PartsBelow (length table.types) (t.Interface ms)
  interface_below ms h = Each-map (Below (length table.types)) method_of ms (Each-weaken (IsMethod table) (λ m. Below (length table.types) m.of) (λ m both. both.0) ms h)

  pub interface_lawful : (ms : List (MethodOf TypeRef)) → AreMethods table ms → IsLawful (term_with (type_at table.types) (t.Interface ms))
  interface_lawful ms h = Each-map IsLawfulMethod (method_with (type_at table.types)) ms (Each-weaken (IsMethod table) (λ m. IsLawfulMethod (method_with (type_at table.types) m)) (λ m both. both.1) ms h)
