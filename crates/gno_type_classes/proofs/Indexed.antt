-- What integers index, by the row of the underlying type.
use Rattle.std.proofs.Common.{◌≡◌, refl, sym, ap, ◌∙◌, subst, ℕ, length, Some, None}
use Rattle.gno_base.specs.declared.kind.Kind.TheVariants.{Text, Uint8}
use Rattle.gno_embedding.specs.Embedding.{IsKnown}
use Rattle.gno_method_sets.proofs.Rows.{there}
use Rattle.gno_terms.specs.Tables.{Is, PartsBelow, Table, Underlying, type_at}
use Rattle.gno_terms.specs.Terms.{term_of, term_with}
use Rattle.gno_terms.specs.declared.term.GoType.{GoType}
use Rattle.gno_terms.specs.declared.term.TermOf.{TermOf}
use Rattle.gno_terms.specs.declared.term.TermOf.TheVariants as t
use Rattle.gno_terms.specs.declared.term.TypeRef.{TypeRef}
use Rattle.gno_type_classes.specs.Unnumbered.{unnumbered}
use Rattle.gno_type_classes.proofs.OtherParts.{from_basic, from_pointer, no_array, no_slice}
use Rattle.gno_type_classes.specs.Rows.{IsUnder}
use Rattle.gno_typed.specs.declared.step.IndexKind.TheVariants as i
use Rattle.gno_typing.specs.Classes.{basic}
use Rattle.gno_typing.specs.Indexes.{Elements, HasElements}
use Rattle.gno_typing.specs.Indexes.{HasElements as h}

module _ (table : Table) (s : GoType) (x : TermOf TypeRef) (under : IsUnder table s x) where
  pub row_is : (y : TermOf TypeRef) → x ≡ y → term_of under.known.0 ≡ term_with (type_at table.types) y
  row_is y e = under.is under.known.0 under.known.1 ∙ ap (term_with (type_at table.types)) e

  module _ (a : TypeRef) (parts : PartsBelow (length table.types) x) where
    pub slice_elements : x ≡ t.Slice a → (of : GoType) × Is table a of × HasElements (unnumbered table) s (record { kind = i.Slice; of = of; count = None })
    slice_elements e = (type_at table.types a, there table a (subst (PartsBelow (length table.types)) e parts).0, h.of_slice under.known.0 (type_at table.types a) under.known.1 (row_is (t.Slice a) e) refl)

    pub array_elements : (n : ℕ) → x ≡ t.Array n a → (of : GoType) × Is table a of × HasElements (unnumbered table) s (record { kind = i.Array; of = of; count = Some n })
    array_elements n e = (type_at table.types a, there table a (subst (PartsBelow (length table.types)) e parts).0, h.of_array under.known.0 (type_at table.types a) n under.known.1 (row_is (t.Array n a) e) refl)

  pub no_elements : (x ≡ t.Basic Text → ⊥) → ((a : TypeRef) → x ≡ t.Slice a → ⊥) → ((n : ℕ) (a : TypeRef) → x ≡ t.Array n a → ⊥)
      → ((a : TypeRef) → x ≡ t.Pointer a → (b element : GoType) (n : ℕ) → Underlying (unnumbered table) (type_at table.types a) b → term_of b ≡ t.Array n element → ⊥)
      → (e : Elements) → HasElements (unnumbered table) s e → ⊥
  no_elements text slice array pointer e (h.of_text u by is r) = text (from_basic (type_at table.types) x Text (sym (under.is u by) ∙ is))
  no_elements text slice array pointer e (h.of_slice u element by is r) = no_slice (type_at table.types) x slice element (sym (under.is u by) ∙ is)
  no_elements text slice array pointer e (h.of_array u element n by is r) = no_array (type_at table.types) x array n element (sym (under.is u by) ∙ is)
  no_elements text slice array pointer e (h.of_pointer u a b element n by is own its r) =
      let p = from_pointer (type_at table.types) x a (sym (under.is u by) ∙ is) in
      pointer p.0 p.1 b element n (subst (λ (w : GoType). Underlying (unnumbered table) w b) (sym p.2) own) its

pub text_elements : (table : Table) (s u : GoType) (r : TypeRef) → Underlying (unnumbered table) s u → term_of u ≡ t.Basic Text → Is table r (basic Uint8) → (of : GoType) × Is table r of × HasElements (unnumbered table) s (record { kind = i.String; of = of; count = None })
text_elements table s u r by is byte = (basic Uint8, byte, h.of_text u by is refl)

pub pointer_elements : (table : Table) (x : TermOf TypeRef) (n : ℕ) (r : TypeRef) → PartsBelow (length table.types) x → x ≡ t.Array n r → (s u a b : GoType) → Underlying (unnumbered table) s u → term_of u ≡ t.Pointer a → Underlying (unnumbered table) a b → term_of b ≡ term_with (type_at table.types) x
    → (of : GoType) × Is table r of × HasElements (unnumbered table) s (record { kind = i.Pointer; of = of; count = Some n })
pointer_elements table x n r parts e s u a b by is own its =
    (type_at table.types r, there table r (subst (PartsBelow (length table.types)) e parts).0, h.of_pointer u a b (type_at table.types r) n by is own (its ∙ ap (term_with (type_at table.types)) e) refl)

pub known_elements : (table : Table) (s : GoType) (e : Elements) → HasElements (unnumbered table) s e → IsKnown (unnumbered table) s
known_elements table s e (h.of_text u by is r) = (u, by)
known_elements table s e (h.of_slice u element by is r) = (u, by)
known_elements table s e (h.of_array u element n by is r) = (u, by)
known_elements table s e (h.of_pointer u a b element n by is own its r) = (u, by)
