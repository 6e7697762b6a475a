-- How values convert, by the rows of the underlying types.
use Rattle.std.proofs.Common.{◌≡◌, sym, ap, ◌∙◌, subst, Bool, true, false, rules}
use Rattle.gno_base.specs.declared.kind.Kind.{Kind}
use Rattle.gno_base.specs.declared.kind.Kind.TheVariants.{Text}
use Rattle.gno_embedding.proofs.Paths.{same_underlying}
use Rattle.gno_embedding.specs.Walking.{HasOneDefinition}
use Rattle.gno_method_sets.proofs.Rows.{interface_itself}
use Rattle.gno_promotion.specs.MethodSets.{is_interface}
use Rattle.gno_terms.specs.Normal.{Identical}
use Rattle.gno_terms.specs.Tables.{Table, Underlying, UnderlyingBy}
use Rattle.gno_terms.specs.Terms.{term_of, term_with}
use Rattle.gno_terms.specs.declared.term.GoType.{GoType}
use Rattle.gno_terms.specs.declared.term.TermOf.{TermOf}
use Rattle.gno_terms.specs.declared.term.TermOf.TheVariants as t
use Rattle.gno_terms.specs.declared.term.TypeRef.{TypeRef}
use Rattle.gno_type_classes.specs.Unnumbered.{unnumbered}
use Rattle.gno_type_classes.proofs.FormsOfRows.{is_integer_itself}
use Rattle.gno_type_classes.proofs.OtherParts.{one_pointer}
use Rattle.gno_type_classes.specs.Converting.{AreApart}
use Rattle.gno_typed.specs.declared.expr.ConversionKind.{ConversionKind}
use Rattle.gno_typing.specs.Classes.{Has, is_integer}
use Rattle.gno_typing.specs.Conversions.{ArePointers, Converts, ElementsAre}
use Rattle.gno_typing.specs.Conversions.{Converts as c}

module _ (f : TypeRef → GoType) (v : GoType) (x : TermOf TypeRef) (row : term_of v ≡ term_with f x) (b : Bool) where
  pub integer_is : is_integer x ≡ b → is_integer (term_of v) ≡ b
  integer_is e = ap is_integer row ∙ is_integer_itself f x ∙ e

  pub interface_is : is_interface x ≡ b → is_interface (term_of v) ≡ b
  interface_is e = ap is_interface row ∙ interface_itself f x ∙ e

pub integer_or_text : (v : GoType) → is_integer (term_of v) ≡ true → term_of v ≡ t.Basic Text → ⊥
integer_or_text v i e = search (rules, sym (ap is_integer e) ∙ i)

pub slice_or_text : (kind : Kind) (table : Table) (v : GoType) → ElementsAre kind (unnumbered table) v → term_of v ≡ t.Basic Text → ⊥
slice_or_text kind table v h e = search (rules, sym h.is_slice ∙ e)

integer_or_interface : (x : TermOf GoType) → is_integer x ≡ true → is_interface x ≡ true → ⊥
integer_or_interface (t.Interface ms) i e = search (rules, i)
integer_or_interface x i e = search (rules, e)

module _ (table : Table) (s u v w : GoType) where
  pub to_interface_has : (how : ConversionKind) → is_interface (term_of w) ≡ true → Underlying (unnumbered table) u w → Converts (unnumbered table) s u v w how → Has (unnumbered table) s u
  to_interface_has how i by (c.between_interfaces a b h) = h
  to_interface_has how i by (c.to_interface a b h) = h
  to_interface_has how i by (c.same a e) = absurd (search rules)
  to_interface_has how i by (c.pointers p d) = absurd (search (rules, sym (ap (λ z. is_interface (term_of z)) (subst (UnderlyingBy (unnumbered table) u w) p.is_to by) ∙ ap is_interface p.is_to) ∙ i))
  to_interface_has how i by (c.integers a b d) = absurd (integer_or_interface (term_of w) b i)
  to_interface_has how i by (c.character a e) = absurd (search (rules, sym (ap is_interface e) ∙ i))
  to_interface_has how i by (c.from_bytes a e) = absurd (search (rules, sym (ap is_interface e) ∙ i))
  to_interface_has how i by (c.from_characters a e) = absurd (search (rules, sym (ap is_interface e) ∙ i))
  to_interface_has how i by (c.bytes e h) = absurd (search (rules, sym (ap is_interface h.is_slice) ∙ i))
  to_interface_has how i by (c.characters e h) = absurd (search (rules, sym (ap is_interface h.is_slice) ∙ i))

  pub no_way : (how : ConversionKind) → is_interface (term_of w) ≡ false → (Identical v w → ⊥) → (ArePointers (unnumbered table) s u → ⊥) → AreApart (unnumbered table) v w → Converts (unnumbered table) s u v w how → ⊥
  no_way how i different pointers apart (c.between_interfaces a b h) = search (rules, sym a ∙ i)
  no_way how i different pointers apart (c.to_interface a b h) = search (rules, sym a ∙ i)
  no_way how i different pointers apart (c.same a e) = different e
  no_way how i different pointers apart (c.pointers p d) = pointers p
  no_way how i different pointers apart (c.integers a b d) = apart.integers a b
  no_way how i different pointers apart (c.character a e) = apart.character a e
  no_way how i different pointers apart (c.from_bytes a e) = apart.from_bytes a e
  no_way how i different pointers apart (c.from_characters a e) = apart.from_characters a e
  no_way how i different pointers apart (c.bytes e h) = apart.bytes e h
  no_way how i different pointers apart (c.characters e h) = apart.characters e h

pub same_pointed : (table : Table) → HasOneDefinition (unnumbered table) → (s a b v w : GoType) → term_of s ≡ t.Pointer a → term_of s ≡ t.Pointer b → Underlying (unnumbered table) a v → Underlying (unnumbered table) b w → v ≡ w
same_pointed table one s a b v w first second by own =
    same_underlying (unnumbered table) one b v w (subst (λ (x : GoType). Underlying (unnumbered table) x v) (one_pointer a b (sym first ∙ second)) by) own
