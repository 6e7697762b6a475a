-- What the row of a type says of it.
use Rattle.std.proofs.Common.{◌≡◌, refl, sym, ap, ◌∙◌, subst, List, length, map, Bool, true, false, Some}
use Rattle.std.specs.Prelude.{slice_get, IfSome, Option, None}
use Rattle.std.proofs.lemmas.Option.{same_Some, slice_get_within}
use Rattle.gno_embedding.specs.Embedding.{IsComplete, IsKnown, base, base_by, here, is_pointer}
use Rattle.gno_promotion.specs.MethodSets.{is_interface}
use Rattle.gno_terms.specs.Tables.{Table, Is, Below, deep, type_at, type_or}
use Rattle.gno_terms.specs.Terms.{term_of, term_with}
use Rattle.gno_terms.specs.declared.term.GoType.{GoType}
use Rattle.gno_terms.specs.declared.term.MethodOf.{MethodOf}
use Rattle.gno_terms.specs.declared.term.TermOf.{TermOf}
use Rattle.gno_terms.specs.declared.term.TermOf.TheVariants as t
use Rattle.gno_terms.specs.declared.term.TypeRef.{TypeRef}
use Rattle.gno_type_rows.proofs.Pushed.{at_it, term_of_type}

module _ {A : Type 0} (f : TypeRef → A) where
  pub interface_itself : (x : TermOf TypeRef) → is_interface (term_with f x) ≡ is_interface x
  interface_itself (t.Interface ms) = refl
  interface_itself _ = refl

  pub no_interface : (x : TermOf TypeRef) → ((ms : List (MethodOf TypeRef)) → x ≡ t.Interface ms → ⊥) → is_interface (term_with f x) ≡ false
  no_interface (t.Interface ms) h = absurd (h ms refl)
  no_interface _ h = refl

  pub no_pointer : (x : TermOf TypeRef) → ((a : TypeRef) → x ≡ t.Pointer a → ⊥) → is_pointer (term_with f x) ≡ false
  no_pointer (t.Pointer a) h = absurd (h a refl)
  no_pointer _ h = refl

  pub no_base : (s : A) (x : TermOf TypeRef) → ((a : TypeRef) → x ≡ t.Pointer a → ⊥) → base_by s (term_with f x) ≡ s
  no_base s (t.Pointer a) h = absurd (h a refl)
  no_base s _ h = refl

module _ (table : Table) where
  pub one_type : (r : TypeRef) (s u : GoType) → Is table r s → Is table r u → s ≡ u
  one_type r s u a b = same_Some s u (sym a ∙ b)

  pub below_it : (r : TypeRef) (s : GoType) → Is table r s → Below (length table.types) r
  below_it r s is = slice_get_within table.types r.0 s is

  pub there : (r : TypeRef) → Below (length table.types) r → Is table r (type_at table.types r)
  there r below = at_it table.types r below

  pub term_is : (r : TypeRef) (s : GoType) (x : TermOf TypeRef) → Is table r s → Is table r (deep table.types x) → term_of s ≡ term_with (type_at table.types) x
  term_is r s x is row = ap (λ o. term_of (type_or o)) (sym is ∙ row) ∙ term_of_type (term_with (type_at table.types) x)

  module _ (r : TypeRef) (x : TermOf TypeRef) (row : Is table r (deep table.types x)) (s : GoType) (is : Is table r s) where
    pub pointer_base : (a : TypeRef) → x ≡ t.Pointer a → base s ≡ type_at table.types a
    pointer_base a e = ap (base_by s) (term_is r s x is row ∙ ap (term_with (type_at table.types)) e)

    pub is_a_pointer : (a : TypeRef) → x ≡ t.Pointer a → is_pointer (term_of s) ≡ true
    is_a_pointer a e = ap is_pointer (term_is r s x is row ∙ ap (term_with (type_at table.types)) e)

    pub other_base : ((a : TypeRef) → x ≡ t.Pointer a → ⊥) → base s ≡ s
    other_base h = ap (base_by s) (term_is r s x is row) ∙ no_base (type_at table.types) s x h

    pub is_no_pointer : ((a : TypeRef) → x ≡ t.Pointer a → ⊥) → is_pointer (term_of s) ≡ false
    is_no_pointer h = ap is_pointer (term_is r s x is row) ∙ no_pointer (type_at table.types) x h

-- a complete type has an underlying type
pub complete_known : (table : Table) (s : GoType) → IsComplete table s → IsKnown table s
complete_known table s h = h _ _ s here

pub some_map : {A : Type 0} (P Q : A → Type 0) (o : Option A) → ((x : A) → P x → Q x) → IfSome o P → IfSome o Q
some_map P Q None h p = tt
some_map P Q (Some x) h p = h x p
