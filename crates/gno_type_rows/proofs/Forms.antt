-- What a term through a function says of the term.
use Rattle.std.proofs.Common.{◌≡◌, refl, sym, ap, ◌∙◌, ℕ, List, [], ◌∷◌, map, Bool, true, false, Option, Some, None, rules}
use Rattle.gno_layouts.specs.declared.row.Row.{Row}
use Rattle.gno_layouts.specs.declared.row.Row.TheVariants as r
use Rattle.gno_terms.specs.declared.term.DefinitionOf.{DefinitionOf}
use Rattle.gno_terms.specs.declared.term.FieldOf.{FieldOf}
use Rattle.gno_terms.specs.declared.term.TermOf.{TermOf}
use Rattle.gno_terms.specs.declared.term.TermOf.TheVariants as t
use Rattle.gno_terms.specs.declared.term.TypeRef.{TypeRef}
use Rattle.gno_terms.specs.Terms.{term_with, parts, field_of}
use Rattle.gno_terms.proofs.Parts.{parts_with}
use Rattle.gno_type_rows.specs.Holding.{is_single, compares}
use Rattle.gno_type_rows.specs.Laid.{row_of}
use Rattle.gno_type_rows.specs.RowTypes.{is_defined}

pub single_row : (x : TermOf TypeRef) (d : Option (DefinitionOf TypeRef)) → is_single x ≡ true → row_of x d ≡ r.Single (compares x)
single_row (t.Defined path name local) d e = absurd (search (rules, e))
single_row (t.Array n a) d e = absurd (search (rules, e))
single_row (t.Struct fs) d e = absurd (search (rules, e))
single_row _ d e = refl

module _ {A B : Type 0} (f : A → B) where
  pub single_with : (x : TermOf A) → is_single (term_with f x) ≡ is_single x
  single_with (t.Defined path name local) = refl
  single_with (t.Array n a) = refl
  single_with (t.Struct fs) = refl
  single_with _ = refl

  pub compares_with : (x : TermOf A) → compares (term_with f x) ≡ compares x
  compares_with (t.Basic kind) = refl
  compares_with t.Error = refl
  compares_with (t.Pointer a) = refl
  compares_with (t.Interface ms) = refl
  compares_with _ = refl

  length_in : TermOf B → ℕ
  length_in (t.Array n a) = n
  length_in _ = 0

  element_in : B → TermOf B → B
  element_in b (t.Array n a) = a
  element_in b _ = b

  pub array_form : (x : TermOf A) (n : ℕ) (b : B) → term_with f x ≡ t.Array n b → (a : A) × (x ≡ t.Array n a) × (f a ≡ b)
  unfolding length_in element_in
  array_form (t.Array m a) n b e = (a, ap (λ k. t.Array k a) (ap length_in e), ap (element_in b) e)
  array_form _ n b e = absurd (search (rules, e))

  pub struct_form : (x : TermOf A) (gs : List (FieldOf B)) → term_with f x ≡ t.Struct gs → (fs : List (FieldOf A)) × (x ≡ t.Struct fs) × (map f (map field_of fs) ≡ map field_of gs)
  struct_form (t.Struct fs) gs e = (fs, refl, sym (parts_with f (t.Struct fs)) ∙ ap parts e)
  struct_form _ gs e = absurd (search (rules, e))

  pub defined_form : (x : TermOf A) → is_defined (term_with f x) ≡ true → is_defined x ≡ true
  defined_form (t.Defined path name local) e = refl
  defined_form _ e = absurd (search (rules, e))

-- the forms of what values hold
pub data Form {A : Type 0} (x : TermOf A) : Type 0 where
  arrays : (n : ℕ) (a : A) → x ≡ t.Array n a → Form x
  structs : (fs : List (FieldOf A)) → x ≡ t.Struct fs → Form x
  defineds : is_defined x ≡ true → Form x
  singles : is_single x ≡ true → Form x

pub form : {A : Type 0} (x : TermOf A) → Form x
form (t.Defined path name local) = defineds refl
form (t.Array n a) = arrays n a refl
form (t.Struct fs) = structs fs refl
form _ = singles refl
