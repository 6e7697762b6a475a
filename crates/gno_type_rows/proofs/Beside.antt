-- Definitions beside rows, where a row is added.
use Rattle.std.proofs.Common.{◌≡◌, refl, ap, ℕ, zero, suc, ◌<◌, List, [], ◌∷◌, ◌++◌, length, map, Option, Some, None, true, rules, arith, length-append}
use Rattle.std.specs.Prelude.{slice_get}
use Rattle.std.proofs.lemmas.Option.{slice_get_within}
use Rattle.gno_terms.specs.declared.term.GoType.{GoType}
use Rattle.gno_terms.specs.declared.term.TypeRef.{TypeRef}
use Rattle.gno_terms.specs.declared.term.TermOf.{TermOf}
use Rattle.gno_terms.specs.declared.term.TermOf.TheVariants as t
use Rattle.gno_terms.specs.declared.term.DefinitionOf.{DefinitionOf}
use Rattle.gno_terms.specs.Lawful.{Each}
use Rattle.gno_terms.specs.Tables.{Below, type_at}
use Rattle.gno_terms.specs.Terms.{method_of, method_with}
use Rattle.gno_terms.proofs.Parts.{Each-weaken, term_with_alike}
use Rattle.gno_type_rows.specs.RowTypes.{AreDefinitions, IsDefinition, definition_with, definitions_in, is_defined}
use Rattle.gno_layouts.proofs.Ends.{Where, inside, last, get_where}
use Rattle.gno_type_rows.proofs.Injective.{methods_in}

no_definition : {d : DefinitionOf TypeRef} {A : Type 0} → Some d ≡ None → A
no_definition e = absurd (search (rules, e))

module _ (terms : List (TermOf TypeRef)) (x : TermOf TypeRef) where
  abbrev longer : List (TermOf TypeRef)
  longer = terms ++ x ∷ []

  wider : (r : TypeRef) → Below (length terms) r → Below (length longer) r
  wider r h = omega (arith, h, length-append terms (x ∷ []))

  still_defined : (n : ℕ) (y : TermOf TypeRef) → n < length terms → ((z : TermOf TypeRef) → slice_get terms n ≡ Some z → is_defined z ≡ true) → Where terms x n y → is_defined y ≡ true
  still_defined n y within defined (inside h) = defined y h
  still_defined n y within defined (last h k) = absurd (omega (arith, within, h))

  definition_push : (n : ℕ) (d : DefinitionOf TypeRef) → n < length terms → IsDefinition terms n d → IsDefinition longer n d
  definition_push n d within is = record {
    own = is.own;
    underlying = wider d.underlying is.underlying;
    methods = Each-weaken _ _ wider (map method_of d.methods) is.methods;
    defined = λ y h. still_defined n y within is.defined (get_where terms x n y h);
  }

  module _ (ds : List (Option (DefinitionOf TypeRef))) (are : AreDefinitions terms ds) where
    each_by : (n : ℕ) (d : DefinitionOf TypeRef) → Where ds None n (Some d) → IsDefinition longer n d
    each_by n d (inside h) = definition_push n d (let w = slice_get_within ds n (Some d) h in let z = are.size in omega arith) (are.each n d h)
    each_by n d (last h k) = no_definition k

    pub definitions_push : AreDefinitions longer (ds ++ None ∷ [])
    definitions_push = record {
      size = let z = are.size in omega (arith, length-append ds (None ∷ []), length-append terms (x ∷ []));
      each = λ n d h. each_by n d (get_where ds None n (Some d) h);
    }

-- the numbers of a definition stand for the same in both tables
pub record IsAlike (f g : TypeRef → GoType) (d : DefinitionOf TypeRef) : Type 0 where
  pub of : f d.of ≡ g d.of
  pub underlying : f d.underlying ≡ g d.underlying
  pub methods : Each (λ r. f r ≡ g r) (map method_of d.methods)

alike_definition : (f g : TypeRef → GoType) (d : DefinitionOf TypeRef) → IsAlike f g d → definition_with f d ≡ definition_with g d
alike_definition f g d is =
    let a = is.of in
    let b = is.underlying in
    let c : map (method_with f) d.methods ≡ map (method_with g) d.methods = ap methods_in (term_with_alike f g (t.Interface d.methods) is.methods) in
    λ i. record { of = a i; underlying = b i; methods = c i }

pub alike_definitions : (types later : List GoType) (ds : List (Option (DefinitionOf TypeRef))) → ((n : ℕ) (d : DefinitionOf TypeRef) → slice_get ds n ≡ Some (Some d) → IsAlike (type_at later) (type_at types) d)
    → definitions_in later (ds ++ None ∷ []) ≡ definitions_in types ds
alike_definitions types later [] is = refl
alike_definitions types later (None ∷ ds) is = alike_definitions types later ds (λ n d h. is (suc n) d h)
alike_definitions types later (Some d ∷ ds) is =
    let a = alike_definition (type_at later) (type_at types) d (is zero d refl) in
    let b = alike_definitions types later ds (λ n d h. is (suc n) d h) in
    λ i. a i ∷ b i
