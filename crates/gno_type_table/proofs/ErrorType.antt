-- What `error` is, part by part.
use Rattle.std.proofs.Common.{◌≡◌, refl, sym, ap, ◌∙◌, ℕ, List, [], ◌∷◌, length, true, false, Some, rules, if◌then◌else◌}
use Rattle.std.specs.Prelude.{slice_get, codes}
use Rattle.std.proofs.lemmas.Option.{slice_get_within}
use Rattle.gno_base.specs.declared.kind.Kind.TheVariants.{Text}
use Rattle.gno_terms.specs.declared.term.GoType.{GoType}
use Rattle.gno_terms.specs.declared.term.TypeRef.{TypeRef}
use Rattle.gno_terms.specs.declared.term.TermOf.TheVariants as t
use Rattle.gno_terms.specs.Lawful.{IsLawful, is_untyped, is_function}
use Rattle.gno_terms.specs.Normal.{normal}
use Rattle.gno_terms.specs.Tables.{Below, type_at, type_or, deep, error_interface}
use Rattle.gno_terms.specs.Terms.{type_of, term_of, term_with}
use Rattle.gno_terms.proofs.NormalTypes.{normal_of_normal_parts}
use Rattle.gno_type_table.specs.ErrorParts.{text_type, error_function}
use Rattle.gno_type_table.proofs.ErrorName.{error_is_exported, error_is_name}
use Rattle.gno_type_rows.proofs.Pushed.{term_of_type}

pub normal_text : normal text_type ≡ text_type
normal_text = normal_of_normal_parts (t.Basic Text) tt

pub normal_function : normal error_function ≡ error_function
normal_function = normal_of_normal_parts (t.Function [] false (text_type ∷ [])) (normal_text, tt)

interface_with : List ℕ → GoType
interface_with path = type_of (t.Interface (record { name = codes "Error"; «package» = path; of = error_function; pointer = false } ∷ []))

pub normal_interface : normal error_interface ≡ error_interface
unfolding interface_with
normal_interface = normal_of_normal_parts (t.Interface (record { name = codes "Error"; «package» = []; of = error_function; pointer = false } ∷ [])) (normal_function, tt)
    ∙ ap (λ b. interface_with (if b then [] else [])) error_is_exported

module _ (types : List GoType) (r : TypeRef) where
  pub at_number : (s : GoType) → slice_get types r.0 ≡ Some s → type_at types r ≡ s
  at_number s h = ap type_or h

  pub number_below : (s : GoType) → slice_get types r.0 ≡ Some s → Below (length types) r
  number_below s h = slice_get_within types r.0 s h

  pub function_is : slice_get types r.0 ≡ Some text_type → normal (deep types (t.Function [] false (r ∷ []))) ≡ error_function
  function_is h = ap (λ s. normal (type_of (t.Function [] false (s ∷ [])))) (at_number text_type h) ∙ normal_function

  pub function_lawful : slice_get types r.0 ≡ Some text_type → IsLawful (term_with (type_at types) (t.Function [] false (r ∷ [])))
  function_lawful h = record {
    params = tt;
    results = (ap (λ s. is_untyped (term_of s)) (at_number text_type h) ∙ ap is_untyped (term_of_type (t.Basic Text)), tt);
    last = λ e. absurd (search (rules, e));
  }

  pub interface_is : slice_get types r.0 ≡ Some error_function → normal (deep types (t.Interface (record { name = codes "Error"; «package» = []; of = r; pointer = false } ∷ []))) ≡ error_interface
  interface_is h = ap (λ s. normal (type_of (t.Interface (record { name = codes "Error"; «package» = []; of = s; pointer = false } ∷ [])))) (at_number error_function h) ∙ normal_interface

  pub interface_lawful : slice_get types r.0 ≡ Some error_function → IsLawful (term_with (type_at types) (t.Interface (record { name = codes "Error"; «package» = []; of = r; pointer = false } ∷ [])))
  interface_lawful h = (
    record {
      name = error_is_name;
      owned = λ e. absurd (differ (sym error_is_exported ∙ e));
      function = ap (λ s. is_function (term_of s)) (at_number error_function h) ∙ ap is_function (term_of_type (t.Function [] false (text_type ∷ [])));
      no_pointer = refl;
    },
    tt,
  )
    where
      differ : true ≡ false → ⊥
      differ e = search (rules, e)
