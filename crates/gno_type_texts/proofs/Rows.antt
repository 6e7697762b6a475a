-- What the row of a type says of its text.
use Rattle.std.proofs.Common.{◌≡◌, refl, sym, ap, ap₂, ◌∙◌, subst, true≢false, Bool, true, List, ◌++◌, length, map, drop, Some}
use Rattle.std.specs.Prelude.{slice_get}
use Rattle.gno_terms.specs.declared.term.GoType.{GoType}
use Rattle.gno_terms.specs.declared.term.TypeRef.{TypeRef}
use Rattle.gno_terms.specs.declared.term.TermOf.{TermOf}
use Rattle.gno_terms.specs.declared.term.TermOf.TheVariants as t
use Rattle.gno_terms.specs.Lawful.{Each, IsLawful, IsLawfulFunction, LawfulType, lawful, is_function, is_slice}
use Rattle.gno_terms.specs.Tables.{Below, PartsBelow, deep, type_at, type_or}
use Rattle.gno_terms.specs.Terms.{term_of, term_with}
use Rattle.gno_terms.specs.Texts.{params_text, results_text, term_text, type_text}
use Rattle.gno_terms.proofs.Layers.{term_of-type_of, type_text-at}
use Rattle.gno_terms.proofs.Parts.{Each-left, Each-right, term_with_twice}
use Rattle.gno_type_texts.specs.Pieces.{ArePieceParams, text_at}

lawful_term : {s : GoType} → LawfulType s → IsLawful (term_of s)
lawful_term (lawful h parts) = h

no_function : {A B : Type 0} (f : A → B) (x : TermOf A) → is_function (term_with f x) ≡ true → ((ps : List A) (variadic : Bool) (rs : List A) → x ≡ t.Function ps variadic rs → ⊥) → ⊥
no_function f (t.Function ps variadic rs) e not = not ps variadic rs refl
no_function f _ e not = true≢false (sym e)

no_slice : {A B : Type 0} (f : A → B) (x : TermOf A) → is_slice (term_with f x) ≡ true → ((a : A) → x ≡ t.Slice a → ⊥) → ⊥
no_slice f (t.Slice a) e not = not a refl
no_slice f _ e not = true≢false (sym e)

module _ (types : List GoType) where
  pub lawful_row : (x : TermOf TypeRef) → LawfulType (deep types x) → IsLawful (term_with (type_at types) x)
  lawful_row x h = subst IsLawful (term_of-type_of (term_with (type_at types) x)) (lawful_term h)

  -- a function's parts may be pieces
  pub function_parts : (x : TermOf TypeRef) (ps : List TypeRef) (variadic : Bool) (rs qs us : List TypeRef) → x ≡ t.Function ps variadic rs → qs ≡ ps → us ≡ rs
      → PartsBelow (length types) x → IsLawful (term_with (type_at types) x) → ArePieceParams types qs variadic × Each (Below (length types)) us
  function_parts x ps variadic rs qs us e f g below law =
      let parts : Each (Below (length types)) (ps ++ rs) = subst (PartsBelow (length types)) e below in
      let function : IsLawfulFunction (map (type_at types) ps) variadic (map (type_at types) rs) = subst (λ y. IsLawful (term_with (type_at types) y)) e law in (
        subst (λ l. ArePieceParams types l variadic) (sym f) (Each-left (Below (length types)) ps rs parts, function.last),
        subst (Each (Below (length types))) (sym g) (Each-right (Below (length types)) ps rs parts),
      )

  module _ (r : TypeRef) (x : TermOf TypeRef) (is : slice_get types r.0 ≡ Some (deep types x)) where
    pub text_of_row : text_at types r ≡ term_text (term_with (text_at types) x)
    text_of_row =
        ap (λ o. type_text (type_or o)) is
        ∙ type_text-at (term_with (type_at types) x)
        ∙ ap term_text (term_with_twice type_text (type_at types) x)

    term_of_row : term_of (type_at types r) ≡ term_with (type_at types) x
    term_of_row = ap (λ o. term_of (type_or o)) is ∙ term_of-type_of (term_with (type_at types) x)

    pub signature_of_row : (ps : List TypeRef) (variadic : Bool) (rs qs us : List TypeRef) → x ≡ t.Function ps variadic rs → qs ≡ ps → us ≡ rs
        → params_text variadic (map (text_at types) qs) ++ results_text (map (text_at types) us) ≡ drop 4 (text_at types r)
    signature_of_row ps variadic rs qs us e f g =
        ap₂ (λ l m. params_text variadic (map (text_at types) l) ++ results_text (map (text_at types) m)) f g
        ∙ sym (ap (drop 4) (text_of_row ∙ ap (λ y. term_text (term_with (text_at types) y)) e))

    pub element_of_row : (a : TypeRef) → x ≡ t.Slice a → text_at types a ≡ drop 2 (text_at types r)
    element_of_row a e = sym (ap (drop 2) (text_of_row ∙ ap (λ y. term_text (term_with (text_at types) y)) e))

    pub is_a_function : is_function (term_of (type_at types r)) ≡ true → ((ps : List TypeRef) (variadic : Bool) (rs : List TypeRef) → x ≡ t.Function ps variadic rs → ⊥) → ⊥
    is_a_function e = no_function (type_at types) x (sym (ap is_function term_of_row) ∙ e)

    pub is_a_slice : is_slice (term_of (type_at types r)) ≡ true → ((a : TypeRef) → x ≡ t.Slice a → ⊥) → ⊥
    is_a_slice e = no_slice (type_at types) x (sym (ap is_slice term_of_row) ∙ e)
