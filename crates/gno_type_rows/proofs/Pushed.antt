-- A row that is added keeps rows rows.
use Rattle.std.proofs.Common.{◌≡◌, refl, sym, ap, ◌∙◌, subst, ℕ, ◌<◌, List, [], ◌∷◌, ◌++◌, length, Some, rules, arith, length-append}
use Rattle.std.specs.Prelude.{slice_get}
use Rattle.std.proofs.lemmas.Option.{slice_get_within}
use Rattle.gno_terms.specs.declared.term.GoType.{GoType}
use Rattle.gno_terms.specs.declared.term.GoType.TheViews.{the_lemmas}
use Rattle.gno_terms.specs.declared.term.TypeRef.{TypeRef}
use Rattle.gno_terms.specs.declared.term.TermOf.{TermOf}
use Rattle.gno_terms.specs.Lawful.{Each, IsLawful, LawfulType, LawfulTypes}
use Rattle.gno_terms.specs.Lawful as l
use Rattle.gno_terms.specs.Normal.{normal, normal_term}
use Rattle.gno_terms.specs.Tables.{Below, PartsBelow, type_at, type_or, deep}
use Rattle.gno_terms.specs.Terms.{type_of, term_of, term_with, parts}
use Rattle.gno_terms.proofs.NormalTerms.{normal_term_with, normal_term_lawful, parts_of_normal}
use Rattle.gno_terms.proofs.NormalTypes.{normal_of_normal_parts, normal_is_normal}
use Rattle.gno_terms.proofs.Parts.{Each-map, Each-weaken, parts_with, term_with_alike}
use Rattle.gno_type_rows.specs.RowTypes.{deeps, IsGood, AreRows}
use Rattle.gno_layouts.proofs.Ends.{get_left, get_last, Where, inside, last, get_where, some_at}
use Rattle.gno_type_rows.proofs.Injective.{term_inj}

pub deeps_push : (xs : List (TermOf TypeRef)) (x : TermOf TypeRef) (types : List GoType) → deeps (xs ++ x ∷ []) types ≡ deeps xs types ++ deep (deeps xs types) x ∷ []
unfolding deeps
deeps_push [] x types = refl
deeps_push (y ∷ xs) x types = deeps_push xs x (types ++ deep types y ∷ [])

pub term_of_type : (x : TermOf GoType) → term_of (type_of x) ≡ x
term_of_type x = search (rules, the_lemmas)

pub at_it : (types : List GoType) (r : TypeRef) → Below (length types) r → slice_get types r.0 ≡ Some (type_at types r)
at_it types r within = let h = some_at types r.0 within in h.1 ∙ ap (λ o. Some (type_or o)) (sym h.1)

abbrev LaterOf : List GoType → List GoType → Type 0
LaterOf types later = (n : ℕ) (s : GoType) → slice_get types n ≡ Some s → slice_get later n ≡ Some s

type_later : (types later : List GoType) → LaterOf types later → (r : TypeRef) → Below (length types) r → type_at later r ≡ type_at types r
type_later types later grows r within = ap type_or (grows r.0 _ (at_it types r within))

pub deep_later : (types later : List GoType) (x : TermOf TypeRef) → PartsBelow (length types) x → LaterOf types later → deep later x ≡ deep types x
deep_later types later x below grows =
    ap type_of (term_with_alike (type_at later) (type_at types) x (Each-weaken (Below (length types)) (λ r. type_at later r ≡ type_at types r) (type_later types later grows) (parts x) below))

abbrev Once : List GoType → Type 0
Once types = (m n : ℕ) (s : GoType) → slice_get types m ≡ Some s → slice_get types n ≡ Some s → m ≡ n

ref_eq : (a b : TypeRef) → a.0 ≡ b.0 → a ≡ b
ref_eq a b e = λ i. record { 0 = e i }

number_eq : (types : List GoType) → Once types → (a b : TypeRef) → Below (length types) a → Below (length types) b → type_at types a ≡ type_at types b → a ≡ b
number_eq types once a b p q e = ref_eq a b (once a.0 b.0 (type_at types b) (at_it types a p ∙ ap Some e) (at_it types b q))

pub deep_inj : (types : List GoType) → Once types → (x y : TermOf TypeRef) → PartsBelow (length types) x → PartsBelow (length types) y → deep types x ≡ deep types y → x ≡ y
deep_inj types once x y p q e =
    term_inj (Below (length types)) (type_at types) (number_eq types once) x y p q (sym (term_of_type (term_with (type_at types) x)) ∙ ap term_of e ∙ term_of_type (term_with (type_at types) y))

-- what a part stands for is good
module _ (types : List GoType) (good : (r : TypeRef) (s : GoType) → slice_get types r.0 ≡ Some s → IsGood s) where
  good_part : (r : TypeRef) → Below (length types) r → IsGood (type_at types r)
  good_part r within = good r _ (at_it types r within)

  good_parts : (x : TermOf TypeRef) → PartsBelow (length types) x → Each IsGood (parts (term_with (type_at types) x))
  good_parts x below = subst (Each IsGood) (sym (parts_with (type_at types) x)) (Each-map IsGood (type_at types) (parts x) (Each-weaken (Below (length types)) (λ r. IsGood (type_at types r)) good_part (parts x) below))

  normal_parts : (x : TermOf TypeRef) → PartsBelow (length types) x → Each (λ s. normal s ≡ s) (parts (term_with (type_at types) x))
  normal_parts x below = Each-weaken IsGood (λ s. normal s ≡ s) (λ s g. g.normal) (parts (term_with (type_at types) x)) (good_parts x below)

  -- the type of a term's normal form
  pub normal_deep : (x : TermOf TypeRef) → PartsBelow (length types) x → normal (deep types x) ≡ deep types (normal_term x)
  normal_deep x below = normal_of_normal_parts (term_with (type_at types) x) (normal_parts x below) ∙ ap type_of (normal_term_with (type_at types) x)

  lawful_types : (ss : List GoType) → Each IsGood ss → LawfulTypes ss
  lawful_types [] h = l.none
  lawful_types (s ∷ ss) h = l.more h.0.lawful (lawful_types ss h.1)

  pub good_normal : (x : TermOf TypeRef) → PartsBelow (length types) x → IsLawful (term_with (type_at types) x) → IsGood (deep types (normal_term x))
  good_normal x below lawful =
      let y : TermOf GoType = term_with (type_at types) (normal_term x) in
      let is : normal_term (term_with (type_at types) x) ≡ y = normal_term_with (type_at types) x in
      let lawful-2 : IsLawful y = subst IsLawful is (normal_term_lawful _ lawful) in
      let below-2 : PartsBelow (length types) (normal_term x) = parts_of_normal (Below (length types)) x below in
      record {
        lawful = l.lawful (subst IsLawful (sym (term_of_type y)) lawful-2) (subst (λ z. LawfulTypes (parts z)) (sym (term_of_type y)) (lawful_types (parts y) (good_parts (normal_term x) below-2)));
        normal = subst (λ z. normal (type_of z) ≡ type_of z) is (normal_is_normal (term_with (type_at types) x) (normal_parts x below));
      }

module _ (terms : List (TermOf TypeRef)) (types : List GoType) (are : AreRows terms types) where
  pub deep_normal : (x : TermOf TypeRef) → PartsBelow (length types) x → normal (deep types x) ≡ deep types (normal_term x)
  deep_normal x below = normal_deep types (λ r s h. are.good r.0 s h) x below

  pub good_deep : (x : TermOf TypeRef) → PartsBelow (length types) x → IsLawful (term_with (type_at types) x) → IsGood (deep types (normal_term x))
  good_deep x below lawful = good_normal types (λ r s h. are.good r.0 s h) x below lawful

  module _ (x : TermOf TypeRef) (below : PartsBelow (length types) x) (good : IsGood (deep types x)) (new : (n : ℕ) → slice_get terms n ≡ Some x → ⊥) where
    abbrev longer : List GoType
    longer = types ++ deep types x ∷ []

    grows : LaterOf types longer
    grows n s h = get_left types (deep types x) n s h

    wider : (r : TypeRef) → Below (length types) r → Below (length longer) r
    wider r h = omega (arith, h, length-append types (deep types x ∷ []))

    -- no type of the table is the new one
    fresh : (n : ℕ) (s : GoType) → slice_get types n ≡ Some s → s ≡ deep types x → ⊥
    fresh n s h e =
        let within : n < length types = slice_get_within types n s h in
        let y = some_at terms n (let z = are.size in omega arith) in
        let d : deep types y.0 ≡ deep types x = ap type_or (sym (are.rows n y.0 y.1) ∙ h) ∙ e in
        let same : y.0 ≡ x = deep_inj types are.once y.0 x (are.below n y.0 y.1) below d in
        new n (y.1 ∙ ap Some same)

    rows_by : (n : ℕ) (y : TermOf TypeRef) → Where terms x n y → slice_get longer n ≡ Some (deep longer y)
    rows_by n y (inside h) = grows n _ (are.rows n y h) ∙ ap Some (sym (deep_later types longer y (are.below n y h) grows))
    rows_by n y (last h k) =
        let z : n ≡ length types = h ∙ sym are.size in
        subst (λ i. slice_get longer i ≡ Some (deep longer y)) (sym z) (get_last types (deep types x) ∙ ap Some (sym (deep_later types longer x below grows) ∙ ap (deep longer) (sym k)))

    below_by : (n : ℕ) (y : TermOf TypeRef) → Where terms x n y → PartsBelow (length longer) y
    below_by n y (inside h) = Each-weaken _ _ wider (parts y) (are.below n y h)
    below_by n y (last h k) = subst (PartsBelow (length longer)) (sym k) (Each-weaken _ _ wider (parts x) below)

    once_by : (m n : ℕ) (s : GoType) → Where types (deep types x) m s → Where types (deep types x) n s → m ≡ n
    once_by m n s (inside h) (inside k) = are.once m n s h k
    once_by m n s (inside h) (last k d) = absurd (fresh m s h d)
    once_by m n s (last k d) (inside h) = absurd (fresh n s h d)
    once_by m n s (last h d) (last k e) = h ∙ sym k

    good_by : (n : ℕ) (s : GoType) → Where types (deep types x) n s → IsGood s
    good_by n s (inside h) = are.good n s h
    good_by n s (last h k) = subst IsGood (sym k) good

    pub pushed : AreRows (terms ++ x ∷ []) longer
    pushed = record {
      size = let z = are.size in omega (arith, length-append types (deep types x ∷ []), length-append terms (x ∷ []));
      rows = λ n y e. rows_by n y (get_where terms x n y e);
      below = λ n y e. below_by n y (get_where terms x n y e);
      once = λ m n s h k. once_by m n s (get_where types (deep types x) m s h) (get_where types (deep types x) n s k);
      good = λ n s h. good_by n s (get_where types (deep types x) n s h);
    }
