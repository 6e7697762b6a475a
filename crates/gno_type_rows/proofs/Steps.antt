-- A table with one type more, and what its look-ups say.
use Rattle.std.proofs.Common.{◌≡◌, sym, ap, ◌∙◌, subst, ℕ, List, [], ◌∷◌, ◌++◌, length, map, Option, Some, None, rules, arith}
use Rattle.std.specs.Prelude.{slice_get}
use Rattle.std.specs.BTreeMap.{BTreeMap, get, Updates}
use Rattle.std.proofs.lemmas.Option.{slice_get_within}
use Rattle.gno_terms.specs.declared.term.GoType.{GoType}
use Rattle.gno_terms.specs.declared.term.TypeRef.{TypeRef}
use Rattle.gno_terms.specs.declared.term.TermOf.{TermOf}
use Rattle.gno_terms.specs.declared.term.DefinitionOf.{DefinitionOf}
use Rattle.gno_terms.specs.Normal.{Identical, normal}
use Rattle.gno_terms.specs.Tables.{Below, PartsBelow, type_at, type_or, deep}
use Rattle.gno_terms.specs.Terms.{method_of}
use Rattle.gno_terms.proofs.Parts.{Each-weaken}
use Rattle.gno_type_rows.specs.Keys.{by_key, key_of}
use Rattle.gno_type_rows.specs.RowTypes.{deeps, IsGood, AreRows, IsTable, definitions_in}
use Rattle.gno_type_rows.specs.declared.key.Key.{Key}
use Rattle.gno_type_rows.proofs.Beside.{definitions_push, alike_definitions, IsAlike}
use Rattle.gno_layouts.proofs.Ends.{get_left, get_last, some_at}
use Rattle.gno_type_rows.proofs.Numbered.{numbers_push, same_numbers}
use Rattle.gno_type_rows.proofs.Pushed.{deeps_push, deep_inj, pushed, at_it}

abbrev Terms : Type 0
Terms = List (TermOf TypeRef)

abbrev Definitions : Type 0
Definitions = List (Option (DefinitionOf TypeRef))

pub same_table : (terms : Terms) (m n : BTreeMap Key ℕ) (ds : Definitions) → n.entries ≡ m.entries → IsTable terms m ds → IsTable terms n ds
same_table terms m n ds e is = record { rows = is.rows; numbered = same_numbers m n terms e is.numbered; definitions = is.definitions }

-- the rows of a key that is found
pub found_is : (terms : Terms) (m : BTreeMap Key ℕ) (ds : Definitions) (x : TermOf TypeRef) (n : ℕ) → IsTable terms m ds → get by_key m (key_of x) ≡ Some n → slice_get (deeps terms []) n ≡ Some (deep (deeps terms []) x)
found_is terms m ds x n is e = is.rows.rows n x (is.numbered.found x n e)

none_is_some : {A : Type 0} {n : ℕ} → None ≡ Some n → A
none_is_some e = absurd (search (rules, e))

-- a key that is not found
pub not_there : (terms : Terms) (m : BTreeMap Key ℕ) (ds : Definitions) (x : TermOf TypeRef) → IsTable terms m ds → PartsBelow (length (deeps terms [])) x → get by_key m (key_of x) ≡ None
    → (r : TypeRef) → slice_get (deeps terms []) r.0 ≡ Some (deep (deeps terms []) x) → ⊥
not_there terms m ds x is below e r h =
    let types : List GoType = deeps terms [] in
    let y = some_at terms r.0 (let w = slice_get_within types r.0 _ h in let z = is.rows.size in omega arith) in
    let d : deep types y.0 ≡ deep types x = ap type_or (sym (is.rows.rows r.0 y.0 y.1) ∙ h) in
    let same : y.0 ≡ x = deep_inj types is.rows.once y.0 x (is.rows.below r.0 y.0 y.1) below d in
    none_is_some (sym e ∙ ap (λ z. get by_key m (key_of z)) (sym same) ∙ is.numbered.each y.0 r.0 y.1)

module _ (terms : Terms) (m n : BTreeMap Key ℕ) (ds : Definitions) (x : TermOf TypeRef) (key : Key) (count : ℕ) (is : IsTable terms m ds) where
  abbrev types : List GoType
  types = deeps terms []

  abbrev later : List GoType
  later = deeps (terms ++ x ∷ []) []

  pub pushed_grows : (i : ℕ) (s : GoType) → slice_get types i ≡ Some s → slice_get later i ≡ Some s
  pushed_grows i s h = subst (λ l. slice_get l i ≡ Some s) (sym (deeps_push terms x [])) (get_left types (deep types x) i s h)

  pub pushed_is : count ≡ length terms → slice_get later count ≡ Some (deep types x)
  pushed_is at = subst (λ l. slice_get l count ≡ Some (deep types x)) (sym (deeps_push terms x [])) (subst (λ i. slice_get (types ++ deep types x ∷ []) i ≡ Some (deep types x)) (is.rows.size ∙ sym at) (get_last types (deep types x)))

  alike : (r : TypeRef) → Below (length terms) r → type_at later r ≡ type_at types r
  alike r h = ap type_or (pushed_grows r.0 _ (at_it types r (let z = is.rows.size in omega (arith, h))))

  alike_each : (i : ℕ) (d : DefinitionOf TypeRef) → slice_get ds i ≡ Some (Some d) → IsAlike (type_at later) (type_at types) d
  alike_each i d h =
      let own = is.definitions.each i d h in
      let w = slice_get_within ds i (Some d) h in
      record {
        of = alike d.of (let z = is.definitions.size in let o = own.own in omega arith);
        underlying = alike d.underlying own.underlying;
        methods = Each-weaken (Below (length terms)) (λ r. type_at later r ≡ type_at types r) alike (map method_of d.methods) own.methods;
      }

  pub pushed_definitions : definitions_in later (ds ++ None ∷ []) ≡ definitions_in types ds
  pushed_definitions = alike_definitions types later ds alike_each

  pub pushed_table : key ≡ key_of x → count ≡ length terms → PartsBelow (length types) x → IsGood (deep types x) → ((r : TypeRef) → slice_get types r.0 ≡ Some (deep types x) → ⊥) → Updates by_key m n key (Some count)
      → IsTable (terms ++ x ∷ []) n (ds ++ None ∷ [])
  pushed_table e at below good new updates =
      let fresh : (k : ℕ) → slice_get terms k ≡ Some x → ⊥ = λ k h. new (record { 0 = k }) (is.rows.rows k x h) in
      record {
        rows = subst (AreRows (terms ++ x ∷ [])) (sym (deeps_push terms x [])) (pushed terms types is.rows x below good fresh);
        numbered = numbers_push m n terms x key count is.numbered e at fresh updates;
        definitions = definitions_push terms x ds is.definitions;
      }

pub at_lists : {terms terms-2 : Terms} {m : BTreeMap Key ℕ} {ds ds-2 : Definitions} → terms ≡ terms-2 → ds ≡ ds-2 → IsTable terms-2 m ds-2 → IsTable terms m ds
at_lists {terms} {terms-2} {m} {ds} {ds-2} e f is = subst (λ t. IsTable t m ds) (sym e) (subst (λ d. IsTable terms-2 m d) (sym f) is)

one_type : (types : List GoType) {i j : ℕ} {s u : GoType} → slice_get types i ≡ Some s → slice_get types j ≡ Some u → i ≡ j → s ≡ u
one_type types a b e = ap type_or (sym a ∙ ap (slice_get types) e ∙ b)

pub identical_numbers : (terms : Terms) (types : List GoType) → AreRows terms types → (i j : ℕ) (s u : GoType) → slice_get types i ≡ Some s → slice_get types j ≡ Some u → (i ≡ j → Identical s u) × (Identical s u → i ≡ j)
identical_numbers terms ts are i j s u a b = (
  λ e. ap normal (one_type ts a b e),
  λ e. are.once i j u (a ∙ ap Some (sym (are.good i s a).normal ∙ e ∙ (are.good j u b).normal)) b,
)
