-- Where a row has a layout, the type that it stands for has slots.
use Rattle.std.proofs.Common.{◌≡◌, refl, sym, ap, ◌∙◌, subst, ℕ, ◌+◌, ◌*◌, List, [], ◌∷◌, length, map, true, false, Option, Some, None, rules}
use Rattle.std.specs.Prelude.{slice_get}
use Rattle.std.specs.BTreeMap.{BTreeMap}
use Rattle.gno_layouts.specs.declared.row.Layout.{Layout}
use Rattle.gno_layouts.specs.declared.row.Row.{Row}
use Rattle.gno_layouts.specs.declared.row.Row.TheVariants as r
use Rattle.gno_layouts.specs.Layouts.{HasLayout, HaveLayouts, has, is_known}
use Rattle.gno_layouts.specs.Layouts as lay
use Rattle.gno_terms.specs.declared.term.DefinitionOf.{DefinitionOf}
use Rattle.gno_terms.specs.declared.term.FieldOf.{FieldOf}
use Rattle.gno_terms.specs.declared.term.GoType.{GoType}
use Rattle.gno_terms.specs.declared.term.TermOf.{TermOf}
use Rattle.gno_terms.specs.declared.term.TermOf.TheVariants as t
use Rattle.gno_terms.specs.declared.term.TypeRef.{TypeRef}
use Rattle.gno_terms.specs.Lawful.{Each}
use Rattle.gno_terms.specs.Tables.{Table, Below, PartsBelow, type_at}
use Rattle.gno_terms.specs.Terms.{term_of, term_with, parts, field_of}
use Rattle.gno_terms.proofs.Parts.{parts_with}
use Rattle.gno_type_rows.specs.Holding.{is_single, Slots, SlotsOfAll, one, of_array, of_struct, of_defined, none, more}
use Rattle.gno_type_rows.specs.Keys.{refs}
use Rattle.gno_type_rows.specs.Laid.{row_of, IsLaidOut}
use Rattle.gno_type_rows.specs.RowTypes.{is_defined, deeps, definition_with, table_of}
use Rattle.gno_type_rows.specs.declared.key.Key.{Key}
use Rattle.gno_type_rows.proofs.Defining.{row_of as row_beside, underlying_below, some_told, defined_with}
use Rattle.gno_type_rows.proofs.Forms.{single_with, Form, arrays, structs, defineds, singles, form}
use Rattle.gno_type_rows.proofs.Held.{At, at}
use Rattle.gno_type_rows.proofs.Laying.{row_defined, row_told}
use Rattle.gno_type_rows.proofs.Pushed.{at_it}

head_eq : {A : Type 0} {a b : A} {xs ys : List A} → a ∷ xs ≡ b ∷ ys → a ≡ b
head_eq e = search (rules, e)

tail_eq : {A : Type 0} {a b : A} {xs ys : List A} → a ∷ xs ≡ b ∷ ys → xs ≡ ys
tail_eq e = search (rules, e)

unwrapped : {A : Type 0} {a b : A} → Some a ≡ Some b → a ≡ b
unwrapped e = search (rules, e)

module _ (terms : List (TermOf TypeRef)) (m : BTreeMap Key ℕ) (ds : List (Option (DefinitionOf TypeRef))) (rows : List Row) (is : IsLaidOut terms m ds rows) where
  abbrev types : List GoType
  types = deeps terms []

  abbrev table : Table
  table = table_of terms ds

  abbrev pub IsSized : GoType → Type 0
  IsSized s = (n : ℕ) × Slots table s n

  abbrev AreSized : List GoType → Type 0
  AreSized ss = (n : ℕ) × SlotsOfAll table ss n

  -- the parts of a row
  abbrev PartsSized : Row → Type 0
  PartsSized row = (rs : List TypeRef) → refs rs ≡ lay.parts row → Each (Below (length types)) rs → AreSized (map (type_at types) rs)

  first : {s : GoType} {ss : List GoType} {n : ℕ} → SlotsOfAll table (s ∷ ss) n → IsSized s
  first (more a b i js e) = (a, i)

  array_sized : (s : GoType) (x : TermOf TypeRef) → term_of s ≡ term_with (type_at types) x → PartsBelow (length types) x → (n : ℕ) (a : TypeRef) → x ≡ t.Array n a → PartsSized (r.Array n a.0) → IsSized s
  array_sized s x made below n a e inner =
      let i = inner (a ∷ []) refl (subst (PartsBelow (length types)) e below) in
      let f = first i.1 in
      (1 + n * f.0, of_array n f.0 (type_at types a) (made ∙ ap (term_with (type_at types)) e) f.1 refl)

  struct_sized : (s : GoType) (x : TermOf TypeRef) → term_of s ≡ term_with (type_at types) x → PartsBelow (length types) x → (fs : List (FieldOf TypeRef)) → x ≡ t.Struct fs → PartsSized (r.Struct (refs (map field_of fs))) → IsSized s
  struct_sized s x made below fs e inner =
      let same : map (type_at types) (map field_of fs) ≡ parts (term_with (type_at types) (t.Struct fs)) = sym (parts_with (type_at types) (t.Struct fs)) in
      let i = inner (map field_of fs) refl (subst (PartsBelow (length types)) e below) in
      (1 + i.0, of_struct _ i.0 (made ∙ ap (term_with (type_at types)) e) (subst (λ ss. SlotsOfAll table ss i.0) same i.1) refl)

  defined_sized : (k : ℕ) (s : GoType) → slice_get types k ≡ Some s → is_defined (term_of s) ≡ true → (d : DefinitionOf TypeRef) → slice_get ds k ≡ Some (Some d) → PartsSized (r.Defined (Some d.underlying.0)) → IsSized s
  defined_sized k s h defined d there inner =
      let below : Below (length types) d.underlying = underlying_below terms m ds is.table k d there in
      let i = inner (d.underlying ∷ []) refl (below, tt) in
      let f = first i.1 in
      let made : DefinitionOf GoType = definition_with (type_at types) d in
      let own : made.of ≡ s = unwrapped (sym (row_beside terms m ds is.table made (record { number = k; by = d; there = there; is = refl })) ∙ h) in
      (f.0, of_defined made defined (some_told terms m ds is.table k d there) own f.1)

  row_sized : (k : ℕ) (s : GoType) (row : Row) → slice_get types k ≡ Some s → slice_get rows k ≡ Some row → is_known row ≡ true → PartsSized row → IsSized s
  row_sized k s row h row_at known inner = by (form a.term)
    where
      a : At terms m ds rows is k s
      a = at terms m ds rows is k s h

      row_is : row ≡ row_of a.term a.definition
      row_is = unwrapped (sym row_at ∙ a.row)

      told_as : (other : Row) → row_of a.term a.definition ≡ other → (PartsSized other → is_known other ≡ true → IsSized s) → IsSized s
      told_as other e f =
          let same : other ≡ row = sym (row_is ∙ e) in
          f (subst PartsSized (sym same) inner) (ap is_known same ∙ known)

      false_true : false ≡ true → IsSized s
      false_true e = absurd (search (rules, e))

      by_definition : is_defined a.term ≡ true → (o : Option (DefinitionOf TypeRef)) → a.definition ≡ o → IsSized s
      by_definition e None d_is = told_as (r.Defined None) (ap (row_of a.term) d_is ∙ row_defined a.term e) (λ i known. false_true known)
      by_definition e (Some d) d_is = told_as (r.Defined (Some d.underlying.0)) (ap (row_of a.term) d_is ∙ row_told a.term d e)
          (λ i known. defined_sized k s h (ap is_defined a.made ∙ defined_with (type_at types) a.term ∙ e) d (a.beside ∙ ap Some d_is) i)

      by : Form a.term → IsSized s
      by (arrays n b e) = told_as (r.Array n b.0) (ap (λ x. row_of x a.definition) e) (λ i known. array_sized s a.term a.made a.below n b e i)
      by (structs fs e) = told_as (r.Struct (refs (map field_of fs))) (ap (λ x. row_of x a.definition) e) (λ i known. struct_sized s a.term a.made a.below fs e i)
      by (defineds e) = by_definition e a.definition refl
      by (singles e) = (1, one (ap is_single a.made ∙ single_with (type_at types) a.term ∙ e) refl)

  mutual
    pub layout_sized : {k : ℕ} {l : Layout} → HasLayout rows k l → (s : GoType) → slice_get types k ≡ Some s → IsSized s
    layout_sized {k} {l} (has row held row_at known hs l_is) s h = row_sized k s row h row_at known (λ rs e b. layouts_sized hs rs e b)

    layouts_sized : {ks : List ℕ} {l : Layout} → HaveLayouts rows ks l → (rs : List TypeRef) → refs rs ≡ ks → Each (Below (length types)) rs → AreSized (map (type_at types) rs)
    layouts_sized (lay.none l_is) [] e b = (0, none refl)
    layouts_sized (lay.none l_is) (q ∷ rs) e b = absurd (search (rules, e))
    layouts_sized (lay.more x y i js l_is) [] e b = absurd (search (rules, e))
    layouts_sized (lay.more x y i js l_is) (q ∷ rs) e b =
        let f = layout_sized i (type_at types q) (ap (slice_get types) (sym (head_eq e)) ∙ at_it types q b.0) in
        let g = layouts_sized js rs (tail_eq e) b.1 in
        (f.0 + g.0, more f.0 g.0 f.1 g.1 refl)
