-- The layouts of rows are those of the types that they stand for.
use Rattle.std.proofs.Common.{◌≡◌, refl, sym, ap, ◌∙◌, subst, ℕ, ◌+◌, ◌*◌, ◌<◌, List, [], ◌∷◌, length, map, Bool, true, false, ◌&&◌, Option, Some, None, rules, arith}
use Rattle.std.specs.Prelude.{slice_get}
use Rattle.std.specs.BTreeMap.{BTreeMap}
use Rattle.std.proofs.lemmas.Option.{slice_get_within}
use Rattle.gno_layouts.specs.declared.row.Layout.{Layout}
use Rattle.gno_layouts.specs.declared.row.Row.{Row}
use Rattle.gno_layouts.specs.declared.row.Row.TheVariants as r
use Rattle.gno_layouts.specs.Layouts.{HasLayout, HaveLayouts, has, nothing, together, whole, is_known, saturated}
use Rattle.gno_layouts.specs.Layouts as lay
use Rattle.gno_layouts.proofs.Ends.{some_at}
use Rattle.gno_terms.specs.declared.term.DefinitionOf.{DefinitionOf}
use Rattle.gno_terms.specs.declared.term.FieldOf.{FieldOf}
use Rattle.gno_terms.specs.declared.term.GoType.{GoType}
use Rattle.gno_terms.specs.declared.term.TermOf.{TermOf}
use Rattle.gno_terms.specs.declared.term.TermOf.TheVariants as t
use Rattle.gno_terms.specs.declared.term.TypeRef.{TypeRef}
use Rattle.gno_terms.specs.Lawful.{Each}
use Rattle.gno_terms.specs.Tables.{Table, Below, Defines, PartsBelow, type_at}
use Rattle.gno_terms.specs.Terms.{term_of, term_with, parts, field_of}
use Rattle.gno_terms.proofs.Parts.{parts_with}
use Rattle.gno_type_rows.specs.Holding.{is_single, compares, Slots, SlotsOfAll, one, of_array, of_struct, of_defined, none, more, IsComparable, AreComparable, by_kind, by_element, by_fields, by_underlying, no_more, one_more}
use Rattle.gno_type_rows.specs.Keys.{refs}
use Rattle.gno_type_rows.specs.Laid.{row_of, AreLaid, IsLaidOut}
use Rattle.gno_type_rows.specs.RowTypes.{is_defined, deeps, definition_with, table_of}
use Rattle.gno_type_rows.specs.declared.key.Key.{Key}
use Rattle.gno_type_rows.proofs.Defining.{row_of as row_beside, term_at, underlying_below, some_told, defined_with}
use Rattle.gno_type_rows.proofs.Forms.{single_row, single_with, compares_with, array_form, struct_form, defined_form, Form, arrays, structs, defineds, singles, form}
use Rattle.gno_type_rows.proofs.Laying.{row_defined, row_told}
use Rattle.gno_type_rows.proofs.Pushed.{at_it}
use Rattle.gno_type_rows.proofs.Told.{Beside, beside}

head_eq : {A : Type 0} {a b : A} {xs ys : List A} → a ∷ xs ≡ b ∷ ys → a ≡ b
head_eq e = search (rules, e)

tail_eq : {A : Type 0} {a b : A} {xs ys : List A} → a ∷ xs ≡ b ∷ ys → xs ≡ ys
tail_eq e = search (rules, e)

unwrapped : {A : Type 0} {a b : A} → Some a ≡ Some b → a ≡ b
unwrapped e = search (rules, e)

-- the test tells
abbrev pub Tells : Bool → Type 0 → Type 0
Tells b P = (b ≡ true → P) × (P → b ≡ true)

tells_both : (a b : Bool) (P Q R : Type 0) → Tells a P → Tells b Q → (P → Q → R) → (R → P × Q) → Tells (a && b) R
tells_both true true P Q R p q f g = (λ e. f (p.0 refl) (q.0 refl), λ x. refl)
tells_both true false P Q R p q f g = (λ e. absurd (search (rules, e)), λ x. q.1 (g x).1)
tells_both false b P Q R p q f g = (λ e. absurd (search (rules, e)), λ x. p.1 (g x).0)

module _ (terms : List (TermOf TypeRef)) (m : BTreeMap Key ℕ) (ds : List (Option (DefinitionOf TypeRef))) (rows : List Row) (is : IsLaidOut terms m ds rows) where
  abbrev types : List GoType
  types = deeps terms []

  abbrev table : Table
  table = table_of terms ds

  -- what stands at the number of a type
  pub record At (k : ℕ) (s : GoType) : Type 0 where
    pub term : TermOf TypeRef
    pub definition : Option (DefinitionOf TypeRef)
    pub there : slice_get terms k ≡ Some term
    pub beside : slice_get ds k ≡ Some definition
    pub row : slice_get rows k ≡ Some (row_of term definition)
    pub made : term_of s ≡ term_with (type_at types) term
    pub below : PartsBelow (length types) term

  pub at : (k : ℕ) (s : GoType) → slice_get types k ≡ Some s → At k s
  at k s h =
      let w = slice_get_within types k s h in
      let a = is.table.rows.size in
      let b = is.table.definitions.size in
      let x = some_at terms k (omega (arith, w, a)) in
      let d = some_at ds k (omega (arith, w, a, b)) in
      record {
        term = x.0;
        definition = d.0;
        there = x.1;
        beside = d.1;
        row = is.laid.each k x.0 d.0 x.1 d.1;
        made = term_at terms m ds is.table k x.0 s x.1 h;
        below = is.table.rows.below k x.0 x.1;
      }

  type_of_ref : (a : TypeRef) (s : GoType) → Below (length types) a → type_at types a ≡ s → slice_get types a.0 ≡ Some s
  type_of_ref a s w e = at_it types a w ∙ ap Some e

  -- the definition of a type stands at its number
  pub record Told (k : ℕ) (d : DefinitionOf GoType) : Type 0 where
    pub by : DefinitionOf TypeRef
    pub there : slice_get ds k ≡ Some (Some by)
    pub below : Below (length types) by.underlying
    pub is_under : type_at types by.underlying ≡ d.underlying

  told_at : (k : ℕ) (s : GoType) (d : DefinitionOf GoType) → slice_get types k ≡ Some s → Defines table d → d.of ≡ s → Told k d
  told_at k s d h defines own =
      let b : Beside types ds d = beside types ds d defines.0 defines.1 in
      let same : b.number ≡ k = is.table.rows.once b.number k s (row_beside terms m ds is.table d b ∙ ap Some own) h in
      record {
        by = b.by;
        there = ap (slice_get ds) (sym same) ∙ b.there;
        below = underlying_below terms m ds is.table b.number b.by b.there;
        is_under = ap (λ (e : DefinitionOf GoType). e.underlying) b.is;
      }

  -- ---- slots

  abbrev pub Held : ℕ → ℕ → Type 0
  Held k n = (l : Layout) × HasLayout rows k l × (l.slots ≡ n)

  abbrev AllHeld : List ℕ → ℕ → Type 0
  AllHeld ks n = (l : Layout) × HaveLayouts rows ks l × (l.slots ≡ n)

  one_held : (s : GoType) (n k : ℕ) → is_single (term_of s) ≡ true → n ≡ 1 → slice_get types k ≡ Some s → Held k n
  one_held s n k e n_is h =
      let a : At k s = at k s h in
      let single : is_single a.term ≡ true = sym (single_with (type_at types) a.term) ∙ ap is_single (sym a.made) ∙ e in
      let row : slice_get rows k ≡ Some (r.Single (compares a.term)) = a.row ∙ ap Some (single_row a.term a.definition single) in
      (whole (r.Single (compares a.term)) nothing, has (r.Single (compares a.term)) nothing row refl (lay.none refl) refl, sym n_is)

  array_held : (s : GoType) (n k len m' : ℕ) (of : GoType) → term_of s ≡ t.Array len of → ((j : ℕ) → slice_get types j ≡ Some of → Held j m') → n ≡ 1 + len * m' → slice_get types k ≡ Some s → Held k n
  array_held s n k len m' of e inner n_is h =
      let a : At k s = at k s h in
      let f = array_form (type_at types) a.term len of (sym a.made ∙ e) in
      let below : Below (length types) f.0 = (subst (PartsBelow (length types)) f.1 a.below).0 in
      let i = inner f.0.0 (type_of_ref f.0 of below f.2) in
      let row : slice_get rows k ≡ Some (r.Array len f.0.0) = a.row ∙ ap (λ x. Some (row_of x a.definition)) f.1 in
      let same : i.0.slots + 0 ≡ m' = (let q = i.2 in omega (arith, q)) in
      (whole (r.Array len f.0.0) (together i.0 nothing), has (r.Array len f.0.0) (together i.0 nothing) row refl (lay.more i.0 nothing i.1 (lay.none refl) refl) refl, ap (λ q. 1 + len * q) same ∙ sym n_is)

  struct_held : (s : GoType) (n k m' : ℕ) (gs : List (FieldOf GoType)) → term_of s ≡ t.Struct gs → ((rs : List TypeRef) → Each (Below (length types)) rs → map (type_at types) rs ≡ map field_of gs → AllHeld (refs rs) m') → n ≡ 1 + m' → slice_get types k ≡ Some s → Held k n
  struct_held s n k m' gs e inner n_is h =
      let a : At k s = at k s h in
      let f = struct_form (type_at types) a.term gs (sym a.made ∙ e) in
      let i = inner (map field_of f.0) (subst (PartsBelow (length types)) f.1 a.below) f.2 in
      let row : slice_get rows k ≡ Some (r.Struct (refs (map field_of f.0))) = a.row ∙ ap (λ x. Some (row_of x a.definition)) f.1 in
      (whole (r.Struct (refs (map field_of f.0))) i.0, has (r.Struct (refs (map field_of f.0))) i.0 row refl i.1 refl, ap (λ q. 1 + q) i.2 ∙ sym n_is)

  defined_held : (s : GoType) (n k : ℕ) (d : DefinitionOf GoType) → is_defined (term_of s) ≡ true → Defines table d → d.of ≡ s → ((j : ℕ) → slice_get types j ≡ Some d.underlying → Held j n) → slice_get types k ≡ Some s → Held k n
  defined_held s n k d e defines own inner h =
      let a : At k s = at k s h in
      let b : Told k d = told_at k s d h defines own in
      let defined : is_defined a.term ≡ true = defined_form (type_at types) a.term (ap is_defined (sym a.made) ∙ e) in
      let same : a.definition ≡ Some b.by = unwrapped (sym a.beside ∙ b.there) in
      let row : slice_get rows k ≡ Some (r.Defined (Some b.by.underlying.0)) = a.row ∙ ap (λ z. Some (row_of a.term z)) same ∙ ap Some (row_told a.term b.by defined) in
      let i = inner b.by.underlying.0 (type_of_ref b.by.underlying d.underlying b.below b.is_under) in
      (together i.0 nothing, has (r.Defined (Some b.by.underlying.0)) (together i.0 nothing) row refl (lay.more i.0 nothing i.1 (lay.none refl) refl) refl, (let q = i.2 in omega (arith, q)))

  mutual
    pub slots_held : {s : GoType} {n : ℕ} → Slots table s n → (k : ℕ) → slice_get types k ≡ Some s → Held k n
    slots_held {s} {n} (one e n_is) k h = one_held s n k e n_is h
    slots_held {s} {n} (of_array len m' of e inner n_is) k h = array_held s n k len m' of e (λ j g. slots_held inner j g) n_is h
    slots_held {s} {n} (of_struct gs m' e inner n_is) k h = struct_held s n k m' gs e (λ rs b g. all_held inner rs b g) n_is h
    slots_held {s} {n} (of_defined d e defines own inner) k h = defined_held s n k d e defines own (λ j g. slots_held inner j g) h

    all_held : {ss : List GoType} {n : ℕ} → SlotsOfAll table ss n → (rs : List TypeRef) → Each (Below (length types)) rs → map (type_at types) rs ≡ ss → AllHeld (refs rs) n
    all_held (none n_is) [] b e = (nothing, lay.none refl, sym n_is)
    all_held (none n_is) (q ∷ rs) b e = absurd (search (rules, e))
    all_held (more x y i js n_is) [] b e = absurd (search (rules, e))
    all_held (more x y i js n_is) (q ∷ rs) b e =
        let f = slots_held i q.0 (type_of_ref q _ b.0 (head_eq e)) in
        let g = all_held js rs b.1 (tail_eq e) in
        (together f.0 g.0, lay.more f.0 g.0 f.1 g.1 refl, (let u = f.2 in let v = g.2 in omega (arith, u, v, n_is)))

  -- ---- whether values compare

  false_true : {A : Type 0} → false ≡ true → A
  false_true e = absurd (search (rules, e))

  of_single : {s : GoType} → is_single (term_of s) ≡ true → IsComparable table s → compares (term_of s) ≡ true
  of_single e (by_kind f c) = c
  of_single e (by_element len of f c) = false_true (sym (ap is_single f) ∙ e)
  of_single e (by_fields gs f c) = false_true (sym (ap is_single f) ∙ e)
  of_single {s} e (by_underlying d f defines own c) = absurd (both (term_of s) e f)
    where
      both : (x : TermOf GoType) → is_single x ≡ true → is_defined x ≡ true → ⊥
      both (t.Defined path name local) e f = search (rules, e)
      both _ e f = search (rules, f)

  element_of : {s : GoType} (n : ℕ) (u : GoType) → term_of s ≡ t.Array n u → IsComparable table s → IsComparable table u
  element_of n u e (by_kind f c) = false_true (sym (ap is_single e) ∙ f)
  element_of n u e (by_element len of f c) = subst (IsComparable table) (ap (element u) (sym f ∙ e)) c
    where
      element : GoType → TermOf GoType → GoType
      element d (t.Array k a) = a
      element d _ = d
  element_of n u e (by_fields gs f c) = absurd (clash (sym f ∙ e))
    where
      clash : t.Struct gs ≡ t.Array n u → ⊥
      clash g = search (rules, g)
  element_of n u e (by_underlying d f defines own c) = false_true (sym (ap is_defined e) ∙ f)

  fields_of : {s : GoType} (fs : List (FieldOf GoType)) → term_of s ≡ t.Struct fs → IsComparable table s → AreComparable table (map field_of fs)
  fields_of fs e (by_kind f c) = false_true (sym (ap is_single e) ∙ f)
  fields_of fs e (by_element len of f c) = absurd (clash (sym f ∙ e))
    where
      clash : t.Array len of ≡ t.Struct fs → ⊥
      clash g = search (rules, g)
  fields_of fs e (by_fields gs f c) = subst (AreComparable table) (ap parts (sym f ∙ e)) c
  fields_of fs e (by_underlying d f defines own c) = false_true (sym (ap is_defined e) ∙ f)

  abbrev Underneath : GoType → Type 0
  Underneath s = (d : DefinitionOf GoType) × Defines table d × (d.of ≡ s) × IsComparable table d.underlying

  underneath : {s : GoType} → is_defined (term_of s) ≡ true → IsComparable table s → Underneath s
  underneath {s} e (by_kind f c) = absurd (both (term_of s) f e)
    where
      both : (x : TermOf GoType) → is_single x ≡ true → is_defined x ≡ true → ⊥
      both (t.Defined path name local) e f = search (rules, e)
      both _ e f = search (rules, f)
  underneath e (by_element len of f c) = false_true (sym (ap is_defined f) ∙ e)
  underneath e (by_fields gs f c) = false_true (sym (ap is_defined f) ∙ e)
  underneath e (by_underlying d f defines own c) = (d, defines, own, c)

  -- what the parts of a row tell
  abbrev PartsTell : Row → Layout → Type 0
  PartsTell row held = (rs : List TypeRef) → refs rs ≡ lay.parts row → Each (Below (length types)) rs → Tells held.comparable (AreComparable table (map (type_at types) rs))

  abbrev TellsOf : Layout → GoType → Type 0
  TellsOf l s = Tells l.comparable (IsComparable table s)

  array_tells : (k : ℕ) (s : GoType) (held : Layout) → At k s → (x : TermOf TypeRef) → term_of s ≡ term_with (type_at types) x → PartsBelow (length types) x → (n : ℕ) (a : TypeRef) → x ≡ t.Array n a → PartsTell (r.Array n a.0) held → Tells held.comparable (IsComparable table s)
  array_tells k s held at_k x made below n a e inner =
      let u : GoType = type_at types a in
      let s_is : term_of s ≡ t.Array n u = made ∙ ap (term_with (type_at types)) e in
      let i = inner (a ∷ []) refl (subst (PartsBelow (length types)) e below) in
      (λ c. by_element n u s_is (first (i.0 c)), λ c. i.1 (one_more (element_of n u s_is c) no_more))
    where
      first : {v : GoType} {vs : List GoType} → AreComparable table (v ∷ vs) → IsComparable table v
      first (one_more c cs) = c

  struct_tells : (s : GoType) (held : Layout) (x : TermOf TypeRef) → term_of s ≡ term_with (type_at types) x → PartsBelow (length types) x → (fs : List (FieldOf TypeRef)) → x ≡ t.Struct fs → PartsTell (r.Struct (refs (map field_of fs))) held → Tells held.comparable (IsComparable table s)
  struct_tells s held x made below fs e inner =
      let s_is = made ∙ ap (term_with (type_at types)) e in
      let same : map (type_at types) (map field_of fs) ≡ parts (term_with (type_at types) (t.Struct fs)) = sym (parts_with (type_at types) (t.Struct fs)) in
      let i = inner (map field_of fs) refl (subst (PartsBelow (length types)) e below) in
      (λ c. by_fields _ s_is (subst (AreComparable table) same (i.0 c)), λ c. i.1 (subst (AreComparable table) (sym same) (fields_of _ s_is c)))

  defined_tells : (k : ℕ) (s : GoType) (held : Layout) → slice_get types k ≡ Some s → is_defined (term_of s) ≡ true → (d : DefinitionOf TypeRef) → slice_get ds k ≡ Some (Some d) → PartsTell (r.Defined (Some d.underlying.0)) held → Tells held.comparable (IsComparable table s)
  defined_tells k s held h defined d there inner =
      let u : GoType = type_at types d.underlying in
      let below : Below (length types) d.underlying = underlying_below terms m ds is.table k d there in
      let i = inner (d.underlying ∷ []) refl (below, tt) in
      let made : DefinitionOf GoType = definition_with (type_at types) d in
      let own : made.of ≡ s = unwrapped (sym (row_beside terms m ds is.table made (record { number = k; by = d; there = there; is = refl })) ∙ h) in (
        λ c. by_underlying made defined (some_told terms m ds is.table k d there) own (first (i.0 c)),
        λ c. let b = underneath defined c in
            let o : Told k b.0 = told_at k s b.0 h b.1 b.2 in
            let same : o.by ≡ d = unwrapped (unwrapped (sym o.there ∙ there)) in
            i.1 (one_more (subst (IsComparable table) (sym o.is_under ∙ ap (λ (e : DefinitionOf TypeRef). type_at types e.underlying) same) b.3) no_more),
      )
    where
      first : {v : GoType} {vs : List GoType} → AreComparable table (v ∷ vs) → IsComparable table v
      first (one_more c cs) = c

  -- a row with its layout tells of its type
  row_tells : (k : ℕ) (s : GoType) (row : Row) (held : Layout) → slice_get types k ≡ Some s → slice_get rows k ≡ Some row → is_known row ≡ true → PartsTell row held → TellsOf (whole row held) s
  row_tells k s row held h row_at known inner = by (form a.term)
    where
      a : At k s
      a = at k s h

      row_is : row ≡ row_of a.term a.definition
      row_is = unwrapped (sym row_at ∙ a.row)

      told_as : (other : Row) → row_of a.term a.definition ≡ other → (PartsTell other held → is_known other ≡ true → TellsOf (whole other held) s) → TellsOf (whole row held) s
      told_as other e f =
          let same : other ≡ row = sym (row_is ∙ e) in
          subst (λ x. TellsOf (whole x held) s) same (f (subst (λ x. PartsTell x held) (sym same) inner) (ap is_known same ∙ known))

      by_definition : is_defined a.term ≡ true → (o : Option (DefinitionOf TypeRef)) → a.definition ≡ o → TellsOf (whole row held) s
      by_definition e None d_is = told_as (r.Defined None) (ap (row_of a.term) d_is ∙ row_defined a.term e) (λ i known. false_true known)
      by_definition e (Some d) d_is = told_as (r.Defined (Some d.underlying.0)) (ap (row_of a.term) d_is ∙ row_told a.term d e)
          (λ i known. defined_tells k s held h (ap is_defined a.made ∙ defined_with (type_at types) a.term ∙ e) d (a.beside ∙ ap Some d_is) i)

      by : Form a.term → TellsOf (whole row held) s
      by (arrays n b e) = told_as (r.Array n b.0) (ap (λ x. row_of x a.definition) e) (λ i known. array_tells k s held a a.term a.made a.below n b e i)
      by (structs fs e) = told_as (r.Struct (refs (map field_of fs))) (ap (λ x. row_of x a.definition) e) (λ i known. struct_tells s held a.term a.made a.below fs e i)
      by (defineds e) = by_definition e a.definition refl
      by (singles e) = told_as (r.Single (compares a.term)) (single_row a.term a.definition e)
          (λ i known.
          let single : is_single (term_of s) ≡ true = ap is_single a.made ∙ single_with (type_at types) a.term ∙ e in
          let same : compares (term_of s) ≡ compares a.term = ap compares a.made ∙ compares_with (type_at types) a.term in
          (λ c. by_kind single (same ∙ c), λ c. sym same ∙ of_single single c))

  parted : {v : GoType} {vs : List GoType} → AreComparable table (v ∷ vs) → IsComparable table v × AreComparable table vs
  parted (one_more c cs) = (c, cs)

  mutual
    pub layout_tells : {k : ℕ} {l : Layout} → HasLayout rows k l → (s : GoType) → slice_get types k ≡ Some s → TellsOf l s
    layout_tells {k} {l} (has row held row_at known hs l_is) s h =
        subst (λ x. TellsOf x s) (sym l_is) (row_tells k s row held h row_at known (λ rs e b. layouts_tell hs rs e b))

    layouts_tell : {ks : List ℕ} {l : Layout} → HaveLayouts rows ks l → (rs : List TypeRef) → refs rs ≡ ks → Each (Below (length types)) rs → Tells l.comparable (AreComparable table (map (type_at types) rs))
    layouts_tell (lay.none l_is) [] e b = (λ c. no_more, λ c. ap (λ (x : Layout). x.comparable) l_is)
    layouts_tell (lay.none l_is) (q ∷ rs) e b = absurd (search (rules, e))
    layouts_tell (lay.more x y i js l_is) [] e b = absurd (search (rules, e))
    layouts_tell (lay.more x y i js l_is) (q ∷ rs) e b =
        let f = layout_tells i (type_at types q) (ap (slice_get types) (sym (head_eq e)) ∙ at_it types q b.0) in
        let g = layouts_tell js rs (tail_eq e) b.1 in
        subst (λ c. Tells c (AreComparable table (map (type_at types) (q ∷ rs)))) (ap (λ (z : Layout). z.comparable) (sym l_is))
        (tells_both x.comparable y.comparable _ _ _ f g one_more parted)

  -- ---- what is asked

  -- what a look-up of a layout gives
  pub record Answered (s : GoType) (n : ℕ) (result : Option Layout) : Type 0 where
    pub layout : Layout
    pub is_it : result ≡ Some (saturated layout)
    pub slots : layout.slots ≡ n
    pub tells : TellsOf layout s

  pub answered : (k : ℕ) (s : GoType) (n : ℕ) (result : Option Layout) → slice_get types k ≡ Some s → Slots table s n → ((l : Layout) → HasLayout rows k l → result ≡ Some (saturated l)) → Answered s n result
  answered k s n result h slots f = let l = slots_held slots k h in record { layout = l.0; is_it = f l.0 l.1; slots = l.2; tells = layout_tells l.1 s h }

  -- a defined type without a definition
  pub undefined_row : (d : TypeRef) → Below (length types) d → is_defined (term_of (type_at types d)) ≡ true → ((e : DefinitionOf GoType) → Defines table e → e.of ≡ type_at types d → ⊥) → slice_get rows d.0 ≡ Some (r.Defined None)
  undefined_row d w e new = by a.definition refl
    where
      a : At d.0 (type_at types d)
      a = at d.0 (type_at types d) (at_it types d w)

      defined : is_defined a.term ≡ true
      defined = defined_form (type_at types) a.term (ap is_defined (sym a.made) ∙ e)

      by : (o : Option (DefinitionOf TypeRef)) → a.definition ≡ o → slice_get rows d.0 ≡ Some (r.Defined None)
      by None o = a.row ∙ ap (λ z. Some (row_of a.term z)) o ∙ ap Some (row_defined a.term defined)
      by (Some f) o =
          let there : slice_get ds d.0 ≡ Some (Some f) = a.beside ∙ ap Some o in
          let made : DefinitionOf GoType = definition_with (type_at types) f in
          let own : made.of ≡ type_at types d = unwrapped (sym (row_beside terms m ds is.table made (record { number = d.0; by = f; there = there; is = refl })) ∙ at_it types d w) in
          absurd (new made (some_told terms m ds is.table d.0 f there) own)

  -- the term of a defined type
  pub defined_term : (d : TypeRef) → Below (length types) d → is_defined (term_of (type_at types d)) ≡ true → (x : TermOf TypeRef) × (slice_get terms d.0 ≡ Some x) × (is_defined x ≡ true)
  defined_term d w e =
      let a : At d.0 (type_at types d) = at d.0 (type_at types d) (at_it types d w) in
      (a.term, a.there, defined_form (type_at types) a.term (ap is_defined (sym a.made) ∙ e))
