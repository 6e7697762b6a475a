-- What the definitions beside rows say of types.
use Rattle.std.proofs.Common.{◌≡◌, refl, sym, ap, ◌∙◌, subst, ℕ, ◌<◌, List, [], length, map, Option, Some, None, Bool, true, false, rules, arith, if◌then◌else◌, inl, inr, Bor}
use Rattle.std.specs.Prelude.{slice_get, slice_set, ◌⊎◌, IfSome, IsNone}
use Rattle.std.specs.Option.{option_copied}
use Rattle.std.specs.BTreeMap.{BTreeMap}
use Rattle.std.specs.Str.{bytes_eq}
use Rattle.std.proofs.lemmas.Option.{slice_get_within}
use Rattle.std.proofs.lemmas.Slice.Eq.{bytes_eq-Decides}
use Rattle.gno_terms.specs.declared.term.GoType.{GoType}
use Rattle.gno_terms.specs.declared.term.TypeRef.{TypeRef}
use Rattle.gno_terms.specs.declared.term.TermOf.{TermOf}
use Rattle.gno_terms.specs.declared.term.TermOf.TheVariants as t
use Rattle.gno_terms.specs.declared.term.DefinitionOf.{DefinitionOf}
use Rattle.gno_terms.specs.Lawful.{Each}
use Rattle.gno_terms.specs.Tables.{Below, Defines, IsOfPath, type_at, type_or}
use Rattle.gno_terms.specs.Terms.{method_of, term_of, term_with}
use Rattle.gno_terms.proofs.Parts.{Each-weaken}
use Rattle.gno_type_rows.specs.RowTypes.{deeps, IsTable, IsDefinition, table_of, definition_with, is_defined, is_of_path, unless_of_path}
use Rattle.gno_type_rows.specs.declared.key.Key.{Key}
use Rattle.gno_layouts.proofs.Ends.{some_at}
use Rattle.gno_type_rows.proofs.Pushed.{at_it, term_of_type}
use Rattle.gno_layouts.proofs.SetAt.{set_size, set_here, set_elsewhere, Same, here, elsewhere, where_is}
use Rattle.gno_type_rows.proofs.Told.{Beside, beside, told}

abbrev Definitions : Type 0
Definitions = List (Option (DefinitionOf TypeRef))

pub ref_eq : (a b : TypeRef) → a.0 ≡ b.0 → a ≡ b
ref_eq a b e = λ i. record { 0 = e i }

abbrev inner : DefinitionOf TypeRef → Option (Option (DefinitionOf TypeRef)) → DefinitionOf TypeRef
inner d (Some (Some e)) = e
inner d _ = d

inner_eq : (d e : DefinitionOf TypeRef) → Some (Some d) ≡ Some (Some e) → d ≡ e
inner_eq d e h = ap (inner d) h

not_none : (d : DefinitionOf TypeRef) → Some None ≡ Some (Some d) → ⊥
not_none d e = search (rules, e)

pub defined_with : (f : TypeRef → GoType) (x : TermOf TypeRef) → is_defined (term_with f x) ≡ is_defined x
defined_with f (t.Defined path name local) = refl
defined_with f _ = refl

of_path_with : (f : TypeRef → GoType) (path : List ℕ) (x : TermOf TypeRef) → is_of_path path (term_with f x) ≡ is_of_path path x
of_path_with f path (t.Defined own name local) = refl
of_path_with f path _ = refl

same_bytes : (path : List ℕ) → bytes_eq path path ≡ true
same_bytes path = (bytes_eq-Decides path path).1 refl

-- the package of a defined type, by the test
data OfPath (path : List ℕ) (x : TermOf GoType) : Type 0 where
  of_path : (name : List ℕ) (local : ℕ) → x ≡ t.Defined path name local → OfPath path x

tested : (path : List ℕ) (x : TermOf GoType) → is_of_path path x ≡ true → OfPath path x
tested path (t.Defined own name local) e = of_path name local (ap (λ p. t.Defined p name local) ((bytes_eq-Decides own path).0 e))
tested path _ e = absurd (search (rules, e))

pub if_there : (o : Option (Bor (DefinitionOf TypeRef))) (v : Option (DefinitionOf TypeRef)) → option_copied o ≡ v → (P : DefinitionOf TypeRef → Type 0) → ((e : DefinitionOf TypeRef) → v ≡ Some e → P e) → IfSome o (λ d. P d.now)
if_there None v e P f = tt
if_there (Some b) v e P f = f b.now (sym e)

pub if_none : (o : Option (Bor (DefinitionOf TypeRef))) → IsNone o → option_copied o ≡ None
if_none None h = refl
if_none (Some b) h = absurd (search (rules, h))

module _ (terms : List (TermOf TypeRef)) (m : BTreeMap Key ℕ) (ds : Definitions) (is : IsTable terms m ds) where
  abbrev types : List GoType
  types = deeps terms []

  abbrev made : DefinitionOf TypeRef → DefinitionOf GoType
  made = definition_with (type_at types)

  pub some_told : (n : ℕ) (e : DefinitionOf TypeRef) → slice_get ds n ≡ Some (Some e) → Defines (table_of terms ds) (made e)
  some_told n e h = told types ds n e h

  pub own : (r : TypeRef) (e : DefinitionOf TypeRef) → slice_get ds r.0 ≡ Some (Some e) → e.of ≡ r
  own r e h = ref_eq e.of r (is.definitions.each r.0 e h).own

  pub below_types : (r : TypeRef) → Below (length terms) r → Below (length types) r
  below_types r h = let z = is.rows.size in omega (arith, h, z)

  pub underlying_below : (n : ℕ) (e : DefinitionOf TypeRef) → slice_get ds n ≡ Some (Some e) → Below (length types) e.underlying
  underlying_below n e h = below_types e.underlying (is.definitions.each n e h).underlying

  pub methods_below : (n : ℕ) (e : DefinitionOf TypeRef) → slice_get ds n ≡ Some (Some e) → Each (Below (length types)) (map method_of e.methods)
  methods_below n e h = Each-weaken (Below (length terms)) (Below (length types)) below_types (map method_of e.methods) (is.definitions.each n e h).methods

  -- a definition's row is that of its type
  of_below : (n : ℕ) (e : DefinitionOf TypeRef) → slice_get ds n ≡ Some (Some e) → Below (length types) e.of
  of_below n e h = below_types e.of (let o = (is.definitions.each n e h).own in let w = slice_get_within ds n (Some e) h in let z = is.definitions.size in omega arith)

  pub row_of : (d : DefinitionOf GoType) (b : Beside types ds d) → slice_get types b.number ≡ Some d.of
  row_of d b =
      let o = (is.definitions.each b.number b.by b.there).own in
      ap (slice_get types) (sym o) ∙ at_it types b.by.of (of_below b.number b.by b.there) ∙ ap (λ e. Some e.of) b.is

  pub none_told : (r : TypeRef) → slice_get ds r.0 ≡ Some None → (d : DefinitionOf GoType) → Defines (table_of terms ds) d → slice_get types r.0 ≡ Some d.of → ⊥
  none_told r none d defines at =
      let b : Beside types ds d = beside types ds d defines.0 defines.1 in
      let same : b.number ≡ r.0 = is.rows.once b.number r.0 d.of (row_of d b) at in
      not_none b.by (sym none ∙ ap (slice_get ds) (sym same) ∙ b.there)

  same_beside : (d e : DefinitionOf GoType) (a : Beside types ds d) (b : Beside types ds e) → a.number ≡ b.number → d ≡ e
  same_beside d e a b same = sym a.is ∙ ap made (inner_eq a.by b.by (sym a.there ∙ ap (slice_get ds) same ∙ b.there)) ∙ b.is

  pub one_definition : (d e : DefinitionOf GoType) → Defines (table_of terms ds) d → Defines (table_of terms ds) e → d.of ≡ e.of → d ≡ e
  one_definition d e defines_d defines_e same =
      let a : Beside types ds d = beside types ds d defines_d.0 defines_d.1 in
      let b : Beside types ds e = beside types ds e defines_e.0 defines_e.1 in
      same_beside d e a b (is.rows.once a.number b.number d.of (row_of d a) (row_of e b ∙ ap Some (sym same)))

  -- the row beside a definition
  beside_row : (n : ℕ) (e : DefinitionOf TypeRef) → slice_get ds n ≡ Some (Some e) → (x : TermOf TypeRef) × (slice_get terms n ≡ Some x)
  beside_row n e h = some_at terms n (let w = slice_get_within ds n (Some e) h in let z = is.definitions.size in omega arith)

  pub term_at : (n : ℕ) (x : TermOf TypeRef) (s : GoType) → slice_get terms n ≡ Some x → slice_get types n ≡ Some s → term_of s ≡ term_with (type_at types) x
  term_at n x s h k = ap (λ o. term_of (type_or o)) (sym k ∙ is.rows.rows n x h) ∙ term_of_type (term_with (type_at types) x)

  module _ (d : DefinitionOf TypeRef) (at : Below (length types) d.of) (under : Below (length types) d.underlying) (methods : Each (Below (length types)) (map method_of d.methods))
      (defined : is_defined (term_of (type_at types d.of)) ≡ true) where
    abbrev more : Definitions
    more = slice_set ds d.of.0 (Some d)

    below_terms : (r : TypeRef) → Below (length types) r → Below (length terms) r
    below_terms r h = let z = is.rows.size in omega (arith, h, z)

    within : d.of.0 < length ds
    within = let z = is.rows.size in let y = is.definitions.size in omega (arith, at)

    new_definition : (n : ℕ) → n ≡ d.of.0 → IsDefinition terms n d
    new_definition n e = record {
      own = sym e;
      underlying = below_terms d.underlying under;
      methods = Each-weaken _ _ below_terms (map method_of d.methods) methods;
      defined = λ x h. sym (defined_with (type_at types) x) ∙ ap is_defined (sym (term_at n x (type_at types d.of) h (ap (slice_get types) e ∙ at_it types d.of at))) ∙ defined;
    }

    each_by : (n : ℕ) (e : DefinitionOf TypeRef) → slice_get more n ≡ Some (Some e) → Same n d.of.0 → IsDefinition terms n e
    each_by n e h (here k) = subst (IsDefinition terms n) (inner_eq d e (sym (set_here ds d.of.0 (Some d) within) ∙ ap (slice_get more) (sym k) ∙ h)) (new_definition n k)
    each_by n e h (elsewhere f) = is.definitions.each n e (sym (set_elsewhere ds d.of.0 (Some d) n f) ∙ h)

    pub defined_table : IsTable terms m more
    defined_table = record {
      rows = is.rows;
      numbered = is.numbered;
      definitions = record { size = set_size ds d.of.0 (Some d) ∙ is.definitions.size; each = λ n e h. each_by n e h (where_is n d.of.0) };
    }

    module _ (new : (e : DefinitionOf GoType) → Defines (table_of terms ds) e → e.of ≡ type_at types d.of → ⊥) where
      forth_by : (e : DefinitionOf GoType) (b : Beside types more e) → Same b.number d.of.0 → Defines (table_of terms ds) e ⊎ (e ≡ made d)
      forth_by e b (here k) = inr (sym b.is ∙ ap made (sym (inner_eq d b.by (sym (set_here ds d.of.0 (Some d) within) ∙ ap (slice_get more) (sym k) ∙ b.there))))
      forth_by e b (elsewhere f) = inl (subst (Defines (table_of terms ds)) b.is (told types ds b.number b.by (sym (set_elsewhere ds d.of.0 (Some d) b.number f) ∙ b.there)))

      pub forth : (e : DefinitionOf GoType) → Defines (table_of terms more) e → Defines (table_of terms ds) e ⊎ (e ≡ made d)
      forth e h = let b : Beside types more e = beside types more e h.0 h.1 in forth_by e b (where_is b.number d.of.0)

      old_by : (e : DefinitionOf GoType) (b : Beside types ds e) → Defines (table_of terms ds) e → Same b.number d.of.0 → Defines (table_of terms more) e
      old_by e b h (here k) =
          absurd (new e h (ap type_or (sym (row_of e b) ∙ ap (slice_get types) k ∙ at_it types d.of at)))
      old_by e b h (elsewhere f) = subst (Defines (table_of terms more)) b.is (told types more b.number b.by (set_elsewhere ds d.of.0 (Some d) b.number f ∙ b.there))

      pub back : (e : DefinitionOf GoType) → Defines (table_of terms ds) e ⊎ (e ≡ made d) → Defines (table_of terms more) e
      back e (inl h) = let b : Beside types ds e = beside types ds e h.0 h.1 in old_by e b h (where_is b.number d.of.0)
      back e (inr h) = subst (Defines (table_of terms more)) (sym h) (told types more d.of.0 d (set_here ds d.of.0 (Some d) within))

  module _ (path : List ℕ) (less : Definitions) (size : length less ≡ length ds) (each : (n : ℕ) (x : TermOf TypeRef) → slice_get terms n ≡ Some x → slice_get less n ≡ unless_of_path path x (slice_get ds n)) where
    row_in : (n : ℕ) (e : DefinitionOf TypeRef) → slice_get less n ≡ Some (Some e) → (x : TermOf TypeRef) × (slice_get terms n ≡ Some x)
    row_in n e h = some_at terms n (let w = slice_get_within less n (Some e) h in let z = is.definitions.size in omega (arith, size))

    -- what is left stood there before, and is not of the package
    data Stays (n : ℕ) (e : DefinitionOf TypeRef) (x : TermOf TypeRef) : Type 0 where
      stays : slice_get ds n ≡ Some (Some e) → is_of_path path x ≡ false → Stays n e x

    stays_by : (n : ℕ) (e : DefinitionOf TypeRef) (x : TermOf TypeRef) (b : Bool) → is_of_path path x ≡ b → (if b then Some None else slice_get ds n) ≡ Some (Some e) → Stays n e x
    stays_by n e x true k h = absurd (not_none e h)
    stays_by n e x false k h = stays h k

    left : (n : ℕ) (e : DefinitionOf TypeRef) (x : TermOf TypeRef) → slice_get terms n ≡ Some x → slice_get less n ≡ Some (Some e) → Stays n e x
    left n e x k h = stays_by n e x (is_of_path path x) refl (sym (each n x k) ∙ h)

    kept_definition : (n : ℕ) (e : DefinitionOf TypeRef) (x : TermOf TypeRef) → Stays n e x → IsDefinition terms n e
    kept_definition n e x (stays h k) = is.definitions.each n e h

    pub forgotten_table : IsTable terms m less
    forgotten_table = record {
      rows = is.rows;
      numbered = is.numbered;
      definitions = record { size = size ∙ is.definitions.size; each = λ n e h. let x = row_in n e h in kept_definition n e x.0 (left n e x.0 x.1 h) };
    }

    of_path_at : (n : ℕ) (x : TermOf TypeRef) (s : GoType) → slice_get terms n ≡ Some x → slice_get types n ≡ Some s → IsOfPath path s → is_of_path path x ≡ true
    of_path_at n x s h k o = sym (of_path_with (type_at types) path x) ∙ ap (is_of_path path) (sym (term_at n x s h k) ∙ o.2) ∙ same_bytes path

    stays_forth : (d : DefinitionOf GoType) (n : ℕ) (e : DefinitionOf TypeRef) (x : TermOf TypeRef) → made e ≡ d → slice_get terms n ≡ Some x → Stays n e x → Defines (table_of terms ds) d × (IsOfPath path d.of → ⊥)
    stays_forth d n e x made_is h (stays k f) =
        let b : Beside types ds d = record { number = n; by = e; there = k; is = made_is } in
        (subst (Defines (table_of terms ds)) made_is (told types ds n e k), λ o. differ (sym (of_path_at n x d.of h (row_of d b) o) ∙ f))
      where
        differ : true ≡ false → ⊥
        differ e = search (rules, e)

    pub forgotten_forth : (d : DefinitionOf GoType) → Defines (table_of terms less) d → Defines (table_of terms ds) d × (IsOfPath path d.of → ⊥)
    forgotten_forth d h =
        let b : Beside types less d = beside types less d h.0 h.1 in
        let x = row_in b.number b.by b.there in
        stays_forth d b.number b.by x.0 b.is x.1 (left b.number b.by x.0 x.1 b.there)

    is_of : (n : ℕ) (x : TermOf TypeRef) (s : GoType) → slice_get terms n ≡ Some x → slice_get types n ≡ Some s → OfPath path (term_with (type_at types) x) → IsOfPath path s
    is_of n x s h k (of_path name local e) = (name, local, term_at n x s h k ∙ e)

    still_by : (d : DefinitionOf GoType) (b : Beside types ds d) (x : TermOf TypeRef) → slice_get terms b.number ≡ Some x → (IsOfPath path d.of → ⊥) → (c : Bool) → is_of_path path x ≡ c → slice_get less b.number ≡ Some (Some b.by)
    still_by d b x h f true k = absurd (f (is_of b.number x d.of h (row_of d b) (tested path (term_with (type_at types) x) (of_path_with (type_at types) path x ∙ k))))
    still_by d b x h f false k = each b.number x h ∙ ap (λ c. if c then Some None else slice_get ds b.number) k ∙ b.there

    pub forgotten_back : (d : DefinitionOf GoType) → Defines (table_of terms ds) d × (IsOfPath path d.of → ⊥) → Defines (table_of terms less) d
    forgotten_back d h =
        let b : Beside types ds d = beside types ds d h.0.0 h.0.1 in
        let x = beside_row b.number b.by b.there in
        subst (Defines (table_of terms less)) b.is (told types less b.number b.by (still_by d b x.0 x.1 h.1 (is_of_path path x.0) refl))
