-- Rows of layouts beside the rows of a table.
use Rattle.std.proofs.Common.{◌≡◌, refl, sym, ap, ◌∙◌, subst, ℕ, ◌+◌, ◌<◌, List, [], ◌∷◌, ◌++◌, length, length-append, map, Bool, true, false, if◌then◌else◌, Option, Some, None, rules, arith}
use Rattle.std.specs.Prelude.{slice_get, slice_set}
use Rattle.std.specs.BTreeMap.{BTreeMap}
use Rattle.std.specs.List.{AllByRecursion}
use Rattle.std.specs.Option.{is_some}
use Rattle.std.proofs.lemmas.Option.{slice_get_within}
use Rattle.gno_layouts.specs.declared.row.Row.{Row}
use Rattle.gno_layouts.specs.declared.row.Row.TheVariants as r
use Rattle.gno_layouts.specs.Layouts.{kept, stands}
use Rattle.gno_layouts.specs.Settling.{AreRows}
use Rattle.gno_layouts.proofs.Ends.{Where, inside, last, get_where, get_left, get_last, some_at}
use Rattle.gno_layouts.proofs.Taken.{taken_init}
use Rattle.gno_layouts.proofs.SetAt.{set_size, set_here, set_elsewhere, Same, here, elsewhere, where_is}
use Rattle.gno_terms.specs.declared.term.DefinitionOf.{DefinitionOf}
use Rattle.gno_terms.specs.declared.term.TermOf.{TermOf}
use Rattle.gno_terms.specs.declared.term.TermOf.TheVariants as t
use Rattle.gno_terms.specs.declared.term.TypeRef.{TypeRef}
use Rattle.gno_terms.specs.Lawful.{Each}
use Rattle.gno_terms.specs.Tables.{Below, PartsBelow}
use Rattle.gno_terms.specs.Terms.{parts, field_of}
use Rattle.gno_type_rows.specs.Keys.{refs}
use Rattle.gno_type_rows.specs.Laid.{row_of, AreLaid, IsLaidOut}
use Rattle.gno_type_rows.specs.declared.key.Key.{Key}
use Rattle.gno_type_rows.proofs.Steps.{at_lists, same_table}
use Rattle.gno_type_rows.specs.RowTypes.{is_defined, is_of_path, unless_of_path}

abbrev Terms : Type 0
Terms = List (TermOf TypeRef)

abbrev Definitions : Type 0
Definitions = List (Option (DefinitionOf TypeRef))

unwrapped : {A : Type 0} {a b : A} → Some a ≡ Some b → a ≡ b
unwrapped e = search (rules, e)

pub laid_empty : AreLaid [] [] []
laid_empty = record { size = refl; each = λ n x d h k. absurd (search (rules, h)) }

pub laid_at : {terms terms-2 : Terms} {ds ds-2 : Definitions} {rows rows-2 : List Row} → terms ≡ terms-2 → ds ≡ ds-2 → rows ≡ rows-2 → AreLaid terms-2 ds-2 rows-2 → AreLaid terms ds rows
laid_at {terms} {terms-2} {ds} {ds-2} {rows} {rows-2} a b c are = subst (λ x. AreLaid x ds rows) (sym a) (subst (λ x. AreLaid terms-2 x rows) (sym b) (subst (AreLaid terms-2 ds-2) (sym c) are))

-- a row that was added and taken back
pub taken_back : (rows more less : List Row) (x y : Row) → more ≡ rows ++ x ∷ [] → more ≡ less ++ y ∷ [] → less ≡ rows
taken_back rows more less x y e f = sym (taken_init more less y f) ∙ taken_init more rows x e

pub after_failure : {terms terms-2 : Terms} {m n : BTreeMap Key ℕ} {ds ds-2 : Definitions} {rows more less : List Row} (x y : Row) → IsLaidOut terms m ds rows → terms-2 ≡ terms → ds-2 ≡ ds → n.entries ≡ m.entries
    → more ≡ rows ++ x ∷ [] → more ≡ less ++ y ∷ [] → IsLaidOut terms-2 n ds-2 less
after_failure {terms} {terms-2} {m} {n} {ds} {ds-2} {rows} {more} {less} x y is a b e f g = record {
  table = at_lists a b (same_table terms m n ds e is.table);
  laid = laid_at a b (taken_back rows more less x y f g) is.laid;
}

-- ---- a row more

each_ref : (n : ℕ) (rs : List TypeRef) → Each (Below n) rs → AllByRecursion (λ k. k < n) (refs rs)
each_ref n [] b = tt
each_ref n (r ∷ rs) b = (b.0, each_ref n rs b.1)

pub row_below : (n : ℕ) (x : TermOf TypeRef) → PartsBelow n x → AreRows n (row_of x None)
row_below n (t.Array k a) b = (b.0, tt)
row_below n (t.Struct fs) b = each_ref n (map field_of fs) b
row_below n (t.Defined path name local) b = tt
row_below n _ b = tt

module _ (terms : Terms) (ds : Definitions) (rows : List Row) (are : AreLaid terms ds rows) (counted : length ds ≡ length terms) (x : TermOf TypeRef) where
  push_by : (n : ℕ) (y : TermOf TypeRef) (d : Option (DefinitionOf TypeRef)) → Where terms x n y → Where ds None n d → slice_get (rows ++ row_of x None ∷ []) n ≡ Some (row_of y d)
  push_by n y d (inside h) (inside k) = get_left rows (row_of x None) n (row_of y d) (are.each n y d h k)
  push_by n y d (inside h) (last e k) = absurd (let w = slice_get_within terms n y h in omega (arith, w, e, counted))
  push_by n y d (last e h) (inside k) = absurd (let w = slice_get_within ds n d k in omega (arith, w, e, counted))
  push_by n y d (last e h) (last f k) =
      ap (slice_get (rows ++ row_of x None ∷ [])) (e ∙ sym are.size) ∙ get_last rows (row_of x None) ∙ ap (λ z. Some (row_of z None)) (sym h) ∙ ap (λ z. Some (row_of y z)) (sym k)

  pub laid_push : AreLaid (terms ++ x ∷ []) (ds ++ None ∷ []) (rows ++ row_of x None ∷ [])
  laid_push = record {
    size = let z = are.size in let a = length-append rows (row_of x None ∷ []) in let b = length-append terms (x ∷ []) in omega (arith, z, a, b);
    each = λ n y d h k. push_by n y d (get_where terms x n y h) (get_where ds None n d k);
  }

-- ---- a definition more

pub row_defined : (x : TermOf TypeRef) → is_defined x ≡ true → row_of x None ≡ r.Defined None
row_defined (t.Defined path name local) e = refl
row_defined _ e = absurd (search (rules, e))

pub row_told : (x : TermOf TypeRef) (d : DefinitionOf TypeRef) → is_defined x ≡ true → row_of x (Some d) ≡ r.Defined (Some d.underlying.0)
row_told (t.Defined path name local) d e = refl
row_told _ d e = absurd (search (rules, e))

module _ (terms : Terms) (ds : Definitions) (rows : List Row) (are : AreLaid terms ds rows) (number : ℕ) (x : TermOf TypeRef) (there : slice_get terms number ≡ Some x) (defined : is_defined x ≡ true) (within : number < length ds) (d : DefinitionOf TypeRef) where
  define_by : (n : ℕ) (y : TermOf TypeRef) (e : Option (DefinitionOf TypeRef)) → slice_get terms n ≡ Some y → slice_get (slice_set ds number (Some d)) n ≡ Some e → Same n number
      → slice_get (slice_set rows number (r.Defined (Some d.underlying.0))) n ≡ Some (row_of y e)
  define_by n y e h k (elsewhere f) = set_elsewhere rows number (r.Defined (Some d.underlying.0)) n f ∙ are.each n y e h (sym (set_elsewhere ds number (Some d) n f) ∙ k)
  define_by n y e h k (here p) =
      let same : x ≡ y = unwrapped (sym there ∙ sym (ap (slice_get terms) p) ∙ h) in
      let told : Some d ≡ e = unwrapped (sym (set_here ds number (Some d) within) ∙ sym (ap (slice_get (slice_set ds number (Some d))) p) ∙ k) in
      let row : number < length rows = (let w = slice_get_within terms number x there in let z = are.size in omega (arith, w, z)) in
      ap (slice_get (slice_set rows number (r.Defined (Some d.underlying.0)))) p ∙ set_here rows number (r.Defined (Some d.underlying.0)) row
      ∙ ap Some (sym (row_told x d defined) ∙ ap (λ z. row_of z (Some d)) same ∙ ap (row_of y) told)

  pub laid_define : AreLaid terms (slice_set ds number (Some d)) (slice_set rows number (r.Defined (Some d.underlying.0)))
  laid_define = record {
    size = set_size rows number (r.Defined (Some d.underlying.0)) ∙ are.size;
    each = λ n y e h k. define_by n y e h k (where_is n number);
  }

-- ---- definitions less

kept_none : (x : TermOf TypeRef) (d : Option (DefinitionOf TypeRef)) → kept (row_of x d) false ≡ row_of x None
kept_none (t.Defined path name local) None = refl
kept_none (t.Defined path name local) (Some d) = refl
kept_none _ d = refl

kept_some : (x : TermOf TypeRef) (d : Option (DefinitionOf TypeRef)) → kept (row_of x d) true ≡ row_of x d
kept_some (t.Defined path name local) None = refl
kept_some (t.Defined path name local) (Some d) = refl
kept_some _ d = refl

kept_undefined : (x : TermOf TypeRef) (b : Bool) → kept (row_of x None) b ≡ row_of x None
kept_undefined x true = kept_some x None
kept_undefined x false = kept_none x None

module _ (terms : Terms) (ds less : Definitions) (rows fewer : List Row) (are : AreLaid terms ds rows) (counted : length ds ≡ length terms) (size : length fewer ≡ length rows)
    (each : (n : ℕ) (x : TermOf TypeRef) → slice_get terms n ≡ Some x → (b : Bool) × (slice_get less n ≡ (if b then Some None else slice_get ds n)))
    (rows_kept : (n : ℕ) (row : Row) → slice_get rows n ≡ Some row → slice_get fewer n ≡ Some (kept row (stands (slice_get less n)))) where
  forget_row : (x : TermOf TypeRef) (old new : Option (DefinitionOf TypeRef)) (b : Bool) → (if b then Some None else Some old) ≡ Some new → kept (row_of x old) (is_some new) ≡ row_of x new
  forget_row x old new true e = let k : None ≡ new = unwrapped e in subst (λ z. kept (row_of x old) (is_some z) ≡ row_of x z) k (kept_none x old)
  forget_row x None new false e = let k : None ≡ new = unwrapped e in subst (λ z. kept (row_of x None) (is_some z) ≡ row_of x z) k (kept_none x None)
  forget_row x (Some d) new false e = let k : Some d ≡ new = unwrapped e in subst (λ z. kept (row_of x (Some d)) (is_some z) ≡ row_of x z) k (kept_some x (Some d))

  pub laid_less : AreLaid terms less fewer
  laid_less = record {
    size = size ∙ are.size;
    each = λ n x new h k.
        let w = slice_get_within terms n x h in
        let old = some_at ds n (omega (arith, w, counted)) in
        let so = each n x h in
        let told : (if so.0 then Some None else Some old.0) ≡ Some new = ap (λ z. if so.0 then Some None else z) (sym old.1) ∙ sym so.1 ∙ k in
        rows_kept n (row_of x old.0) (are.each n x old.0 h old.1) ∙ ap (λ z. Some (kept (row_of x old.0) (stands z))) k ∙ ap Some (forget_row x old.0 new so.0 told);
  }

module _ (path : List ℕ) (terms : Terms) (ds less : Definitions) (rows fewer : List Row) (are : AreLaid terms ds rows) (counted : length ds ≡ length terms) (size : length fewer ≡ length rows)
    (each : (n : ℕ) (x : TermOf TypeRef) → slice_get terms n ≡ Some x → slice_get less n ≡ unless_of_path path x (slice_get ds n))
    (rows_kept : (n : ℕ) (row : Row) → slice_get rows n ≡ Some row → slice_get fewer n ≡ Some (kept row (stands (slice_get less n)))) where
  pub laid_forget : AreLaid terms less fewer
  laid_forget = laid_less terms ds less rows fewer are counted size (λ n x h. (is_of_path path x, each n x h)) rows_kept

module _ (terms : Terms) (ds less : Definitions) (number : ℕ) (rows fewer : List Row) (are : AreLaid terms ds rows) (counted : length ds ≡ length terms) (size : length fewer ≡ length rows)
    (set : less ≡ slice_set ds number None)
    (rows_kept : (n : ℕ) (row : Row) → slice_get rows n ≡ Some row → slice_get fewer n ≡ Some (kept row (stands (slice_get less n)))) where
  retracted_at : (n : ℕ) (x : TermOf TypeRef) → slice_get terms n ≡ Some x → Same n number → (b : Bool) × (slice_get less n ≡ (if b then Some None else slice_get ds n))
  retracted_at n x h (here e) =
      let w = slice_get_within terms n x h in
      (true, ap (λ l. slice_get l n) set ∙ ap (slice_get (slice_set ds number None)) e ∙ set_here ds number None (omega (arith, w, counted, e)))
  retracted_at n x h (elsewhere f) = (false, ap (λ l. slice_get l n) set ∙ set_elsewhere ds number None n f)

  pub laid_retract : AreLaid terms less fewer
  laid_retract = laid_less terms ds less rows fewer are counted size (λ n x h. retracted_at n x h (where_is n number)) rows_kept
