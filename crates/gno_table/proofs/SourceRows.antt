-- The sources among the rows of packages are those of the packages.
use Rattle.std.proofs.Common.{◌≡◌, ℕ, zero, suc, ◌+◌, ◌<◌, ◌^◌, List, [], ◌∷◌, ◌++◌, ap, ◌∙◌, refl, arith, sym, subst, length, length-append, take, drop, ◌≤◌}
use Rattle.std.specs.Prelude.{Option, Some, None, Bool, true, false, cond, ◌&&◌, nat_eq, nat_le, nat_lt, slice_get, IsSome}
use Rattle.std.specs.Int.{from_be_bytes, w64}
use Rattle.std.specs.List.{AllByRecursion, position_or_len}
use Rattle.std.specs.Str.{bytes_eq}
use Rattle.std.proofs.lemmas.Bool.Decides.{nat_tests}
use Rattle.std.proofs.lemmas.Slice.Eq.{bytes_eq-Decides}
use Rattle.std.proofs.lemmas.Nat.{from_be_bytes-to_be_bytes_8}
use Rattle.gno_base.specs.declared.names.NamedText.{NamedText}
use Rattle.gno_port.specs.declared.keeper.Change.{Change}
use Rattle.gno_port.specs.Tables.{latest}
use Rattle.gno_items.specs.declared.memory.Package.{Package}
use Rattle.gno_items.specs.Memory.{package_of}
use Rattle.gno_items.specs.Well.{has_no_zero, IsWell, IsWellPackage}
use Rattle.gno_table.specs.declared.sources.Source.{Source}
use Rattle.gno_table.specs.Rows.{eight_bytes, row, source_key, source_row}
use Rattle.gno_table.specs.Sources.{file_in, first_zero, last_source, parted, path_in, source_behind, source_by, source_of, source_or, source_with, word_at}
use Rattle.gno_table.specs.Loading.{AreRowsOf}
use Rattle.gno_table.specs.Reading.{or_before}
use Rattle.gno_table.proofs.Lookups.{latest_source, source_at, source_value}
use Rattle.gno_table.proofs.OneMemory.{eight_bytes_long}
use Rattle.gno_table.proofs.RisingRows.{Leaves, all_leave, same_key}

and_true : (a b : Bool) → a && b ≡ true → (a ≡ true) × (b ≡ true)
and_true true b e = (refl, e)
and_true false b e = cc

above_zero : (b : ℕ) → nat_lt 0 b ≡ true → nat_eq b 0 ≡ false
above_zero b h = grind (h, arith, nat_tests)

zero_at : (name text : List ℕ) → has_no_zero name ≡ true → position_or_len (λ b. nat_eq b 0) (name ++ 0 ∷ text) ≡ length name
zero_at [] text h = refl
zero_at (b ∷ bs) text h =
    let t = and_true (nat_lt 0 b) (has_no_zero bs) h in
    rw (above_zero b t.0) (ap (λ (n : ℕ). 1 + n) (zero_at bs text t.1) ∙ omega arith)

fits : (name text : List ℕ) → nat_lt (length name) (length (name ++ 0 ∷ text)) ≡ true
fits name text = let t : length name < length (name ++ 0 ∷ text) = omega (arith, length-append {A = ℕ}) in grind (t, arith, nat_tests)

first_zero_at : (name text : List ℕ) → has_no_zero name ≡ true → first_zero (name ++ 0 ∷ text) ≡ Some (length name)
first_zero_at name text h =
    ap (λ n. cond (nat_lt n (length (name ++ 0 ∷ text))) (Some n) None) (zero_at name text h)
    ∙ ap (λ t. cond t (Some (length name)) None) (fits name text)

front : (name : List ℕ) (rest : List ℕ) → take (length name) (name ++ rest) ≡ name
front [] rest = refl
front (b ∷ bs) rest = ap (λ t. b ∷ t) (front bs rest)

behind : (name : List ℕ) (text : List ℕ) → drop (length name + 1) (name ++ 0 ∷ text) ≡ text
behind [] text = refl
behind (b ∷ bs) text = ap (λ (n : ℕ). drop n (b ∷ (bs ++ 0 ∷ text))) {x = length (b ∷ bs) + 1} {y = suc (length bs + 1)} (omega arith) ∙ behind bs text

file_back : (name text : List ℕ) → has_no_zero name ≡ true → file_in (name ++ 0 ∷ text) ≡ Some (record { name = name; text = text })
unfolding file_in
file_back name text h =
    ap (parted (name ++ 0 ∷ text)) (first_zero_at name text h)
    ∙ (λ i. Some (record { name = front name (0 ∷ text) i; text = behind name text i }))

eight_more : (bytes rest : List ℕ) → length bytes ≡ 8 → nat_le 8 (length (bytes ++ rest)) ≡ true
eight_more bytes rest h = let t : 8 ≤ length (bytes ++ rest) = omega (arith, h, length-append {A = ℕ}) in grind (t, arith, nat_tests)

pub word_back : (n : ℕ) (rest : List ℕ) → n < 2 ^ 64 → word_at (eight_bytes n ++ rest) ≡ Some (n, rest)
unfolding word_at eight_bytes
word_back n rest h =
    ap (λ t. cond t (Some (from_be_bytes w64 (take 8 (eight_bytes n ++ rest)), drop 8 (eight_bytes n ++ rest))) None) (eight_more (eight_bytes n) rest (eight_bytes_long n))
    ∙ ap {A = ℕ} {B = Option (ℕ × List ℕ)} (λ m. Some (m, rest)) (from_be_bytes-to_be_bytes_8 n h)

abbrev pub source_from : ℕ → Package → Source
source_from order p = record { order = order; path = p.path; file = p.source }

pub source_back : (order : ℕ) (p : Package) → order < 2 ^ 64 → has_no_zero p.source.name ≡ true → source_of (source_row order p) ≡ Some (source_from order p)
source_back order p few named =
    ap (source_behind p.path) (word_back order (p.source.name ++ 0 ∷ p.source.text) few)
    ∙ ap (source_with p.path order) (file_back p.source.name p.source.text named)

-- the source of the package of a place
abbrev pub numbered : ℕ → Option Package → Option Source
numbered order None = None
numbered order (Some p) = Some (source_from order p)

abbrev pub IsRight : List Package → Change → Type 0
IsRight memory r = (s : Source) → source_of r ≡ Some s → numbered s.order (slice_get memory s.order) ≡ Some s

same_number : (a b : ℕ) → nat_eq a b ≡ true → a ≡ b
same_number a b h = grind (h, arith, nat_tests)

-- where each row is right, no other source is found
only : (memory : List Package) (rows : List Change) (order : ℕ) (before : Option Source) → AllByRecursion (IsRight memory) rows →
    ((s : Source) → before ≡ Some s → numbered order (slice_get memory order) ≡ Some s) → (s : Source) → last_source rows order before ≡ Some s → numbered order (slice_get memory order) ≡ Some s
only memory [] order before h b s e = b s e
only memory (r ∷ rs) order before h b s e =
    only memory rs order (source_or (source_of r) order before) h.1
    (elim (source_of r) as (λ o. source_of r ≡ o → (s : Source) → source_or o order before ≡ Some s → numbered order (slice_get memory order) ≡ Some s) [
      | None ↦ λ is. b
      | Some t ↦ λ is. elim (nat_eq order t.order) as (λ q. nat_eq order t.order ≡ q → (s : Source) → cond q (Some t) before ≡ Some s → numbered order (slice_get memory order) ≡ Some s) [
        | true ↦ λ same s e. subst (λ (n : ℕ). numbered n (slice_get memory n) ≡ Some s) (sym (same_number order t.order same)) (h.0 t is ∙ e)
        | false ↦ λ same. b
      ] refl
    ] refl) s e

some_kept : (o : Option Source) (order : ℕ) (before : Option Source) → IsSome before → IsSome (source_or o order before)
some_kept None order before h = h
some_kept (Some s) order before h = elim (nat_eq order s.order) as (λ t. IsSome (cond t (Some s) before)) [ true ↦ refl | false ↦ h ]

same_order : (n : ℕ) → nat_eq n n ≡ true
same_order n = grind (arith, nat_tests)

-- a row that stands among the rows has its source found
found : (rows : List Change) (key value : List ℕ) (s : Source) → source_of (row key value) ≡ Some s → (before : Option (List ℕ)) (held : Option Source) → (before ≡ Some value → IsSome held) →
    latest rows key before ≡ Some value → IsSome (last_source rows s.order held)
found [] key value s is before held b e = b e
found (r ∷ rs) key value s is before held b e =
    elim (bytes_eq key r.key) as (λ t. bytes_eq key r.key ≡ t → latest rs key (cond t r.value before) ≡ Some value → IsSome (last_source rs s.order (source_or (source_of r) s.order held))) [
      | true ↦ λ same. found rs key value s is r.value (source_or (source_of r) s.order held) (λ v.
          let keys : key ≡ r.key = (bytes_eq-Decides key r.key).0 same in
          let here : source_of r ≡ Some s = (λ i. source_by (path_in (sym keys i)) (v i)) ∙ is in
          subst (λ (o : Option Source). IsSome (source_or o s.order held)) (sym here) (ap (λ t. is_some_source (cond t (Some s) held)) (same_order s.order)))
      | false ↦ λ same. found rs key value s is before (source_or (source_of r) s.order held) (λ v. some_kept (source_of r) s.order held (b v))
    ] refl e
  where
    is_some_source : Option Source → Bool
    is_some_source None = false
    is_some_source (Some s) = true

-- what a source's row is
key_of_source : (r : Change) (s : Source) → source_of r ≡ Some s → (r.key ≡ source_key s.path) × IsSome r.value
key_of_source r s e = by_key r.key r.value e
  where
    by_file : (path rest : List ℕ) (order : ℕ) (o : Option NamedText) → source_with path order o ≡ Some s → path ≡ s.path
    by_file path rest order None e = cc
    by_file path rest order (Some file) e = cc

    by_word : (path : List ℕ) (o : Option (ℕ × List ℕ)) → source_behind path o ≡ Some s → path ≡ s.path
    by_word path None e = cc
    by_word path (Some word) e = by_file path word.1 word.0 (file_in word.1) e

    by_path : (path : List ℕ) (value : Option (List ℕ)) → source_by (Some path) value ≡ Some s → (83 ∷ path ≡ source_key s.path) × IsSome value
    by_path path None e = cc
    by_path path (Some value) e = (ap source_key (by_word path (word_at value) e), refl)

    by_key : (key : List ℕ) (value : Option (List ℕ)) → source_by (path_in key) value ≡ Some s → (key ≡ source_key s.path) × IsSome value
    by_key [] value e = cc
    by_key (b ∷ path) value e =
        elim (nat_eq b 83) as (λ t. nat_eq b 83 ≡ t → source_by (cond t (Some path) None) value ≡ Some s → (b ∷ path ≡ source_key s.path) × IsSome value) [
          | true ↦ λ is e. let t = by_path path value e in (ap (λ (n : ℕ). n ∷ path) (same_number b 83 is) ∙ t.0, t.1)
          | false ↦ λ is e. cc
        ] refl e

-- the package of a source's key, and its place
placed : (ps : List Package) (order : ℕ) (path value : List ℕ) → source_at ps order path ≡ Some value →
    (i : ℕ) × (p : Package) × ((slice_get ps i ≡ Some p) × (p.path ≡ path) × (value ≡ source_value (order + i) p))
placed [] order path value e = cc
placed (p ∷ ps) order path value e =
    elim (bytes_eq p.path path) as (λ t. bytes_eq p.path path ≡ t → cond t (Some (source_value order p)) (source_at ps (order + 1) path) ≡ Some value →
    (i : ℕ) × (q : Package) × ((slice_get (p ∷ ps) i ≡ Some q) × (q.path ≡ path) × (value ≡ source_value (order + i) q))) [
      | true ↦ λ is e. (zero, p, (refl, (bytes_eq-Decides p.path path).0 is, sym (some_value _ _ e) ∙ ap (λ (n : ℕ). source_value n p) (omega arith)))
      | false ↦ λ is e.
          let t = placed ps (order + 1) path value e in
          (suc t.0, t.1, (t.2.0, t.2.1, t.2.2 ∙ ap (λ (n : ℕ). source_value n t.1) {x = order + 1 + t.0} {y = order + suc t.0} (omega arith)))
    ] refl e
  where
    some_value : (a b : List ℕ) → Some a ≡ Some b → a ≡ b
    some_value a b e = cc

pub within : (ps : List Package) (i : ℕ) (p : Package) → slice_get ps i ≡ Some p → i < length ps
within [] i p e = cc
within (q ∷ qs) zero p e = omega arith
within (q ∷ qs) (suc i) p e = omega (arith, within qs i p e)

pub well_at : (ps : List Package) (i : ℕ) (p : Package) → IsWell ps → slice_get ps i ≡ Some p → IsWellPackage p
well_at [] i p w e = cc
well_at (q ∷ qs) zero p w e = let same : q ≡ p = cc in subst (λ (x : Package). IsWellPackage x) same w.0
well_at (q ∷ qs) (suc i) p w e = well_at qs i p w.2 e

some_package : (ps : List Package) (path : List ℕ) (p : Package) → package_of ps path ≡ None → package_of ps path ≡ Some p → ⊥
some_package ps path p e f = let t : None ≡ Some p = sym e ∙ f in cc

-- the package of a place is that of its path
pub package_at : (ps : List Package) (i : ℕ) (p : Package) → IsWell ps → slice_get ps i ≡ Some p → package_of ps p.path ≡ Some p
package_at [] i p w e = cc
package_at (q ∷ qs) zero p w e =
    let same : q ≡ p = cc in
    subst (λ (x : Package). package_of (q ∷ qs) x.path ≡ Some x) same (ap (λ t. cond t (Some q) (package_of qs q.path)) (same_key q.path))
package_at (q ∷ qs) (suc i) p w e =
    let there : package_of qs p.path ≡ Some p = package_at qs i p w.2 e in
    elim (bytes_eq q.path p.path) as (λ t. bytes_eq q.path p.path ≡ t → cond t (Some q) (package_of qs p.path) ≡ Some p) [
      | true ↦ λ is. absurd (some_package qs p.path p (subst (λ (x : List ℕ). package_of qs x ≡ None) ((bytes_eq-Decides q.path p.path).0 is) w.1) there)
      | false ↦ λ is. there
    ] refl

source_here : (ps : List Package) (order i : ℕ) (p : Package) → IsWell ps → slice_get ps i ≡ Some p → source_at ps order p.path ≡ Some (source_value (order + i) p)
source_here [] order i p w e = cc
source_here (q ∷ qs) order zero p w e =
    let same : q ≡ p = cc in
    subst (λ (x : Package). source_at (q ∷ qs) order x.path ≡ Some (source_value (order + zero) x)) same
    (ap (λ t. cond t (Some (source_value order q)) (source_at qs (order + 1) q.path)) (same_key q.path) ∙ ap (λ (n : ℕ). Some (source_value n q)) {x = order} {y = order + zero} (omega arith))
source_here (q ∷ qs) order (suc i) p w e =
    let there : source_at qs (order + 1) p.path ≡ Some (source_value (order + 1 + i) p) = source_here qs (order + 1) i p w.2 e in
    elim (bytes_eq q.path p.path) as (λ t. bytes_eq q.path p.path ≡ t → cond t (Some (source_value order q)) (source_at qs (order + 1) p.path) ≡ Some (source_value (order + suc i) p)) [
      | true ↦ λ is. absurd (some_package qs p.path p (subst (λ (x : List ℕ). package_of qs x ≡ None) ((bytes_eq-Decides q.path p.path).0 is) w.1) (package_at qs i p w.2 e))
      | false ↦ λ is. there ∙ ap (λ (n : ℕ). Some (source_value n p)) {x = order + 1 + i} {y = order + suc i} (omega arith)
    ] refl

or_none : (o : Option (List ℕ)) → or_before o None ≡ o
or_none None = refl
or_none (Some v) = refl

-- what stands at the key of a source
at_source : (rows : List Change) (memory : List Package) (path : List ℕ) → AreRowsOf rows memory → latest rows (source_key path) None ≡ source_at memory 0 path
at_source rows memory path a = a.same (source_key path) ∙ latest_source memory 0 path None a.well ∙ or_none (source_at memory 0 path)

value_of : (o : Option (List ℕ)) → IsSome o → (value : List ℕ) × (o ≡ Some value)
value_of None h = cc
value_of (Some value) h = (value, refl)

right : (rows : List Change) (memory : List Package) (r : Change) → AreRowsOf rows memory → Leaves rows r → IsRight memory r
right rows memory r a leaves s e =
    let k = key_of_source r s e in
    let v = value_of r.value k.1 in
    let at : source_at memory 0 s.path ≡ Some v.0 = sym (at_source rows memory s.path a) ∙ ap (λ (key : List ℕ). latest rows key None) (sym k.0) ∙ leaves None ∙ v.1 in
    let p = placed memory 0 s.path v.0 at in
    let value : v.0 ≡ source_value p.0 p.1 = p.2.2 ∙ ap (λ (n : ℕ). source_value n p.1) (omega arith) in
    let few = within memory p.0 p.1 p.2.0 in
    let well = well_at memory p.0 p.1 a.well p.2.0 in
    let here : source_of r ≡ source_of (source_row p.0 p.1) = λ i. source_by (path_in ((k.0 ∙ ap source_key (sym p.2.1)) i)) ((v.1 ∙ ap Some value) i) in
    let is : source_from p.0 p.1 ≡ s = one_source _ _ (sym (here ∙ source_back p.0 p.1 (omega (arith, few, a.few)) well.named) ∙ e) in
    subst (λ (x : Source). numbered x.order (slice_get memory x.order) ≡ Some x) is (ap (numbered p.0) p.2.0)
  where
    one_source : (x y : Source) → Some x ≡ Some y → x ≡ y
    one_source x y e = cc

all_right : (rows es : List Change) (memory : List Package) → AreRowsOf rows memory → AllByRecursion (Leaves rows) es → AllByRecursion (IsRight memory) es
all_right rows [] memory a h = tt
all_right rows (e ∷ es) memory a h = (right rows memory e a h.0, all_right rows es memory a h.1)

none_or : (o : Option Source) → ((s : Source) → o ≡ Some s → ⊥) → o ≡ None
none_or None h = refl
none_or (Some s) h = absurd (h s refl)

some_of : (o : Option Source) → IsSome o → (s : Source) × (o ≡ Some s)
some_of None h = cc
some_of (Some s) h = (s, refl)

-- the sources among the rows are those of the packages
pub sources_are : (rows : List Change) (memory : List Package) (order : ℕ) → AreRowsOf rows memory → last_source rows order None ≡ numbered order (slice_get memory order)
sources_are rows memory order a =
    let no_other : (s : Source) → last_source rows order None ≡ Some s → numbered order (slice_get memory order) ≡ Some s =
    only memory rows order None (all_right rows rows memory a (all_leave rows a.rising)) (λ s e. cc) in
    elim (slice_get memory order) as (λ o. slice_get memory order ≡ o → last_source rows order None ≡ numbered order o) [
      | None ↦ λ is. none_or (last_source rows order None) (λ s e. none_some s (sym (no_other s e) ∙ ap (numbered order) is))
      | Some p ↦ λ is.
          let few = within memory order p is in
          let well = well_at memory order p a.well is in
          let stands : latest rows (source_key p.path) None ≡ Some (source_value order p) = at_source rows memory p.path a ∙ source_here memory 0 order p a.well is ∙ ap (λ (n : ℕ). Some (source_value n p)) {x = 0 + order} {y = order} (omega arith) in
          let s = some_of (last_source rows order None) (found rows (source_key p.path) (source_value order p) (source_from order p) (source_back order p (omega (arith, few, a.few)) well.named) None None (λ e. cc) stands) in
          s.1 ∙ sym (no_other s.0 s.1) ∙ ap (numbered order) is
    ] refl
  where
    none_some : (s : Source) → Some s ≡ None → ⊥
    none_some s e = cc
