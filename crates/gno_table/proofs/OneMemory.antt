-- A table of the first format has one memory.
use Rattle.std.proofs.Common.{◌≡◌, ℕ, suc, ◌+◌, ◌<◌, ◌≤◌, ◌^◌, List, [], ◌∷◌, ◌++◌, ap, ◌∙◌, refl, arith, sym, length, subst, to_z, of_z, inl, inr}
use Rattle.std.specs.Prelude.{Option, Some, None, Bool, true, false, not, cond, ◌||◌, ◌&&◌}
use Rattle.std.specs.Int.{cast_unsigned, w64, from_be_bytes}
use Rattle.std.specs.Str.{bytes_eq}
use Rattle.std.proofs.lemmas.Slice.Eq.{bytes_eq-Decides}
use Rattle.std.proofs.lemmas.Nat.{from_be_bytes-to_be_bytes_8}
use Rattle.std.proofs.lemmas.Int.{ints}
use Rattle.std.proofs.lemmas.List.{append_cancel_left}
use Rattle.gno_base.specs.Number.{Number}
use Rattle.gno_machine.specs.Ints.{AreInts, IsInt}
use Rattle.gno_first.specs.declared.tree.FirstFile.{FirstFile}
use Rattle.gno_first.specs.Names.{is_among}
use Rattle.gno_first.specs.Lawful.{are_distinct}
use Rattle.gno_reading.specs.Readings.{IsReading}
use Rattle.gno_reading.specs.declared.reading.Reading.TheVariants.{First}
use Rattle.gno_reading.proofs.OneReading.{one_first}
use Rattle.gno_items.specs.declared.memory.Package.{Package}
use Rattle.gno_items.specs.Memory.{package_of}
use Rattle.gno_items.specs.Well.{has_no_zero, IsWell, IsWellPackage}
use Rattle.gno_port.specs.Tables.{Table, latest}
use Rattle.gno_port.proofs.TableLemmas.{latest-append}
use Rattle.gno_table.specs.Rows.{all_rows, eight_bytes, package_rows, rows_from, source_key, variable_key, variable_rows}
use Rattle.gno_table.specs.FirstFormat.{Holds, IsFirst}
use Rattle.gno_table.proofs.Lookups.{latest_source, latest_variable, no_source, source_at, source_value, value_named, variable_in}
use Rattle.gno_table.specs.Reading.{or_before}
use Rattle.gno_table.proofs.Zeros.{no_zero_same, realm_no_zero}

pub some_one : {A : Type 0} (a b : A) → Some a ≡ Some b → a ≡ b
some_one a b e = cc

among_front : (x : List ℕ) (xs b : List (List ℕ)) → is_among (xs ++ b) x ≡ false → is_among xs x ≡ false
among_front x [] b e = refl
among_front x (y ∷ ys) b e = elim (bytes_eq x y) as (λ t. t || is_among (ys ++ b) x ≡ false → t || is_among ys x ≡ false) [ true ↦ λ h. h | false ↦ λ h. among_front x ys b h ] e

-- eight bytes tell the number
pub eight_bytes_one : (m n : ℕ) → m < 2 ^ 64 → n < 2 ^ 64 → eight_bytes m ≡ eight_bytes n → m ≡ n
unfolding eight_bytes
eight_bytes_one m n hm hn e = sym (from_be_bytes-to_be_bytes_8 m hm) ∙ ap (from_be_bytes w64) e ∙ from_be_bytes-to_be_bytes_8 n hn

pub eight_bytes_long : (n : ℕ) → length (eight_bytes n) ≡ 8
unfolding eight_bytes
eight_bytes_long n = refl

-- an int is told by its 64 bits
pub int_one : (a b : Number) → IsInt a → IsInt b → cast_unsigned w64 a.value ≡ cast_unsigned w64 b.value → a ≡ b
int_one a b ia ib e =
    let va : to_z w64 (of_z w64 a.value) ≡ a.value = omega (arith, ints) in
    let vb : to_z w64 (of_z w64 b.value) ≡ b.value = omega (arith, ints) in
    let v : a.value ≡ b.value = sym va ∙ ap (to_z w64) e ∙ vb in
    let k : a.kind ≡ b.kind = ia.0 ∙ sym ib.0 in
    λ i. record { kind = k i; value = v i }

pub not_named : (names : List (List ℕ)) (values : List Number) (name : List ℕ) (before : Option (List ℕ)) → is_among names name ≡ false → value_named names values name before ≡ before
not_named [] values name before e = refl
not_named (n ∷ ns) [] name before e = refl
not_named (n ∷ ns) (v ∷ vs) name before e =
    elim (bytes_eq name n) as (λ t. t || is_among ns name ≡ false → value_named ns vs name (cond t (Some (eight_bytes (cast_unsigned w64 v.value))) before) ≡ before)
    [ true ↦ λ h. cc | false ↦ λ h. not_named ns vs name before h ] e

same_name : (name : List ℕ) → bytes_eq name name ≡ true
same_name name = (bytes_eq-Decides name name).1 refl

pub distinct_head : (a b : Bool) → not a && b ≡ true → (a ≡ false) × (b ≡ true)
distinct_head true b e = cc
distinct_head false b e = (refl, e)

-- the values are told by the rows of the variables
pub values_one : (names : List (List ℕ)) (vs ws : List Number) → length vs ≡ length names → length ws ≡ length names → AreInts vs → AreInts ws → are_distinct names ≡ true →
    ((name : List ℕ) → value_named names vs name None ≡ value_named names ws name None) → vs ≡ ws
values_one [] [] [] lv lw iv iw d h = refl
values_one [] [] (w ∷ ws) lv lw iv iw d h = absurd (omega (arith, lw))
values_one [] (v ∷ vs) ws lv lw iv iw d h = absurd (omega (arith, lv))
values_one (n ∷ ns) [] ws lv lw iv iw d h = absurd (omega (arith, lv))
values_one (n ∷ ns) (v ∷ vs) [] lv lw iv iw d h = absurd (omega (arith, lw))
values_one (n ∷ ns) (v ∷ vs) (w ∷ ws) lv lw iv iw d h =
    let apart = distinct_head (is_among ns n) (are_distinct ns) d in
    let word : Number → Option (List ℕ) = λ x. Some (eight_bytes (cast_unsigned w64 x.value)) in
    let here : word v ≡ word w =
    sym (ap (λ b. value_named ns vs n (cond b (word v) None)) (same_name n) ∙ not_named ns vs n (word v) apart.0) ∙ h n
    ∙ (ap (λ b. value_named ns ws n (cond b (word w) None)) (same_name n) ∙ not_named ns ws n (word w) apart.0) in
    let bytes : eight_bytes (cast_unsigned w64 v.value) ≡ eight_bytes (cast_unsigned w64 w.value) = some_one _ _ here in
    let first : v ≡ w = int_one v w iv.0 iw.0 (eight_bytes_one _ _ (omega (arith, ints)) (omega (arith, ints)) bytes) in
    let rest : (name : List ℕ) → value_named ns vs name None ≡ value_named ns ws name None = λ name.
    elim (bytes_eq name n) as (λ t. bytes_eq name n ≡ t → value_named ns vs name (cond t (word v) None) ≡ value_named ns ws name (cond t (word w) None) → value_named ns vs name None ≡ value_named ns ws name None) [
      | true ↦ λ is e.
          let same : n ≡ name = sym ((bytes_eq-Decides name n).0 is) in
          let none : is_among ns name ≡ false = subst (λ (x : List ℕ). is_among ns x ≡ false) same apart.0 in
          not_named ns vs name None none ∙ sym (not_named ns ws name None none)
      | false ↦ λ is e. e
    ] refl (h name) in
    let tail : vs ≡ ws = values_one ns vs ws (omega (arith, lv)) (omega (arith, lw)) iv.1 iw.1 apart.1 rest in
    λ i. first i ∷ tail i

append_split : (a b x y : List ℕ) → length a ≡ length b → a ++ x ≡ b ++ y → (a ≡ b) × (x ≡ y)
append_split [] [] x y l e = (refl, e)
append_split [] (b ∷ bs) x y l e = absurd (omega (arith, l))
append_split (a ∷ as') [] x y l e = absurd (omega (arith, l))
append_split (a ∷ as') (b ∷ bs) x y l e =
    let heads : a ≡ b = cc in
    let tails : as' ++ x ≡ bs ++ y = cc in
    let t = append_split as' bs x y (omega (arith, l)) tails in
    ((λ i. heads i ∷ t.0 i), t.1)

-- the order of a source is told by its row, and so is the source
pub order_one : (i j : ℕ) (p q : Package) → i < 2 ^ 64 → j < 2 ^ 64 → source_value i p ≡ source_value j q → (i ≡ j) × (p.source.name ++ 0 ∷ p.source.text ≡ q.source.name ++ 0 ∷ q.source.text)
order_one i j p q hi hj e =
    let t = append_split (eight_bytes i) (eight_bytes j) _ _ (eight_bytes_long i ∙ sym (eight_bytes_long j)) e in
    (eight_bytes_one i j hi hj t.0, t.1)

named_one : (a b x y : List ℕ) → has_no_zero a ≡ true → has_no_zero b ≡ true → a ++ 0 ∷ x ≡ b ++ 0 ∷ y → (a ≡ b) × (x ≡ y)
named_one a b x y p q e =
    let same = no_zero_same a b x y p q e in
    let behind : 0 ∷ x ≡ 0 ∷ y = append_cancel_left b (0 ∷ x) (0 ∷ y) (subst (λ (t : List ℕ). t ++ 0 ∷ x ≡ b ++ 0 ∷ y) same e) in
    let texts : x ≡ y = cc in
    (same, texts)

later_order : (qs : List Package) (order : ℕ) (path value : List ℕ) → source_at qs order path ≡ Some value → (i : ℕ) × (q : Package) × ((order ≤ i) × (i < order + length qs) × (value ≡ source_value i q))
later_order [] order path value e = cc
later_order (q ∷ qs) order path value e =
    elim (bytes_eq q.path path) as (λ t. cond t (Some (source_value order q)) (source_at qs (order + 1) path) ≡ Some value → (i : ℕ) × (q : Package) × ((order ≤ i) × (i < order + suc (length qs)) × (value ≡ source_value i q))) [
      | true ↦ λ h. (order, q, (omega arith, omega arith, sym (some_one _ _ h)))
      | false ↦ λ h. let t = later_order qs (order + 1) path value h in (t.0, t.1, (omega (arith, t.2.0), omega (arith, t.2.1), t.2.2))
    ] e

pub distinct_front : (a b : List (List ℕ)) → are_distinct (a ++ b) ≡ true → are_distinct a ≡ true
distinct_front [] b e = refl
distinct_front (x ∷ xs) b e =
    let t = distinct_head (is_among (xs ++ b) x) (are_distinct (xs ++ b)) e in
    rw (among_front x xs b t.0) (distinct_front xs b t.1)

-- packages that are told by one path's rows are one
pub package_one : (p q : Package) → IsWellPackage p → IsWellPackage q → p.path ≡ q.path → p.source.name ++ 0 ∷ p.source.text ≡ q.source.name ++ 0 ∷ q.source.text →
    ((name : List ℕ) → value_named p.file.variables p.values name None ≡ value_named q.file.variables q.values name None) → p ≡ q
package_one p q wp wq paths sources values =
    let named = named_one p.source.name q.source.name p.source.text q.source.text wp.named wq.named sources in
    let files : p.file ≡ q.file = one_first p.source.text p.file q.file wp.reads (subst (λ (text : List ℕ). IsReading text (First q.file)) (sym named.1) wq.reads) in
    let names : p.file.variables ≡ q.file.variables = ap (λ (f : FirstFile). f.variables) files in
    let count : length p.values ≡ length q.file.variables = wp.count ∙ ap length names in
    let told : (name : List ℕ) → value_named q.file.variables p.values name None ≡ value_named q.file.variables q.values name None =
    λ name. ap (λ (ns : List (List ℕ)). value_named ns p.values name None) (sym names) ∙ values name in
    let vals : p.values ≡ q.values = values_one q.file.variables p.values q.values count wq.count wp.ints wq.ints (distinct_front q.file.variables _ wq.lawful.differ) told in
    λ i. record { path = paths i; source = record { name = named.0 i; text = named.1 i }; file = files i; values = vals i }

no_values : (ps : List Package) (path : List ℕ) → package_of ps path ≡ None → (name : List ℕ) → variable_in (package_of ps path) name None ≡ None
no_values ps path e name = rw e refl

pub lists_one : (order : ℕ) (ps qs : List Package) → IsWell ps → IsWell qs → order + length ps < 2 ^ 64 → order + length qs < 2 ^ 64 →
    ((path : List ℕ) → source_at ps order path ≡ source_at qs order path) →
    ((path name : List ℕ) → has_no_zero path ≡ true → variable_in (package_of ps path) name None ≡ variable_in (package_of qs path) name None) → ps ≡ qs
lists_one order [] [] wp wq fp fq s v = refl
lists_one order [] (q ∷ qs) wp wq fp fq s v =
    let h : None ≡ Some (source_value order q) = s q.path ∙ ap (λ b. cond b (Some (source_value order q)) (source_at qs (order + 1) q.path)) (same_name q.path) in cc
lists_one order (p ∷ ps) [] wp wq fp fq s v =
    let h : None ≡ Some (source_value order p) = sym (s p.path) ∙ ap (λ b. cond b (Some (source_value order p)) (source_at ps (order + 1) p.path)) (same_name p.path) in cc
lists_one order (p ∷ ps) (q ∷ qs) wp wq fp fq s v =
    let mine : Some (source_value order p) ≡ cond (bytes_eq q.path p.path) (Some (source_value order q)) (source_at qs (order + 1) p.path) =
    sym (ap (λ b. cond b (Some (source_value order p)) (source_at ps (order + 1) p.path)) (same_name p.path)) ∙ s p.path in
    let both : (q.path ≡ p.path) × (source_value order p ≡ source_value order q) =
    elim (bytes_eq q.path p.path) as (λ t. bytes_eq q.path p.path ≡ t → Some (source_value order p) ≡ cond t (Some (source_value order q)) (source_at qs (order + 1) p.path) → (q.path ≡ p.path) × (source_value order p ≡ source_value order q)) [
      | true ↦ λ is e. ((bytes_eq-Decides q.path p.path).0 is, some_one _ _ e)
      | false ↦ λ is e.
          let found = later_order qs (order + 1) p.path (source_value order p) (sym e) in
          let equal = order_one order found.0 p found.1 (omega (arith, fp)) (omega (arith, found.2.1, fq)) found.2.2 in
          absurd (omega (arith, equal.0, found.2.0))
    ] refl mine in
    let paths : p.path ≡ q.path = sym both.0 in
    let sources = (order_one order order p q (omega (arith, fp)) (omega (arith, fp)) both.1).1 in
    let values : (name : List ℕ) → value_named p.file.variables p.values name None ≡ value_named q.file.variables q.values name None = λ name.
    ap (λ b. variable_in (cond b (Some p) (package_of ps p.path)) name None) (sym (same_name p.path)) ∙ v p.path name (realm_no_zero p.path wp.0.realm)
    ∙ ap (λ b. variable_in (cond b (Some q) (package_of qs p.path)) name None) (ap (λ (x : List ℕ). bytes_eq x p.path) both.0 ∙ same_name p.path) in
    let first : p ≡ q = package_one p q wp.0 wq.0 paths sources values in
    let none_p : (path : List ℕ) → bytes_eq p.path path ≡ true → package_of ps path ≡ None = λ path is. subst (λ (x : List ℕ). package_of ps x ≡ None) ((bytes_eq-Decides p.path path).0 is) wp.1 in
    let none_q : (path : List ℕ) → bytes_eq p.path path ≡ true → package_of qs path ≡ None = λ path is. subst (λ (x : List ℕ). package_of qs x ≡ None) (both.0 ∙ (bytes_eq-Decides p.path path).0 is) wq.1 in
    let s' : (path : List ℕ) → source_at ps (order + 1) path ≡ source_at qs (order + 1) path = λ path.
    elim (bytes_eq p.path path) as (λ t. bytes_eq p.path path ≡ t → cond t (Some (source_value order p)) (source_at ps (order + 1) path) ≡ cond t (Some (source_value order q)) (source_at qs (order + 1) path) → source_at ps (order + 1) path ≡ source_at qs (order + 1) path) [
      | true ↦ λ is e. no_source ps (order + 1) path (none_p path is) ∙ sym (no_source qs (order + 1) path (none_q path is))
      | false ↦ λ is e. e
    ] refl (s path ∙ ap (λ (x : List ℕ). cond (bytes_eq x path) (Some (source_value order q)) (source_at qs (order + 1) path)) both.0) in
    let v' : (path name : List ℕ) → has_no_zero path ≡ true → variable_in (package_of ps path) name None ≡ variable_in (package_of qs path) name None = λ path name z.
    elim (bytes_eq p.path path) as (λ t. bytes_eq p.path path ≡ t → variable_in (cond t (Some p) (package_of ps path)) name None ≡ variable_in (cond t (Some q) (package_of qs path)) name None → variable_in (package_of ps path) name None ≡ variable_in (package_of qs path) name None) [
      | true ↦ λ is e. no_values ps path (none_p path is) name ∙ sym (no_values qs path (none_q path is) name)
      | false ↦ λ is e. e
    ] refl (v path name z ∙ ap (λ (x : List ℕ). variable_in (cond (bytes_eq x path) (Some q) (package_of qs path)) name None) both.0) in
    let tail : ps ≡ qs = lists_one (order + 1) ps qs wp.2 wq.2 (omega (arith, fp)) (omega (arith, fq)) s' v' in
    λ i. first i ∷ tail i

-- what stands before the rows of the packages is at no key of theirs
or_none : (a b : Option (List ℕ)) → or_before a None ≡ or_before b None → a ≡ b
or_none None None e = refl
or_none None (Some b) e = e
or_none (Some a) None e = e
or_none (Some a) (Some b) e = e

holds_one : (m m' : List Package) → IsWell m → IsWell m' → length m < 2 ^ 63 → length m' < 2 ^ 63 → ((key : List ℕ) → latest (all_rows m) key None ≡ latest (all_rows m') key None) → m ≡ m'
holds_one m m' w w' f f' same =
    lists_one 0 m m' w w' (omega (arith, f)) (omega (arith, f'))
    (λ path. or_none _ _ (sym (latest_source m 0 path None w) ∙ same (source_key path) ∙ latest_source m' 0 path None w'))
    (λ path name z. sym (latest_variable m 0 path name None z w) ∙ same (variable_key path name) ∙ latest_variable m' 0 path name None z w')

-- the rows of packages leave the key of the format
format_kept : (path : List ℕ) (names : List (List ℕ)) (values : List Number) (before : Option (List ℕ)) → latest (variable_rows path names values) (70 ∷ []) before ≡ before
format_kept path [] values before = refl
format_kept path (n ∷ ns) [] before = refl
format_kept path (n ∷ ns) (v ∷ vs) before = format_kept path ns vs before

pub format_stays : (order : ℕ) (ps : List Package) (before : Option (List ℕ)) → latest (rows_from order ps) (70 ∷ []) before ≡ before
format_stays order [] before = refl
format_stays order (p ∷ ps) before =
    latest-append (package_rows order p) (rows_from (order + 1) ps) (70 ∷ []) before ∙ format_stays (order + 1) ps _ ∙ format_kept p.path p.file.variables p.values before

some_none : (value : List ℕ) → Some value ≡ None → ⊥
some_none value e = cc

not_empty : (table : Table) (memory : List Package) → Holds table (all_rows memory) → Holds table [] → ⊥
not_empty table memory h e = some_none (0 ∷ []) (sym (h (70 ∷ []) ∙ format_stays 0 memory (Some (0 ∷ []))) ∙ e (70 ∷ []))

pub one_memory : (table : Table) (memory other : List Package) → IsFirst table memory → IsFirst table other → memory ≡ other
one_memory table memory other f g =
    elim f.rows [
      | inl h ↦ elim g.rows [
        | inl k ↦ holds_one memory other f.well g.well f.few g.few (λ key. sym (h key) ∙ k key)
        | inr k ↦ absurd (not_empty table memory h k.1)
      ]
      | inr h ↦ elim g.rows [
        | inl k ↦ absurd (not_empty table other k h.1)
        | inr k ↦ h.0 ∙ sym k.0
      ]
    ]
