-- The packages that the rows of packages lead to are those packages.
use Rattle.std.proofs.Common.{◌≡◌, ◌≢◌, ℕ, zero, suc, ◌+◌, ◌<◌, ◌≤◌, ◌^◌, List, [], ◌∷◌, ◌++◌, ap, ◌∙◌, refl, arith, sym, subst, length, take, drop, append-nil, take-append-drop, to_z, of_z, Bor, slice_index_or, drop-cons, add-one, inl, inr}
use Rattle.std.specs.Prelude.{Option, Some, None, Bool, true, false, cond, slice_get, is_some, IsSome, ◌||◌}
use Rattle.std.specs.Option.{option_copied}
use Rattle.std.specs.Int.{cast_unsigned, w64}
use Rattle.std.specs.BTreeMap.{is_at}
use Rattle.std.specs.Cmp.{Equal-is}
use Rattle.std.specs.FinMap.{nat_cmp-IsAntisymmetric}
use Rattle.std.specs.Ordering.{is_eq, nat_cmp}
use Rattle.std.specs.Str.{bytes_eq}
use Rattle.std.proofs.lemmas.Int.{ints}
use Rattle.std.proofs.lemmas.Slice.Eq.{bytes_eq-Decides}
use Rattle.gno_base.specs.Number.{Number}
use Rattle.gno_machine.specs.Ints.{AreInts, IsInt}
use Rattle.gno_first.specs.Names.{is_among}
use Rattle.gno_first.specs.Lawful.{are_distinct}
use Rattle.gno_port.specs.declared.keeper.Change.{Change}
use Rattle.gno_port.specs.Tables.{Table, IsRising, latest}
use Rattle.gno_items.specs.declared.memory.Package.{Package}
use Rattle.gno_items.specs.Memory.{package_of}
use Rattle.gno_items.specs.Well.{IsWell}
use Rattle.gno_table.specs.declared.sources.Source.{Source}
use Rattle.gno_table.specs.FirstFormat.{IsNotFirst, Reads}
use Rattle.gno_table.specs.Loading.{AreRowsOf, HaveValues, IsAmong, StandAmong}
use Rattle.gno_table.specs.Reading.{AreInOrder, or_before}
use Rattle.gno_table.specs.Rows.{LeaveSame, all_rows, eight_bytes, package_rows, rows_from, variable_key, variable_rows}
use Rattle.gno_table.specs.Sources.{last_source, whole_word, word_at, word_in}
use Rattle.gno_table.proofs.Lookups.{latest_variable, value_named, variable_in}
use Rattle.gno_table.proofs.OneMemory.{distinct_front, distinct_head, not_named}
use Rattle.gno_table.proofs.RisingRows.{first_leaves, rising_same, same_key, valued_latest, values_append}
use Rattle.gno_table.proofs.SourceRows.{numbered, package_at, source_from, sources_are, well_at, word_back}
use Rattle.gno_table.proofs.Zeros.{realm_no_zero}

-- the number that 8 bytes are
pub word_found : (value : ℕ) → value < 2 ^ 64 → word_in (Some (eight_bytes value)) ≡ Some value
word_found value h = ap (λ (bytes : List ℕ). whole_word (word_at bytes)) (sym (append-nil (eight_bytes value))) ∙ ap whole_word (word_back value [] h)

or_left : (a b : Bool) → a ≡ true → a || b ≡ true
or_left true b e = refl
or_left false b e = cc

or_right : (a b : Bool) → b ≡ true → a || b ≡ true
or_right true b e = refl
or_right false b e = e

true_false : (b : Bool) → b ≡ true → b ≡ false → ⊥
true_false true e f = cc
true_false false e f = cc

stand_all : (rows : List Change) (path : List ℕ) (names : List (List ℕ)) (values : List Number) → are_distinct names ≡ true → AreInts values → length values ≡ length names →
    ((name : List ℕ) → is_among names name ≡ true → latest rows (variable_key path name) None ≡ value_named names values name None) → StandAmong rows path names values
stand_all rows path [] [] d iv l h = tt
stand_all rows path [] (v ∷ vs) d iv l h = absurd (omega (arith, l))
stand_all rows path (n ∷ ns) [] d iv l h = absurd (omega (arith, l))
stand_all rows path (n ∷ ns) (v ∷ vs) d iv l h =
    let apart = distinct_head (is_among ns n) (are_distinct ns) d in
    let word : Option (List ℕ) = Some (eight_bytes (cast_unsigned w64 v.value)) in (
      iv.0,
      h n (or_left (bytes_eq n n) (is_among ns n) (same_key n)) ∙ ap (λ b. value_named ns vs n (cond b word None)) (same_key n) ∙ not_named ns vs n word apart.0,
      stand_all rows path ns vs apart.1 iv.1 (omega (arith, l)) (λ name is.
          h name (or_right (bytes_eq name n) (is_among ns name) is)
          ∙ elim (bytes_eq name n) as (λ t. bytes_eq name n ≡ t → value_named ns vs name (cond t word None) ≡ value_named ns vs name None) [
            | true ↦ λ same. absurd (true_false (is_among ns name) is (subst (λ (x : List ℕ). is_among ns x ≡ false) (sym ((bytes_eq-Decides name n).0 same)) apart.0))
            | false ↦ λ same. refl
          ] refl),
    )

stored : (rows : List Change) (memory : List Package) (order : ℕ) (p : Package) → AreRowsOf rows memory → slice_get memory order ≡ Some p → IsAmong rows p
stored rows memory order p a e =
    let well = well_at memory order p a.well e in
    record {
      well = well;
      rising = a.rising;
      values = stand_all rows p.path p.file.variables p.values (distinct_front p.file.variables _ well.lawful.differ) well.ints well.count (λ name is.
          a.same (variable_key p.path name) ∙ latest_variable memory 0 p.path name None (realm_no_zero p.path well.realm) a.well
          ∙ ap (λ (o : Option Package). variable_in o name None) (package_at memory order p a.well e));
    }

-- the package that a source is of
abbrev pub IsOf : List Change → List Package → ℕ → Source → Package → Type 0
IsOf rows memory order source p = (slice_get memory order ≡ Some p) × IsAmong rows p × (source.path ≡ p.path) × (source.file ≡ p.source)

pub source_is_of : (rows : List Change) (memory : List Package) (order : ℕ) (source : Source) → AreRowsOf rows memory → last_source rows order None ≡ Some source → (p : Package) × IsOf rows memory order source p
source_is_of rows memory order source a e =
    elim (slice_get memory order) as (λ o. slice_get memory order ≡ o → numbered order o ≡ Some source → (p : Package) × IsOf rows memory order source p) [
      | None ↦ λ is h. cc
      | Some p ↦ λ is h.
          let same : source_from order p ≡ source = one_source _ _ h in
          (p, (is, stored rows memory order p a is, sym (ap (λ (s : Source). s.path) same), sym (ap (λ (s : Source). s.file) same)))
    ] refl (sym (sources_are rows memory order a) ∙ e)
  where
    one_source : (x y : Source) → Some x ≡ Some y → x ≡ y
    one_source x y e = cc

-- behind the last package there is no source
pub none_left : (memory : List Package) (order : ℕ) → numbered order (slice_get memory order) ≡ None → take order memory ≡ memory
none_left memory order e = past memory order (no_package (slice_get memory order) e)
  where
    no_package : (o : Option Package) → numbered order o ≡ None → o ≡ None
    no_package None e = refl
    no_package (Some p) e = cc

    past : (ps : List Package) (at : ℕ) → slice_get ps at ≡ None → take at ps ≡ ps
    past [] zero e = refl
    past [] (suc at) e = refl
    past (p ∷ ps) zero e = cc
    past (p ∷ ps) (suc at) e = ap (λ (t : List Package). p ∷ t) (past ps at e)

pub one_more : (ps : List Package) (at : ℕ) (p : Package) → slice_get ps at ≡ Some p → take (at + 1) ps ≡ take at ps ++ p ∷ []
one_more ps at p e = ap (λ (n : ℕ). take n ps) {x = at + 1} {y = suc at} (omega arith) ∙ next ps at e
  where
    next : (ps : List Package) (at : ℕ) → slice_get ps at ≡ Some p → take (suc at) ps ≡ take at ps ++ p ∷ []
    next [] at e = cc
    next (q ∷ qs) zero e = let same : q ≡ p = cc in ap (λ (x : Package). x ∷ []) same
    next (q ∷ qs) (suc at) e = ap (λ (t : List Package). q ∷ t) (next qs at e)

-- no package before a place has the path of the one there
pub new_path : (ps : List Package) (at : ℕ) (p : Package) → IsWell ps → slice_get ps at ≡ Some p → package_of (take at ps) p.path ≡ None
new_path [] at p w e = cc
new_path (q ∷ qs) zero p w e = refl
new_path (q ∷ qs) (suc at) p w e =
    elim (bytes_eq q.path p.path) as (λ t. bytes_eq q.path p.path ≡ t → cond t (Some q) (package_of (take at qs) p.path) ≡ None) [
      | true ↦ λ is. absurd (clash (package_of qs p.path) p (package_at qs at p w.2 e) (subst (λ (x : List ℕ). package_of qs x ≡ None) ((bytes_eq-Decides q.path p.path).0 is) w.1))
      | false ↦ λ is. new_path qs at p w.2 e
    ] refl
  where
    clash : (o : Option Package) (p : Package) → o ≡ Some p → o ≡ None → ⊥
    clash None p e f = cc
    clash (Some q) p e f = cc

variables_valued : (path : List ℕ) (names : List (List ℕ)) (values : List Number) → HaveValues (variable_rows path names values)
variables_valued path [] values = tt
variables_valued path (n ∷ ns) [] = tt
variables_valued path (n ∷ ns) (v ∷ vs) = (refl, variables_valued path ns vs)

all_valued : (order : ℕ) (ps : List Package) → HaveValues (rows_from order ps)
all_valued order [] = tt
all_valued order (p ∷ ps) = values_append (package_rows order p) (rows_from (order + 1) ps) (refl, variables_valued p.path p.file.variables p.values) (all_valued (order + 1) ps)

-- the rows that the packages make in the order of their keys are the rows that they were read from
pub made_again : (rows made : List Change) (packages memory : List Package) → AreRowsOf rows memory → packages ≡ memory → LeaveSame made (all_rows packages) → IsRising made → made ≡ rows
made_again rows made packages memory a same leave s = rising_same made rows s a.rising (λ key before.
    leave key before ∙ ap (λ (ps : List Package). latest (all_rows ps) key before) same
    ∙ valued_latest (all_rows memory) key None before (refl, all_valued 0 memory)
    ∙ ap (λ o. or_before o before) (sym (a.same key))
    ∙ sym (valued_latest rows key None before a.valued))

no_rows : (rows : List Change) → IsRising rows → HaveValues rows → ((key : List ℕ) → latest rows key None ≡ None) → rows ≡ []
no_rows [] s v h = refl
no_rows (r ∷ rs) s v h = absurd (clash r.value v.0 (sym (first_leaves r rs None s) ∙ h r.key))
  where
    clash : (o : Option (List ℕ)) → IsSome o → o ≡ None → ⊥
    clash None h e = cc
    clash (Some v) h e = cc

-- rows that are no packages' are those of no table of the first format
pub not_first : (told : Option Table) (rows : List Change) → Reads told rows → AreInOrder told rows → rows ≢ [] → ((memory : List Package) → AreRowsOf rows memory → ⊥) → IsNotFirst told
not_first None rows reads order some none = tt
not_first (Some table) rows reads order some none = λ memory f.
    elim f.rows [
      | inl h ↦ none memory (record { well = f.well; few = f.few; rising = order.0; valued = order.1; same = λ key. sym (reads key) ∙ h key })
      | inr h ↦ some (no_rows rows order.0 order.1 (λ key. sym (reads key) ∙ h.1 key))
    ]

-- the values of the variables from a place on
abbrev pub StandFrom : List Change → List ℕ → List (List ℕ) → List Number → ℕ → Type 0
StandFrom rows path names values at = StandAmong rows path (drop at names) (drop at values)

split : (vs : List Number) (at : ℕ) (v : Number) (rest : List Number) → drop at vs ≡ v ∷ rest → (drop (at + 1) vs ≡ rest) × (take (at + 1) vs ≡ take at vs ++ v ∷ [])
split vs at v rest e =
    let t = next vs at e in
    (ap (λ (n : ℕ). drop n vs) {x = at + 1} {y = suc at} (omega arith) ∙ t.0, ap (λ (n : ℕ). take n vs) {x = at + 1} {y = suc at} (omega arith) ∙ t.1)
  where
    next : (vs : List Number) (at : ℕ) → drop at vs ≡ v ∷ rest → (drop (suc at) vs ≡ rest) × (take (suc at) vs ≡ take at vs ++ v ∷ [])
    next [] zero e = cc
    next [] (suc at) e = cc
    next (w ∷ ws) zero e =
        let first : w ≡ v = cc in
        let others : ws ≡ rest = cc in
        (others, ap (λ (x : Number). x ∷ []) first)
    next (w ∷ ws) (suc at) e = let t = next ws at e in (t.0, ap (λ (x : List Number). w ∷ x) t.1)

-- the value of the variable of a place
pub value_stands : (rows : List Change) (path : List ℕ) (names : List (List ℕ)) (values : List Number) (at : ℕ) (name : List ℕ) → at < length names → name ≡ slice_index_or names at name → StandFrom rows path names values at →
    (v : Number) × (IsInt v × (latest rows (variable_key path name) None ≡ Some (eight_bytes (cast_unsigned w64 v.value))) × (take (at + 1) values ≡ take at values ++ v ∷ []) × StandFrom rows path names values (at + 1))
value_stands rows path names values at name b e h =
    let here : drop at names ≡ name ∷ drop (at + 1) names = rw (add-one, drop-cons names at name) (ap (λ (n : List ℕ). n ∷ drop (suc at) names) (sym e)) in
    with_value (drop at values) refl (subst (λ (ns : List (List ℕ)). StandAmong rows path ns (drop at values)) here h)
  where
    with_value : (rest : List Number) → drop at values ≡ rest → StandAmong rows path (name ∷ drop (at + 1) names) rest →
        (v : Number) × (IsInt v × (latest rows (variable_key path name) None ≡ Some (eight_bytes (cast_unsigned w64 v.value))) × (take (at + 1) values ≡ take at values ++ v ∷ []) × StandFrom rows path names values (at + 1))
    with_value [] is h = absurd h
    with_value (v ∷ rest) is h =
        let t = split values at v rest is in
        (v, (h.0, h.1, t.1, subst (λ (vs : List Number). StandAmong rows path (drop (at + 1) names) vs) (sym t.0) h.2))

-- behind the last variable there is no value
pub values_end : (rows : List Change) (path : List ℕ) (names : List (List ℕ)) (values : List Number) (at : ℕ) → length names ≤ at → StandFrom rows path names values at → take at values ≡ values
values_end rows path names values at b h =
    let none : drop at values ≡ [] = no_values (drop at names) (drop at values) (no_names names at b) h in
    sym (append-nil (take at values)) ∙ ap (λ (vs : List Number). take at values ++ vs) (sym none) ∙ take-append-drop at values
  where
    no_names : (ns : List (List ℕ)) (at : ℕ) → length ns ≤ at → drop at ns ≡ []
    no_names [] zero b = refl
    no_names [] (suc at) b = refl
    no_names (n ∷ ns) zero b = absurd (omega (arith, b))
    no_names (n ∷ ns) (suc at) b = no_names ns at (omega (arith, b))

    no_values : (ns : List (List ℕ)) (vs : List Number) → ns ≡ [] → StandAmong rows path ns vs → vs ≡ []
    no_values [] [] e h = refl
    no_values [] (v ∷ vs) e h = absurd h
    no_values (n ∷ ns) vs e h = cc

-- the number of a value's 64 bits
pub bits_small : (v : Number) → IsInt v → cast_unsigned w64 v.value < 2 ^ 64
bits_small v is = omega (arith, ints)

pub same_int : (made v : Number) (word : ℕ) → made.value ≡ to_z w64 (of_z w64 (to_z w64 word)) → IsInt made → IsInt v → Some word ≡ word_in (Some (eight_bytes (cast_unsigned w64 v.value))) → made ≡ v
same_int made v word is im iv e =
    let words : word ≡ cast_unsigned w64 v.value = one_word _ _ (e ∙ word_found (cast_unsigned w64 v.value) (bits_small v iv)) in
    let back : to_z w64 (of_z w64 v.value) ≡ v.value = omega (arith, ints) in
    let values : made.value ≡ v.value = is ∙ ap (λ (n : ℕ). to_z w64 (of_z w64 (to_z w64 n))) words ∙ ap (λ z. to_z w64 (of_z w64 z)) back ∙ back in
    let kinds : made.kind ≡ v.kind = im.0 ∙ sym iv.0 in
    λ i. record { kind = kinds i; value = values i }
  where
    one_word : (a b : ℕ) → Some a ≡ Some b → a ≡ b
    one_word a b e = cc

pub same_package : (p q : Package) → Some p ≡ Some q → p ≡ q
same_package p q e = cc

pub same_packages : (ps qs : List Package) → Some ps ≡ Some qs → ps ≡ qs
same_packages ps qs e = cc

-- what a look-up that found, or found none, says
pub is_found : (r : Option (Bor Package)) → is_some r ≡ true → option_copied r ≡ None → ⊥
is_found None h e = cc
is_found (Some p) h e = cc

pub found_none : (r : Option (Bor Package)) (o : Option Package) → is_some r ≡ false → option_copied r ≡ o → o ≡ None
found_none None o h e = sym e
found_none (Some p) o h e = cc

pub not_at : (a b : ℕ) → a + 1 ≤ b → is_at (nat_cmp a) b ≡ false
not_at a b h =
    elim (is_eq (nat_cmp a b)) as (λ t. is_eq (nat_cmp a b) ≡ t → t ≡ false) [
      | true ↦ λ e. absurd (omega (arith, h, nat_cmp-IsAntisymmetric a b ((Equal-is (nat_cmp a b)).0 e)))
      | false ↦ λ e. refl
    ] refl
