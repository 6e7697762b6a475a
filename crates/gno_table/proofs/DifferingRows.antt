-- What a call writes, as rows: those of the variables whose values changed.
use Rattle.std.proofs.Common.{◌≡◌, ◌≢◌, ℕ, zero, suc, ◌+◌, ◌<◌, ◌^◌, List, [], ◌∷◌, ◌++◌, ap, ◌∙◌, refl, rules, arith, sym, inl, inr, length, subst}
use Rattle.std.specs.Prelude.{Option, Some, None, Bool, true, false, not, cond, if◌then◌else◌, ◌⊎◌, ◌||◌, ◌&&◌, IfSome, IsSome, nat_eq}
use Rattle.std.specs.Int.{cast_unsigned, w64}
use Rattle.std.specs.Option.{option_map}
use Rattle.std.specs.Str.{bytes_eq}
use Rattle.std.specs.FinMap.{get}
use Rattle.std.proofs.lemmas.Slice.Eq.{bytes_eq-Decides}
use Rattle.std.proofs.lemmas.Bool.Decides.{nat_tests}
use Rattle.gno_base.specs.Number.{Number}
use Rattle.gno_machine.specs.Ints.{AreInts}
use Rattle.gno_first.specs.Names.{is_among}
use Rattle.gno_first.specs.Lawful.{are_distinct}
use Rattle.gno_port.specs.declared.keeper.Change.{Change}
use Rattle.gno_port.specs.Tables.{Table, applied, latest}
use Rattle.gno_port.specs.Keeping.{Puts}
use Rattle.gno_port.proofs.TableLemmas.{get-applied}
use Rattle.gno_items.specs.declared.memory.Package.{Package}
use Rattle.gno_items.specs.Memory.{package_of, with_values}
use Rattle.gno_items.specs.Well.{CanHave, has_no_zero, IsWell, IsWellPackage}
use Rattle.gno_items.proofs.ValueSteps.{valued}
use Rattle.gno_table.specs.Rows.{all_rows, rows_from, eight_bytes, same_word, differing_rows, variable_rows, variable_key, changed_rows, format_row, LeaveSame}
use Rattle.gno_table.specs.FirstFormat.{Holds, IsFirst, Stands}
use Rattle.gno_table.proofs.AddedRows.{IsFirst-same}
use Rattle.gno_table.proofs.ChangedRows.{IsWell-with_values, or_false, overwritten, touches, touches_some, untouched}
use Rattle.gno_table.proofs.Lookups.{latest_named, latest_variable, same_key, value_named, variable_in}
use Rattle.gno_table.proofs.OneMemory.{distinct_front, distinct_head, not_named, some_one}
use Rattle.gno_table.proofs.Zeros.{realm_no_zero}

abbrev bytes_of : Number → Option (List ℕ)
bytes_of value = Some (eight_bytes (cast_unsigned w64 value.value))

same_bytes : (a b : Number) → same_word a b ≡ true → bytes_of a ≡ bytes_of b
same_bytes a b e = let words : cast_unsigned w64 a.value ≡ cast_unsigned w64 b.value = grind (arith, nat_tests) in ap (λ (n : ℕ). Some (eight_bytes n)) words

-- rows of variables whose values differ are rows of variables
differing_untouched : (path : List ℕ) (names : List (List ℕ)) (old new : List Number) (key : List ℕ) (before : Option (List ℕ)) → touches path names key ≡ false →
    latest (differing_rows path names old new) key before ≡ before
differing_untouched path [] old new key before e = refl
differing_untouched path (n ∷ ns) [] new key before e = refl
differing_untouched path (n ∷ ns) (o ∷ os) [] key before e = refl
differing_untouched path (n ∷ ns) (o ∷ os) (v ∷ vs) key before e =
    let apart = or_false (bytes_eq key (variable_key path n)) (touches path ns key) e in
    elim (same_word o v) as (λ t. latest (cond t (differing_rows path ns os vs) (record { key = variable_key path n; value = bytes_of v } ∷ differing_rows path ns os vs)) key before ≡ before) [
      | true ↦ differing_untouched path ns os vs key before apart.1
      | false ↦ ap (λ b. latest (differing_rows path ns os vs) key (cond b (bytes_of v) before)) apart.0 ∙ differing_untouched path ns os vs key before apart.1
    ]

-- no variable of that name: its key is left
differing_not_named : (path : List ℕ) (names : List (List ℕ)) (old new : List Number) (name : List ℕ) (before : Option (List ℕ)) → is_among names name ≡ false →
    latest (differing_rows path names old new) (variable_key path name) before ≡ before
differing_not_named path [] old new name before e = refl
differing_not_named path (n ∷ ns) [] new name before e = refl
differing_not_named path (n ∷ ns) (o ∷ os) [] name before e = refl
differing_not_named path (n ∷ ns) (o ∷ os) (v ∷ vs) name before e =
    let apart = or_false (bytes_eq name n) (is_among ns name) e in
    elim (same_word o v) as (λ t. latest (cond t (differing_rows path ns os vs) (record { key = variable_key path n; value = bytes_of v } ∷ differing_rows path ns os vs)) (variable_key path name) before ≡ before) [
      | true ↦ differing_not_named path ns os vs name before apart.1
      | false ↦ ap (λ b. latest (differing_rows path ns os vs) (variable_key path name) (cond b (bytes_of v) before)) (same_key path name n ∙ apart.0) ∙ differing_not_named path ns os vs name before apart.1
    ]

in_front : (t : Bool) (rest : List Change) (path name n : List ℕ) (v : Number) (held wanted : Option (List ℕ)) → (t ≡ true → latest rest (variable_key path name) held ≡ wanted)
    → (t ≡ false → latest rest (variable_key path name) (cond (bytes_eq name n) (bytes_of v) held) ≡ wanted)
    → latest (cond t rest (record { key = variable_key path n; value = bytes_of v } ∷ rest)) (variable_key path name) held ≡ wanted
in_front true rest path name n v held wanted same other = same refl
in_front false rest path name n v held wanted same other = ap (λ b. latest rest (variable_key path name) (cond b (bytes_of v) held)) (same_key path name n) ∙ other refl

-- over the old value of a variable, a row for each that differs leaves what a row for each leaves
named_differing : (path : List ℕ) (names : List (List ℕ)) (old new : List Number) (name : List ℕ) (before : Option (List ℕ)) → length old ≡ length names → length new ≡ length names → are_distinct names ≡ true →
    latest (differing_rows path names old new) (variable_key path name) (value_named names old name before) ≡ value_named names new name (value_named names old name before)
named_differing path [] old new name before lo ln d = refl
named_differing path (n ∷ ns) [] new name before lo ln d = absurd (omega (arith, lo))
named_differing path (n ∷ ns) (o ∷ os) [] name before lo ln d = absurd (omega (arith, ln))
named_differing path (n ∷ ns) (o ∷ os) (v ∷ vs) name before lo ln d =
    let apart = distinct_head (is_among ns n) (are_distinct ns) d in
    let rest = differing_rows path ns os vs in
    let held = value_named ns os name (cond (bytes_eq name n) (bytes_of o) before) in
    elim (bytes_eq name n) as (λ t. bytes_eq name n ≡ t → latest (differing_rows path (n ∷ ns) (o ∷ os) (v ∷ vs)) (variable_key path name) held ≡ value_named ns vs name (cond (bytes_eq name n) (bytes_of v) held)) [
      | true ↦ λ is.
          let none : is_among ns name ≡ false = subst (λ (x : List ℕ). is_among ns x ≡ false) (sym ((bytes_eq-Decides name n).0 is)) apart.0 in
          let was : held ≡ bytes_of o = ap (λ b. value_named ns os name (cond b (bytes_of o) before)) is ∙ not_named ns os name (bytes_of o) none in
          let goal : value_named ns vs name (cond (bytes_eq name n) (bytes_of v) held) ≡ bytes_of v = ap (λ b. value_named ns vs name (cond b (bytes_of v) held)) is ∙ not_named ns vs name (bytes_of v) none in
          in_front (same_word o v) rest path name n v held (bytes_of v)
          (λ same. differing_not_named path ns os vs name held none ∙ was ∙ same_bytes o v same)
          (λ other. ap (λ b. latest rest (variable_key path name) (cond b (bytes_of v) held)) is ∙ differing_not_named path ns os vs name (bytes_of v) none)
          ∙ sym goal
      | false ↦ λ is.
          let was : held ≡ value_named ns os name before = ap (λ b. value_named ns os name (cond b (bytes_of o) before)) is in
          let below : latest rest (variable_key path name) held ≡ value_named ns vs name held =
          ap (latest rest (variable_key path name)) was ∙ named_differing path ns os vs name before (omega (arith, lo)) (omega (arith, ln)) apart.1 ∙ ap (value_named ns vs name) (sym was) in
          in_front (same_word o v) rest path name n v held (value_named ns vs name held)
          (λ same. below)
          (λ other. ap (λ b. latest rest (variable_key path name) (cond b (bytes_of v) held)) is ∙ below)
          ∙ sym (ap (λ b. value_named ns vs name (cond b (bytes_of v) held)) is)
    ] refl

-- the package of a path is well, and has that path
found_well : (memory : List Package) (path : List ℕ) (p : Package) → IsWell memory → package_of memory path ≡ Some p → IsWellPackage p × (p.path ≡ path)
found_well [] path p w e = cc
found_well (q ∷ qs) path p w e =
    elim (bytes_eq q.path path) as (λ t. bytes_eq q.path path ≡ t → cond t (Some q) (package_of qs path) ≡ Some p → IsWellPackage p × (p.path ≡ path)) [
      | true ↦ λ is found.
          let same : q ≡ p = some_one q p found in
          (subst (λ (x : Package). IsWellPackage x) same w.0, sym (ap (λ (x : Package). x.path) same) ∙ (bytes_eq-Decides q.path path).0 is)
      | false ↦ λ is found. found_well qs path p w.2 found
    ] refl e

-- over the rows of the memory, the rows that differ leave what all rows of the package's variables leave
agree : (memory : List Package) (path : List ℕ) (p : Package) (values : List Number) (key : List ℕ) → IsWell memory → package_of memory path ≡ Some p → length values ≡ length p.file.variables →
    latest (differing_rows path p.file.variables p.values values) key (latest (all_rows memory) key None) ≡ latest (variable_rows path p.file.variables values) key (latest (all_rows memory) key None)
agree memory path p values key w e l =
    let well = found_well memory path p w e in
    let names = p.file.variables in
    elim (touches path names key) as (λ t. touches path names key ≡ t → latest (differing_rows path names p.values values) key (latest (all_rows memory) key None) ≡ latest (variable_rows path names values) key (latest (all_rows memory) key None)) [
      | true ↦ λ is.
          let at = touches_some path names key is in
          subst (λ (k : List ℕ). latest (differing_rows path names p.values values) k (latest (all_rows memory) k None) ≡ latest (variable_rows path names values) k (latest (all_rows memory) k None)) (sym at.1)
          (agree_named memory path p values at.0 w e well.0 well.1 l)
      | false ↦ λ is. differing_untouched path names p.values values key _ is ∙ sym (untouched path names values key _ is)
    ] refl
  where
    agree_named : (memory : List Package) (path : List ℕ) (p : Package) (values : List Number) (name : List ℕ) → IsWell memory → package_of memory path ≡ Some p → IsWellPackage p → p.path ≡ path → length values ≡ length p.file.variables →
        latest (differing_rows path p.file.variables p.values values) (variable_key path name) (latest (all_rows memory) (variable_key path name) None)
        ≡ latest (variable_rows path p.file.variables values) (variable_key path name) (latest (all_rows memory) (variable_key path name) None)
    agree_named memory path p values name w e well same l =
        let names = p.file.variables in
        let z : has_no_zero path ≡ true = subst (λ (x : List ℕ). has_no_zero x ≡ true) same (realm_no_zero p.path well.realm) in
        let held : latest (all_rows memory) (variable_key path name) None ≡ value_named names p.values name None =
        latest_variable memory 0 path name None z w ∙ ap (λ o. variable_in o name None) e in
        ap (latest (differing_rows path names p.values values) (variable_key path name)) held
        ∙ named_differing path names p.values values name None well.count l (distinct_front names _ well.lawful.differ)
        ∙ sym (latest_named path names values name (value_named names p.values name None))
        ∙ ap (latest (variable_rows path names values) (variable_key path name)) (sym held)

pub changed_holds : (table : Table) (memory : List Package) (path : List ℕ) (p : Package) (values : List Number) → IsWell memory → package_of memory path ≡ Some p → length values ≡ length p.file.variables →
    Holds table (all_rows memory) → Holds (applied (differing_rows path p.file.variables p.values values) table) (all_rows (with_values memory path values))
changed_holds table memory path p values w e l h key =
    get-applied (differing_rows path p.file.variables p.values values) table key ∙ ap (latest (differing_rows path p.file.variables p.values values) key) (h key)
    ∙ agree memory path p values key w e l ∙ overwritten 0 memory path p values key (latest (format_row ∷ []) key None) w e l

none_held : (memory : List Package) (path : List ℕ) (p : Package) → memory ≡ [] → package_of memory path ≡ Some p → ⊥
none_held [] path p z e = cc
none_held (q ∷ qs) path p z e = cc

length-with_values : (ps : List Package) (path : List ℕ) (values : List Number) → length (with_values ps path values) ≡ length ps
length-with_values [] path values = refl
length-with_values (q ∷ qs) path values = elim (bytes_eq q.path path) as (λ t. length (cond t (valued q values ∷ qs) (q ∷ with_values qs path values)) ≡ length (q ∷ qs)) [ true ↦ refl | false ↦ ap suc (length-with_values qs path values) ]

few_still : (ps : List Package) (path : List ℕ) (values : List Number) → length ps < 2 ^ 63 → length (with_values ps path values) < 2 ^ 63
few_still ps path values h = subst (λ (n : ℕ). n < 2 ^ 63) (sym (length-with_values ps path values)) h

first_with_values : (table : Table) (memory : List Package) (path : List ℕ) (p : Package) (values : List Number) → package_of memory path ≡ Some p → length values ≡ length p.file.variables → IsWell (with_values memory path values) →
    IsFirst table memory → IsFirst (applied (differing_rows path p.file.variables p.values values) table) (with_values memory path values)
first_with_values table memory path p values e l w f = record {
  well = w;
  few = few_still memory path values f.few;
  rows = elim f.rows [ inl h ↦ inl (changed_holds table memory path p values f.well e l h) | inr h ↦ absurd (none_held memory path p h.0 e) ];
}

stands_with : (o : Option Table) (memory : List Package) (path : List ℕ) (values : List Number) (changes : List Change) (found : Option Package) → package_of memory path ≡ found → IsSome found → IfSome found (λ p. CanHave p values) →
    IsWell (with_values memory path values) → Stands o memory → LeaveSame changes (changed_rows found path values) → Stands (option_map (applied changes) o) (with_values memory path values)
stands_with None memory path values changes found e is can w s same = (w, few_still memory path values s.1)
stands_with (Some table) memory path values changes None e is can w s same = cc
stands_with (Some table) memory path values changes (Some p) e is can w s same =
    IsFirst-same changes (differing_rows path p.file.variables p.values values) table (with_values memory path values) same (first_with_values table memory path p values e can.0 w s)

well_of : (o : Option Table) (memory : List Package) → Stands o memory → IsWell memory
well_of None memory s = s.0
well_of (Some table) memory s = s.well

pub stands_changed : (old new : List ℕ → Option Table) (name name' : List ℕ) (changes : List Change) (memory memory' : List Package) (path : List ℕ) (values : List Number) →
    Stands (old name) memory → IsSome (package_of memory path) → IfSome (package_of memory path) (λ p. CanHave p values) → Puts old new name changes → name' ≡ name →
    LeaveSame changes (changed_rows (package_of memory path) path values) → memory' ≡ with_values memory path values → Stands (new name') memory'
stands_changed old new name name' changes memory memory' path values s is can puts same leave after =
    rw (same, after, puts.open_table)
    (stands_with (old name) memory path values changes (package_of memory path) refl is can (IsWell-with_values memory path values (well_of (old name) memory s) can) s leave)
