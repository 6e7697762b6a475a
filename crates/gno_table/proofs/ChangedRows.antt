-- Other values in one package, as rows.
use Rattle.std.proofs.Common.{◌≡◌, ◌≢◌, ℕ, suc, ◌+◌, ◌<◌, ◌^◌, List, [], ◌∷◌, ap, ◌∙◌, refl, arith, sym, inl, inr, length, subst}
use Rattle.std.specs.Prelude.{Option, Some, None, Bool, true, false, cond, ◌&&◌, ◌||◌, IfSome, IsSome}
use Rattle.std.specs.Int.{cast_unsigned, w64}
use Rattle.std.specs.Option.{option_map}
use Rattle.std.specs.Str.{bytes_eq}
use Rattle.std.proofs.lemmas.Slice.Eq.{bytes_eq-Decides}
use Rattle.gno_base.specs.Number.{Number}
use Rattle.gno_port.specs.declared.keeper.Change.{Change}
use Rattle.gno_port.specs.Tables.{Table, applied, latest}
use Rattle.gno_port.specs.Keeping.{Puts}
use Rattle.gno_port.proofs.TableLemmas.{get-applied, latest-append}
use Rattle.gno_items.specs.declared.memory.Package.{Package}
use Rattle.gno_items.specs.Memory.{package_of, with_values}
use Rattle.gno_items.proofs.ValueSteps.{valued}
use Rattle.gno_table.specs.Rows.{all_rows, rows_from, eight_bytes, package_rows, source_row, variable_rows, variable_key, format_row}
use Rattle.gno_items.specs.Well.{CanHave, has_no_zero, IsWell}
use Rattle.gno_table.proofs.AddedRows.{other_path}
use Rattle.gno_table.proofs.Zeros.{realm_no_zero, no_zero_same}

-- a variable's row stands at the key
abbrev pub touches : List ℕ → List (List ℕ) → List ℕ → Bool
touches path [] key = false
touches path (name ∷ names) key = bytes_eq key (variable_key path name) || touches path names key

pub or_false : (a b : Bool) → a || b ≡ false → (a ≡ false) × (b ≡ false)
or_false true b e = cc
or_false false b e = (refl, e)

and_true : (a b : Bool) → a && b ≡ true → (a ≡ true) × (b ≡ true)
and_true true b e = (refl, e)
and_true false b e = cc

pub untouched : (path : List ℕ) (names : List (List ℕ)) (values : List Number) (key : List ℕ) (before : Option (List ℕ)) → touches path names key ≡ false →
    latest (variable_rows path names values) key before ≡ before
untouched path [] values key before e = refl
untouched path (name ∷ names) [] key before e = refl
untouched path (name ∷ names) (v ∷ vs) key before e =
    elim (bytes_eq key (variable_key path name)) as (λ t. t || touches path names key ≡ false →
    latest (variable_rows path names vs) key (cond t (Some (eight_bytes (cast_unsigned w64 v.value))) before) ≡ before)
    [ true ↦ λ h. cc | false ↦ λ h. untouched path names vs key before h ] e

pub touched : (path : List ℕ) (names : List (List ℕ)) (values : List Number) (key : List ℕ) (a b : Option (List ℕ)) → length values ≡ length names → touches path names key ≡ true →
    latest (variable_rows path names values) key a ≡ latest (variable_rows path names values) key b
touched path [] values key a b l e = cc
touched path (name ∷ names) [] key a b l e = absurd (omega arith)
touched path (name ∷ names) (v ∷ vs) key a b l e =
    elim (bytes_eq key (variable_key path name)) as (λ t. t || touches path names key ≡ true →
    latest (variable_rows path names vs) key (cond t (Some (eight_bytes (cast_unsigned w64 v.value))) a) ≡ latest (variable_rows path names vs) key (cond t (Some (eight_bytes (cast_unsigned w64 v.value))) b))
    [ true ↦ λ h. refl | false ↦ λ h. touched path names vs key a b (omega arith) h ] e

-- keys of variables of other packages differ
pub other_key : (path path' name name' : List ℕ) → has_no_zero path ≡ true → has_no_zero path' ≡ true → variable_key path name ≡ variable_key path' name' → path ≡ path'
other_key path path' name name' p q e = no_zero_same path path' name name' p q cc

-- a key of a variable of the path is that of some name
pub touches_some : (path : List ℕ) (names : List (List ℕ)) (key : List ℕ) → touches path names key ≡ true → (name : List ℕ) × (key ≡ variable_key path name)
touches_some path [] key e = cc
touches_some path (n ∷ ns) key e =
    elim (bytes_eq key (variable_key path n)) as (λ t. bytes_eq key (variable_key path n) ≡ t → t || touches path ns key ≡ true → (name : List ℕ) × (key ≡ variable_key path name))
    [ true ↦ λ is h. (n, (bytes_eq-Decides key (variable_key path n)).0 is) | false ↦ λ is h. touches_some path ns key h ] refl e

-- and so of no variable of another package
pub touches_no_other : (path path' : List ℕ) (name : List ℕ) (names : List (List ℕ)) → has_no_zero path ≡ true → has_no_zero path' ≡ true → path' ≢ path → touches path' names (variable_key path name) ≡ false
touches_no_other path path' name [] p q ne = refl
touches_no_other path path' name (n ∷ ns) p q ne =
    elim (bytes_eq (variable_key path name) (variable_key path' n)) as (λ t. bytes_eq (variable_key path name) (variable_key path' n) ≡ t → t || touches path' ns (variable_key path name) ≡ false)
    [ true ↦ λ is. absurd (ne (sym (other_key path path' name n p q ((bytes_eq-Decides _ _).0 is)))) | false ↦ λ is. touches_no_other path path' name ns p q ne ] refl

pub differ : (a b : List ℕ) → bytes_eq a b ≡ false → a ≢ b
differ a b e same = let t = (bytes_eq-Decides a b).1 same in cc

-- the rows of the other packages leave the key of a variable
pub others_leave : (order : ℕ) (ps : List Package) (path name : List ℕ) (before : Option (List ℕ)) → has_no_zero path ≡ true → IsWell ps → package_of ps path ≡ None →
    latest (rows_from order ps) (variable_key path name) before ≡ before
others_leave order [] path name before z w e = refl
others_leave order (q ∷ qs) path name before z w e =
    let o = other_path q path qs e in
    let ne : q.path ≢ path = differ q.path path o.0 in
    latest-append (package_rows order q) (rows_from (order + 1) qs) (variable_key path name) before
    ∙ others_leave (order + 1) qs path name _ z w.2 o.1
    ∙ untouched q.path q.file.variables q.values (variable_key path name) before (touches_no_other path q.path name q.file.variables z (realm_no_zero q.path w.0.realm) ne)

key_leave : (order : ℕ) (q : Package) (qs : List Package) (key : List ℕ) (x : Option (List ℕ)) → IsWell (q ∷ qs) → touches q.path q.file.variables key ≡ true →
    latest (rows_from (order + 1) qs) key x ≡ x
key_leave order q qs key x w is =
    let n = touches_some q.path q.file.variables key is in
    subst (λ (k : List ℕ). latest (rows_from (order + 1) qs) k x ≡ x) (sym n.1) (others_leave (order + 1) qs q.path n.0 x (realm_no_zero q.path w.0.realm) w.2 w.1)

-- the rows of a package and of those after it, with other values: as if they were written later
pub overwritten_here : (order : ℕ) (q : Package) (qs : List Package) (values : List Number) (key : List ℕ) (before : Option (List ℕ)) → IsWell (q ∷ qs) → length values ≡ length q.file.variables →
    latest (variable_rows q.path q.file.variables values) key (latest (rows_from order (q ∷ qs)) key before)
    ≡ latest (rows_from order (valued q values ∷ qs)) key before
overwritten_here order q qs values key before w l =
    let names = q.file.variables in
    let d = latest (source_row order q ∷ []) key before in
    ap (latest (variable_rows q.path names values) key) (latest-append (package_rows order q) (rows_from (order + 1) qs) key before)
    ∙ elim (touches q.path names key) as (λ t. touches q.path names key ≡ t →
    latest (variable_rows q.path names values) key (latest (rows_from (order + 1) qs) key (latest (variable_rows q.path names q.values) key d))
    ≡ latest (rows_from (order + 1) qs) key (latest (variable_rows q.path names values) key d)) [
      | true ↦ λ is.
          let leave : (x : Option (List ℕ)) → latest (rows_from (order + 1) qs) key x ≡ x = λ x. key_leave order q qs key x w is in
          ap (latest (variable_rows q.path names values) key) (leave _) ∙ touched q.path names values key _ d l is ∙ sym (leave _)
      | false ↦ λ is.
          untouched q.path names values key _ is ∙ ap (latest (rows_from (order + 1) qs) key) (untouched q.path names q.values key d is ∙ sym (untouched q.path names values key d is))
    ] refl
    ∙ sym (latest-append (package_rows order (valued q values)) (rows_from (order + 1) qs) key before)

pub overwritten : (order : ℕ) (memory : List Package) (path : List ℕ) (p : Package) (values : List Number) (key : List ℕ) (before : Option (List ℕ)) → IsWell memory → package_of memory path ≡ Some p → length values ≡ length p.file.variables →
    latest (variable_rows path p.file.variables values) key (latest (rows_from order memory) key before)
    ≡ latest (rows_from order (with_values memory path values)) key before
overwritten order [] path p values key before w e l = cc
overwritten order (q ∷ qs) path p values key before w e l =
    elim (bytes_eq q.path path) as (λ t. bytes_eq q.path path ≡ t → cond t (Some q) (package_of qs path) ≡ Some p →
    latest (variable_rows path p.file.variables values) key (latest (rows_from order (q ∷ qs)) key before)
    ≡ latest (rows_from order (cond t (valued q values ∷ qs) (q ∷ with_values qs path values))) key before) [
      | true ↦ λ is found.
          let same : q.path ≡ path = (bytes_eq-Decides q.path path).0 is in
          let is_q : q ≡ p = cc in
          let now = latest (rows_from order (q ∷ qs)) key before in
          ap (λ (names : List (List ℕ)). latest (variable_rows path names values) key now) (ap (λ (x : Package). x.file.variables) (sym is_q))
          ∙ ap (λ (a : List ℕ). latest (variable_rows a q.file.variables values) key now) (sym same)
          ∙ overwritten_here order q qs values key before w (l ∙ ap (λ (x : Package). length x.file.variables) (sym is_q))
      | false ↦ λ is found.
          ap (latest (variable_rows path p.file.variables values) key) (latest-append (package_rows order q) (rows_from (order + 1) qs) key before)
          ∙ overwritten (order + 1) qs path p values key _ w.2 found l
          ∙ sym (latest-append (package_rows order q) (rows_from (order + 1) (with_values qs path values)) key before)
    ] refl e

package_of-with_values : (ps : List Package) (path other : List ℕ) (values : List Number) → package_of ps other ≡ None → package_of (with_values ps path values) other ≡ None
package_of-with_values [] path other values e = refl
package_of-with_values (q ∷ qs) path other values e =
    let o = other_path q other qs e in
    elim (bytes_eq q.path path) as (λ t. package_of (cond t (valued q values ∷ qs) (q ∷ with_values qs path values)) other ≡ None) [
      | true ↦ rw o.0 o.1
      | false ↦ rw o.0 (package_of-with_values qs path other values o.1)
    ]

pub IsWell-with_values : (ps : List Package) (path : List ℕ) (values : List Number) → IsWell ps → IfSome (package_of ps path) (λ p. CanHave p values) → IsWell (with_values ps path values)
IsWell-with_values [] path values w c = tt
IsWell-with_values (q ∷ qs) path values w c =
    elim (bytes_eq q.path path) as (λ t. IfSome (cond t (Some q) (package_of qs path)) (λ p. CanHave p values) → IsWell (cond t (valued q values ∷ qs) (q ∷ with_values qs path values))) [
      | true ↦ λ h. (record { realm = w.0.realm; named = w.0.named; reads = w.0.reads; lawful = w.0.lawful; count = h.0; ints = h.1 }, w.1, w.2)
      | false ↦ λ h. (w.0, package_of-with_values qs path q.path values w.1, IsWell-with_values qs path values w.2 h)
    ] c
