-- What the rows of all packages leave at the key of a source and of a variable.
use Rattle.std.proofs.Common.{◌≡◌, ℕ, ◌+◌, List, [], ◌∷◌, ◌++◌, ap, ◌∙◌, refl, sym, subst}
use Rattle.std.specs.Prelude.{Option, Some, None, true, false, cond, if◌then◌else◌}
use Rattle.std.specs.Int.{cast_unsigned, w64}
use Rattle.std.specs.Str.{bytes_eq}
use Rattle.std.proofs.lemmas.Slice.Eq.{bytes_eq-Decides}
use Rattle.std.proofs.lemmas.List.{append_cancel_left}
use Rattle.gno_base.specs.Number.{Number}
use Rattle.gno_port.specs.Tables.{latest}
use Rattle.gno_port.proofs.TableLemmas.{latest-append}
use Rattle.gno_items.specs.declared.memory.Package.{Package}
use Rattle.gno_items.specs.Memory.{package_of}
use Rattle.gno_items.specs.Well.{has_no_zero, IsWell}
use Rattle.gno_table.specs.Reading.{or_before}
use Rattle.gno_table.specs.Rows.{rows_from, package_rows, eight_bytes, variable_rows, variable_key, source_key}
use Rattle.gno_table.proofs.AddedRows.{bytes_eq-sym, other_path}
use Rattle.gno_table.proofs.ChangedRows.{differ, touches_no_other, untouched}
use Rattle.gno_table.proofs.Zeros.{realm_no_zero}

abbrev pub source_value : ℕ → Package → List ℕ
source_value order p = eight_bytes order ++ (p.source.name ++ 0 ∷ p.source.text)

-- the source of a path, at the order that counts up from a number
abbrev pub source_at : List Package → ℕ → List ℕ → Option (List ℕ)
source_at [] order path = None
source_at (p ∷ ps) order path = if bytes_eq p.path path then Some (source_value order p) else source_at ps (order + 1) path

-- no variable has the key of a source
pub variables_leave_source : (path : List ℕ) (names : List (List ℕ)) (values : List Number) (other : List ℕ) (before : Option (List ℕ)) → latest (variable_rows path names values) (source_key other) before ≡ before
variables_leave_source path [] values other before = refl
variables_leave_source path (n ∷ ns) [] other before = refl
variables_leave_source path (n ∷ ns) (v ∷ vs) other before = variables_leave_source path ns vs other before

pub no_source : (ps : List Package) (order : ℕ) (path : List ℕ) → package_of ps path ≡ None → source_at ps order path ≡ None
no_source [] order path e = refl
no_source (p ∷ ps) order path e = let o = other_path p path ps e in rw o.0 (no_source ps (order + 1) path o.1)

pub latest_source : (ps : List Package) (order : ℕ) (path : List ℕ) (before : Option (List ℕ)) → IsWell ps → latest (rows_from order ps) (source_key path) before ≡ or_before (source_at ps order path) before
latest_source [] order path before w = refl
latest_source (p ∷ ps) order path before w =
    latest-append (package_rows order p) (rows_from (order + 1) ps) (source_key path) before
    ∙ latest_source ps (order + 1) path _ w.2
    ∙ ap (or_before (source_at ps (order + 1) path)) (variables_leave_source p.path p.file.variables p.values path _)
    ∙ elim (bytes_eq p.path path) as (λ t. bytes_eq p.path path ≡ t →
    or_before (source_at ps (order + 1) path) (cond (bytes_eq path p.path) (Some (source_value order p)) before) ≡ or_before (cond t (Some (source_value order p)) (source_at ps (order + 1) path)) before) [
      | true ↦ λ is.
          let same : p.path ≡ path = (bytes_eq-Decides p.path path).0 is in
          let back : bytes_eq path p.path ≡ true = (bytes_eq-Decides path p.path).1 (sym same) in
          rw (back, no_source ps (order + 1) path (subst (λ (a : List ℕ). package_of ps a ≡ None) same w.1)) refl
      | false ↦ λ is. rw (bytes_eq-sym p.path path is) refl
    ] refl

-- the value of the last variable of that name
abbrev pub value_named : List (List ℕ) → List Number → List ℕ → Option (List ℕ) → Option (List ℕ)
value_named [] values name before = before
value_named (n ∷ ns) [] name before = before
value_named (n ∷ ns) (v ∷ vs) name before = value_named ns vs name (if bytes_eq name n then Some (eight_bytes (cast_unsigned w64 v.value)) else before)

-- keys of one path's variables are alike where their names are
pub same_key : (path name n : List ℕ) → bytes_eq (variable_key path name) (variable_key path n) ≡ bytes_eq name n
same_key path name n =
    elim (bytes_eq name n) as (λ t. bytes_eq name n ≡ t → bytes_eq (variable_key path name) (variable_key path n) ≡ t) [
      | true ↦ λ is. (bytes_eq-Decides _ _).1 (ap (variable_key path) ((bytes_eq-Decides name n).0 is))
      | false ↦ λ is. elim (bytes_eq (variable_key path name) (variable_key path n)) as (λ t. bytes_eq (variable_key path name) (variable_key path n) ≡ t → t ≡ false) [
        | true ↦ λ h.
            let keys : variable_key path name ≡ variable_key path n = (bytes_eq-Decides _ _).0 h in
            let rest : path ++ 0 ∷ name ≡ path ++ 0 ∷ n = cc in
            let behind : 0 ∷ name ≡ 0 ∷ n = append_cancel_left path (0 ∷ name) (0 ∷ n) rest in
            let names : name ≡ n = cc in
            absurd (differ name n is names)
        | false ↦ λ h. refl
      ] refl
    ] refl

pub latest_named : (path : List ℕ) (names : List (List ℕ)) (values : List Number) (name : List ℕ) (before : Option (List ℕ)) →
    latest (variable_rows path names values) (variable_key path name) before ≡ value_named names values name before
latest_named path [] values name before = refl
latest_named path (n ∷ ns) [] name before = refl
latest_named path (n ∷ ns) (v ∷ vs) name before =
    latest_named path ns vs name _ ∙ ap (λ b. value_named ns vs name (cond b (Some (eight_bytes (cast_unsigned w64 v.value))) before)) (same_key path name n)

-- the value of a variable of the package of a path
abbrev pub variable_in : Option Package → List ℕ → Option (List ℕ) → Option (List ℕ)
variable_in None name before = before
variable_in (Some p) name before = value_named p.file.variables p.values name before

pub latest_variable : (ps : List Package) (order : ℕ) (path name : List ℕ) (before : Option (List ℕ)) → has_no_zero path ≡ true → IsWell ps →
    latest (rows_from order ps) (variable_key path name) before ≡ variable_in (package_of ps path) name before
latest_variable [] order path name before z w = refl
latest_variable (p ∷ ps) order path name before z w =
    latest-append (package_rows order p) (rows_from (order + 1) ps) (variable_key path name) before
    ∙ latest_variable ps (order + 1) path name _ z w.2
    ∙ elim (bytes_eq p.path path) as (λ t. bytes_eq p.path path ≡ t →
    variable_in (package_of ps path) name (latest (variable_rows p.path p.file.variables p.values) (variable_key path name) before) ≡ variable_in (cond t (Some p) (package_of ps path)) name before) [
      | true ↦ λ is.
          let same : p.path ≡ path = (bytes_eq-Decides p.path path).0 is in
          rw (subst (λ (a : List ℕ). package_of ps a ≡ None) same w.1)
          (subst (λ (a : List ℕ). latest (variable_rows a p.file.variables p.values) (variable_key path name) before ≡ value_named p.file.variables p.values name before) (sym same) (latest_named path p.file.variables p.values name before))
      | false ↦ λ is.
          ap (variable_in (package_of ps path) name) (untouched p.path p.file.variables p.values (variable_key path name) before
          (touches_no_other path p.path name p.file.variables z (realm_no_zero p.path w.0.realm) (differ p.path path is)))
    ] refl
