-- What a commit leaves.
use Rattle.std.proofs.Common.{◌≡◌, ℕ, suc, ◌+◌, ◌<◌, ◌^◌, List, [], ◌∷◌, ◌++◌, ap, ◌∙◌, refl, rules, arith, sym, inl, inr, length, append_assoc, append-nil, subst, add-zero, add-one, drop, drop-cons, get_or}
use Rattle.std.specs.Prelude.{Option, Some, None, true, false, cond, ◌⊎◌, nat_eq, IsSome}
use Rattle.std.specs.Option.{option_map}
use Rattle.std.specs.Str.{bytes_eq}
use Rattle.std.specs.FinMap.{get}
use Rattle.std.proofs.lemmas.Bool.Decides.{nat_tests}
use Rattle.std.proofs.lemmas.Slice.Eq.{bytes_eq-Decides}
use Rattle.gno_port.specs.declared.keeper.Change.{Change}
use Rattle.gno_port.specs.Tables.{Table, applied, latest}
use Rattle.gno_port.specs.Keeping.{Puts}
use Rattle.gno_port.proofs.TableLemmas.{get-applied, latest-append}
use Rattle.gno_items.specs.declared.memory.Package.{Package}
use Rattle.gno_items.specs.Memory.{package_of}
use Rattle.gno_table.specs.Rows.{added_rows, all_rows, rows_from, package_rows, format_row, LeaveSame}
use Rattle.gno_table.specs.FirstFormat.{Holds, IsFirst, Stands}
use Rattle.gno_items.specs.Well.{IsWell, IsWellPackage}

pub rows_from-append : (order : ℕ) (ps : List Package) (p : Package) → rows_from order (ps ++ p ∷ []) ≡ rows_from order ps ++ package_rows (order + length ps) p
rows_from-append order [] p = simp append-nil (ap (λ (n : ℕ). package_rows n p) (sym (add-zero order)))
rows_from-append order (q ∷ qs) p =
    ap (λ t. package_rows order q ++ t) (rows_from-append (order + 1) qs p ∙ ap (λ (n : ℕ). rows_from (order + 1) qs ++ package_rows n p) (omega arith))
    ∙ sym (append_assoc (package_rows order q) (rows_from (order + 1) qs) (package_rows (order + length (q ∷ qs)) p))

pub added_holds : (table : Table) (memory : List Package) (p : Package) → Holds table (all_rows memory) →
    Holds (applied (package_rows (length memory) p) table) (all_rows (memory ++ p ∷ []))
added_holds table memory p h key =
    get-applied (package_rows (length memory) p) table key ∙ ap (latest (package_rows (length memory) p) key) (h key)
    ∙ sym (latest-append (all_rows memory) (package_rows (length memory) p) key None)
    ∙ ap (λ (rows : List Change). latest (format_row ∷ rows) key None)
    (sym (rows_from-append 0 memory p ∙ ap (λ (n : ℕ). rows_from 0 memory ++ package_rows n p) (omega arith)))

-- the row of the format, once more
again : (key : List ℕ) (rows : List Change) → latest (format_row ∷ rows) key (latest (all_rows []) key None) ≡ latest (format_row ∷ rows) key None
again key rows = elim (bytes_eq key (70 ∷ [])) as (λ b. latest rows key (cond b (Some (0 ∷ [])) (cond b (Some (0 ∷ [])) None)) ≡ latest rows key (cond b (Some (0 ∷ [])) None)) [ true ↦ refl | false ↦ refl ]

-- the first package comes with the row of the format
abbrev pub no_package : List Package
no_package = []

pub first_holds : (table : Table) (p : Package) → Holds table (all_rows []) ⊎ ((no_package ≡ []) × Holds table []) →
    Holds (applied (format_row ∷ package_rows 0 p) table) (all_rows (p ∷ []))
first_holds table p (inl h) key =
    get-applied (format_row ∷ package_rows 0 p) table key ∙ ap (λ o. latest (format_row ∷ package_rows 0 p) key o) (h key)
    ∙ ap (λ (rows : List Change). latest (format_row ∷ rows) key (latest (all_rows []) key None)) (sym (append-nil (package_rows 0 p)))
    ∙ again key (package_rows 0 p ++ [])
first_holds table p (inr h) key =
    get-applied (format_row ∷ package_rows 0 p) table key ∙ ap (λ o. latest (format_row ∷ package_rows 0 p) key o) (h.1 key)
    ∙ ap (λ (rows : List Change). latest (format_row ∷ rows) key None) (sym (append-nil (package_rows 0 p)))

pub package_of-append : (ps : List Package) (p : Package) (path : List ℕ) → package_of ps path ≡ None → bytes_eq p.path path ≡ false → package_of (ps ++ p ∷ []) path ≡ None
package_of-append [] p path e n = rw n
package_of-append (q ∷ qs) p path e n =
    elim (bytes_eq q.path path) as (λ b. cond b (Some q) (package_of qs path) ≡ None → cond b (Some q) (package_of (qs ++ p ∷ []) path) ≡ None) [ true ↦ λ h. h | false ↦ λ h. package_of-append qs p path h n ] e

pub other_path : (q : Package) (path : List ℕ) (qs : List Package) → package_of (q ∷ qs) path ≡ None → (bytes_eq q.path path ≡ false) × (package_of qs path ≡ None)
other_path q path qs e =
    elim (bytes_eq q.path path) as (λ b. cond b (Some q) (package_of qs path) ≡ None → (b ≡ false) × (package_of qs path ≡ None)) [ true ↦ λ h. cc | false ↦ λ h. (refl, h) ] e

pub bytes_eq-sym : (a b : List ℕ) → bytes_eq a b ≡ false → bytes_eq b a ≡ false
bytes_eq-sym a b e = search (rules, bytes_eq-Decides)

pub IsWell-append : (ps : List Package) (p : Package) → IsWell ps → IsWellPackage p → package_of ps p.path ≡ None → IsWell (ps ++ p ∷ [])
IsWell-append [] p w wp e = (wp, refl, tt)
IsWell-append (q ∷ qs) p w wp e =
    let o = other_path q p.path qs e in
    (w.0, package_of-append qs p q.path w.1 (bytes_eq-sym q.path p.path o.0), IsWell-append qs p w.2 wp o.1)

not_none : (n : ℕ) → nat_eq (suc n) 0 ≡ false
not_none n = grind (arith, nat_tests)

no_nil : (q : Package) (qs : List Package) → q ∷ qs ≡ [] → ⊥
no_nil q qs e = cc

pub IsFirst-append : (table : Table) (memory : List Package) (p : Package) → IsFirst table memory → IsWellPackage p → package_of memory p.path ≡ None → length (memory ++ p ∷ []) < 2 ^ 63 →
    IsFirst (applied (added_rows memory p) table) (memory ++ p ∷ [])
IsFirst-append table [] p f wp e few = record { well = IsWell-append [] p f.well wp e; few = few; rows = inl (first_holds table p f.rows) }
IsFirst-append table (q ∷ qs) p f wp e few = record {
  well = IsWell-append (q ∷ qs) p f.well wp e;
  few = few;
  rows = rw (not_none (length qs)) (elim f.rows [ inl h ↦ inl (added_holds table (q ∷ qs) p h) | inr h ↦ absurd (no_nil q qs h.0) ]);
}

-- changes that leave the same as rows make the same table
same_get : (changes rows : List Change) (table : Table) (key : List ℕ) → LeaveSame changes rows → get (applied changes table) key ≡ get (applied rows table) key
same_get changes rows table key same = get-applied changes table key ∙ same key (get table key) ∙ sym (get-applied rows table key)

pub IsFirst-same : (changes rows : List Change) (table : Table) (memory : List Package) → LeaveSame changes rows → IsFirst (applied rows table) memory → IsFirst (applied changes table) memory
IsFirst-same changes rows table memory same f = record {
  well = f.well;
  few = f.few;
  rows = elim f.rows [ inl h ↦ inl (λ key. same_get changes rows table key same ∙ h key) | inr h ↦ inr (h.0, λ key. same_get changes rows table key same ∙ h.1 key) ];
}

pub Stands-append : (o : Option Table) (memory : List Package) (p : Package) (changes : List Change) → Stands o memory → IsWellPackage p → package_of memory p.path ≡ None → length (memory ++ p ∷ []) < 2 ^ 63 → LeaveSame changes (added_rows memory p) →
    Stands (option_map (applied changes) o) (memory ++ p ∷ [])
Stands-append None memory p changes s wp e few same = (IsWell-append memory p s.0 wp e, few)
Stands-append (Some table) memory p changes s wp e few same = IsFirst-same changes (added_rows memory p) table (memory ++ p ∷ []) same (IsFirst-append table memory p s wp e few)

pub stands_added : (old new : List ℕ → Option Table) (name name' : List ℕ) (changes : List Change) (memory memory' : List Package) (p : Package) →
    Stands (old name) memory → IsWellPackage p → package_of memory p.path ≡ None → length memory' < 2 ^ 63 → Puts old new name changes → name' ≡ name →
    LeaveSame changes (added_rows memory p) → memory' ≡ memory ++ p ∷ [] → Stands (new name') memory'
stands_added old new name name' changes memory memory' p s wp e few puts same leave after =
    let few' : length (memory ++ p ∷ []) < 2 ^ 63 = subst (λ (m : List Package). length m < 2 ^ 63) after few in
    rw (same, after, puts.open_table) (Stands-append (old name) memory p changes s wp e few' leave)

-- a table that is told goes on being told
pub told_after : (old new : List ℕ → Option Table) (name : List ℕ) (changes : List Change) → Puts old new name changes → IsSome (old name) → IsSome (new name)
told_after old new name changes puts is = subst (λ (o : Option Table). IsSome o) (sym puts.open_table) (mapped (old name) is)
  where
    mapped : (o : Option Table) → IsSome o → IsSome (option_map (applied changes) o)
    mapped None is = is
    mapped (Some table) is = refl

pub told_same : (old new : List ℕ → Option Table) (name : List ℕ) → new ≡ old → IsSome (old name) → IsSome (new name)
told_same old new name same is = subst (λ (t : List ℕ → Option Table). IsSome (t name)) (sym same) is

pub ruleset still_told = (told_after, told_same)

pub ruleset well_append = (IsWell-append)

pub at_package : (ps : List Package) (at : ℕ) (p : Package) → at < length ps → p ≡ get_or ps at p → drop at ps ≡ p ∷ drop (at + 1) ps
at_package ps at p h e = rw (add-one, drop-cons ps at p) (ap (λ (q : Package). q ∷ drop (suc at) ps) (sym e))
