-- How many slots the values of a type have, and whether they compare.
use Rattle.std.specs.Prelude.{ℕ, ◌≡◌, ◌+◌, ◌*◌, List, [], ◌∷◌, map, Bool, true, false}
use Rattle.gno_terms.specs.declared.term.DefinitionOf.{DefinitionOf}
use Rattle.gno_terms.specs.declared.term.FieldOf.{FieldOf}
use Rattle.gno_terms.specs.declared.term.GoType.{GoType}
use Rattle.gno_terms.specs.declared.term.TermOf.{TermOf}
use Rattle.gno_terms.specs.declared.term.TermOf.TheVariants as t
use Rattle.gno_terms.specs.Tables.{Table, Defines}
use Rattle.gno_terms.specs.Terms.{term_of, field_of}
use Rattle.gno_type_rows.specs.RowTypes.{is_defined}

-- a value is one slot, and holds no other
abbrev pub is_single : {A : Type 0} → TermOf A → Bool
is_single (t.Defined path name local) = false
is_single (t.Array n a) = false
is_single (t.Struct fs) = false
is_single _ = true

-- Go specification, "Comparison operators": of values that are one slot
abbrev pub compares : {A : Type 0} → TermOf A → Bool
compares (t.Basic kind) = true
compares t.Error = true
compares (t.Pointer a) = true
compares (t.Interface ms) = true
compares _ = false

-- values of the type have n slots: one, and those of what it holds. A finite derivation, so that such a type does not hold itself
mutual
  pub data Slots (table : Table) : GoType → ℕ → Type 0 where
    one : {s : GoType} {n : ℕ} → is_single (term_of s) ≡ true → n ≡ 1 → Slots table s n
    of_array : {s : GoType} {n : ℕ} (length m : ℕ) (of : GoType) → term_of s ≡ t.Array length of → Slots table of m → n ≡ 1 + length * m → Slots table s n
    of_struct : {s : GoType} {n : ℕ} (fs : List (FieldOf GoType)) (m : ℕ) → term_of s ≡ t.Struct fs → SlotsOfAll table (map field_of fs) m → n ≡ 1 + m → Slots table s n
    of_defined : {s : GoType} {n : ℕ} (d : DefinitionOf GoType) → is_defined (term_of s) ≡ true → Defines table d → d.of ≡ s → Slots table d.underlying n → Slots table s n

  pub data SlotsOfAll (table : Table) : List GoType → ℕ → Type 0 where
    none : {n : ℕ} → n ≡ 0 → SlotsOfAll table [] n
    more : {s : GoType} {ss : List GoType} {n : ℕ} (a b : ℕ) → Slots table s a → SlotsOfAll table ss b → n ≡ a + b → SlotsOfAll table (s ∷ ss) n

-- Go specification, "Comparison operators": values of the type compare
mutual
  pub data IsComparable (table : Table) : GoType → Type 0 where
    by_kind : {s : GoType} → is_single (term_of s) ≡ true → compares (term_of s) ≡ true → IsComparable table s
    by_element : {s : GoType} (length : ℕ) (of : GoType) → term_of s ≡ t.Array length of → IsComparable table of → IsComparable table s
    by_fields : {s : GoType} (fs : List (FieldOf GoType)) → term_of s ≡ t.Struct fs → AreComparable table (map field_of fs) → IsComparable table s
    by_underlying : {s : GoType} (d : DefinitionOf GoType) → is_defined (term_of s) ≡ true → Defines table d → d.of ≡ s → IsComparable table d.underlying → IsComparable table s

  pub data AreComparable (table : Table) : List GoType → Type 0 where
    no_more : AreComparable table []
    one_more : {s : GoType} {ss : List GoType} → IsComparable table s → AreComparable table ss → AreComparable table (s ∷ ss)
