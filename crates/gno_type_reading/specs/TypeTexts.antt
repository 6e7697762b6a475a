-- The texts of types over types that are defined.
use Rattle.std.specs.Prelude.{ℕ, ◌≡◌, List, [], ◌∷◌, ⊤}
use Rattle.gno_terms.specs.declared.term.GoType.{GoType}
use Rattle.gno_terms.specs.declared.term.TermOf.{TermOf}
use Rattle.gno_terms.specs.declared.term.TermOf.TheVariants as t
use Rattle.gno_terms.specs.declared.term.DefinitionOf.{DefinitionOf}
use Rattle.gno_terms.specs.Lawful.{IsTyped, LawfulType}
use Rattle.gno_terms.specs.Normal.{normal}
use Rattle.gno_terms.specs.Tables.{Table, Defines}
use Rattle.gno_terms.specs.Terms.{term_of, type_of, parts}
use Rattle.gno_terms.specs.Texts.{type_text}

-- a defined type is defined by the table
abbrev pub IsDefinedBy : Table → TermOf GoType → Type 0
IsDefinedBy table (t.Defined path name local) = (d : DefinitionOf GoType) × Defines table d × (d.of ≡ type_of (t.Defined path name local))
IsDefinedBy table _ = ⊤

-- so is each in it, at any depth
mutual
  pub data OverDefined (table : Table) : GoType → Type 0 where
    over : {s : GoType} → IsDefinedBy table (term_of s) → AllOverDefined table (parts (term_of s)) → OverDefined table s

  pub data AllOverDefined (table : Table) : List GoType → Type 0 where
    none : AllOverDefined table []
    more : {s : GoType} {ss : List GoType} → OverDefined table s → AllOverDefined table ss → AllOverDefined table (s ∷ ss)

-- the text is that of a lawful type in its normal form, over types that are defined
pub record IsTypeText (table : Table) (text : List ℕ) (s : GoType) : Type 0 where
  pub lawful : LawfulType s
  pub typed : IsTyped s
  pub normal : normal s ≡ s
  pub over : OverDefined table s
  pub is : type_text s ≡ text
