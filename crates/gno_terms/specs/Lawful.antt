-- Which terms are lawful, over types of their parts.
use Rattle.std.specs.Prelude.{ℕ, ◌≡◌, ◌<◌, ◌^◌, List, [], ◌∷◌, ⊤, Bool, true, false, Some}
use Rattle.gno_base.specs.Paths.{kind_of}
use Rattle.gno_base.specs.declared.path.PathKind.{PathKind}
use Rattle.gno_scan.specs.Names.{IsName}
use Rattle.gno_terms.specs.declared.term.GoType.{GoType}
use Rattle.gno_terms.specs.declared.term.TermOf.{TermOf}
use Rattle.gno_terms.specs.declared.term.TermOf.TheVariants as t
use Rattle.gno_terms.specs.declared.term.FieldOf.{FieldOf}
use Rattle.gno_terms.specs.declared.term.MethodOf.{MethodOf}
use Rattle.gno_terms.specs.Exported.{is_exported}
use Rattle.gno_terms.specs.Terms.{term_of, parts}

-- the text is the path of a package
abbrev pub IsPath : List ℕ → Type 0
IsPath text = (kind : PathKind) × (kind_of text ≡ Some kind)

abbrev pub is_untyped : {A : Type 0} → TermOf A → Bool
is_untyped t.UntypedBool = true
is_untyped t.UntypedWhole = true
is_untyped t.UntypedRune = true
is_untyped t.UntypedText = true
is_untyped t.UntypedNil = true
is_untyped _ = false

abbrev pub is_slice : {A : Type 0} → TermOf A → Bool
is_slice (t.Slice a) = true
is_slice _ = false

abbrev pub is_function : {A : Type 0} → TermOf A → Bool
is_function (t.Function ps variadic rs) = true
is_function _ = false

-- it may be a part of another type
abbrev pub IsTyped : GoType → Type 0
IsTyped s = is_untyped (term_of s) ≡ false

-- each of a list
abbrev pub Each : {A : Type 0} → (A → Type 0) → List A → Type 0
Each P [] = ⊤
Each P (x ∷ xs) = P x × Each P xs

-- the last of a list
abbrev pub Last : {A : Type 0} → (A → Type 0) → List A → Type 0
Last P [] = ⊥
Last P (x ∷ []) = P x
Last P (x ∷ y ∷ ys) = Last P (y ∷ ys)

-- a name that is not exported belongs to a package
abbrev pub IsOwned : List ℕ → List ℕ → Type 0
IsOwned name path = is_exported name ≡ false → IsPath path

pub record IsLawfulField (f : FieldOf GoType) : Type 0 where
  pub name : IsName f.name
  pub owned : IsOwned f.name f.«package»
  pub typed : IsTyped f.of

pub record IsLawfulMethod (m : MethodOf GoType) : Type 0 where
  pub name : IsName m.name
  pub owned : IsOwned m.name m.«package»
  pub function : is_function (term_of m.of) ≡ true
  pub no_pointer : m.pointer ≡ false

pub record IsLawfulFunction (ps : List GoType) (variadic : Bool) (rs : List GoType) : Type 0 where
  pub params : Each IsTyped ps
  pub results : Each IsTyped rs
  pub last : variadic ≡ true → Last (λ s. is_slice (term_of s) ≡ true) ps

abbrev pub IsLawful : TermOf GoType → Type 0
IsLawful (t.Defined path name local) = IsPath path × IsName name × (local < 2 ^ 64)
IsLawful (t.Pointer s) = IsTyped s
IsLawful (t.Slice s) = IsTyped s
IsLawful (t.Array n s) = (n < 2 ^ 64) × IsTyped s
IsLawful (t.Map k s) = IsTyped k × IsTyped s
IsLawful (t.Function ps variadic rs) = IsLawfulFunction ps variadic rs
IsLawful (t.Struct fs) = Each IsLawfulField fs
IsLawful (t.Interface ms) = Each IsLawfulMethod ms
IsLawful _ = ⊤

-- each part of the type, and of its parts, is lawful
mutual
  pub data LawfulType : GoType → Type 0 where
    lawful : {s : GoType} → IsLawful (term_of s) → LawfulTypes (parts (term_of s)) → LawfulType s

  pub data LawfulTypes : List GoType → Type 0 where
    none : LawfulTypes []
    more : {s : GoType} {ss : List GoType} → LawfulType s → LawfulTypes ss → LawfulTypes (s ∷ ss)
