-- What is known of numbers in a table, and in a later one.
use Rattle.std.proofs.Common.{◌≡◌, refl, ap, sym, subst, ◌∙◌, ℕ, true, false, true≢false, List, [], ◌∷◌, Some}
use Rattle.std.specs.Prelude.{slice_get}
use Rattle.gno_terms.specs.declared.term.GoType.{GoType}
use Rattle.gno_terms.specs.declared.term.TypeRef.{TypeRef}
use Rattle.gno_terms.specs.declared.term.TermOf.{TermOf}
use Rattle.gno_terms.specs.declared.term.TermOf.TheVariants as t
use Rattle.gno_terms.specs.declared.term.DefinitionOf.{DefinitionOf}
use Rattle.gno_terms.specs.Lawful.{Each, IsTyped, is_untyped}
use Rattle.gno_terms.specs.Normal.{normal, normal_term}
use Rattle.gno_terms.specs.Tables.{Table, Is, Grows, Defines, type_at, type_or}
use Rattle.gno_terms.specs.Terms.{term_of, type_of, term_with, parts}
use Rattle.gno_terms.proofs.Layers.{term_of-type_of}
use Rattle.gno_terms.proofs.NormalTerms.{parts_of_normal}
use Rattle.gno_terms.proofs.Parts.{Each-map, Each-weaken, parts_with}
use Rattle.gno_terms.proofs.NormalTypes.{normal_of_normal_parts}
use Rattle.gno_type_rows.specs.RowTypes.{is_defined}
use Rattle.gno_type_reading.specs.Known.{Known, MayStand}
use Rattle.gno_type_reading.specs.TypeTexts.{IsDefinedBy, OverDefined, AllOverDefined, over, none, more}

module _ (table later : Table) (same : later.definitions ≡ table.definitions) where
  pub defined_later : (x : TermOf GoType) → IsDefinedBy table x → IsDefinedBy later x
  defined_later (t.Defined path name local) h = (h.0, subst (λ (ds : List (DefinitionOf GoType)). (k : ℕ) × (slice_get ds k ≡ Some h.0)) (sym same) h.1, h.2)
  defined_later _ h = tt

  mutual
    pub over_later : {s : GoType} → OverDefined table s → OverDefined later s
    over_later {s} (over o os) = over (defined_later (term_of s) o) (all_later os)

    all_later : {ss : List GoType} → AllOverDefined table ss → AllOverDefined later ss
    all_later none = none
    all_later (more o os) = more (over_later o) (all_later os)

  pub may_later : (x : TermOf GoType) → MayStand table x → MayStand later x
  may_later x h = record { lawful = h.lawful; typed = h.typed; known = defined_later x h.known }

  module _ (grown : Grows table later) where
    pub known_later : (r : TypeRef) → Known table r → Known later r
    known_later r k = record { type = k.type; is = grown r k.type k.is; typed = k.typed; over = over_later k.over }

    pub at_later : (r : TypeRef) → Known table r → type_at table.types r ≡ type_at later.types r
    at_later r k = ap type_or k.is ∙ sym (ap type_or (grown r k.type k.is))

pub known_at : (table : Table) (r : TypeRef) (k : Known table r) → type_at table.types r ≡ k.type
known_at table r k = ap type_or k.is

-- ---- a term of known parts

pub all_over : (table : Table) (ss : List GoType) → Each (OverDefined table) ss → AllOverDefined table ss
all_over table [] h = none
all_over table (s ∷ ss) h = more h.0 (all_over table ss h.1)

untyped_normal : (x : TermOf GoType) → is_untyped x ≡ false → is_untyped (normal_term x) ≡ false
untyped_normal (t.Struct fs) e = refl
untyped_normal (t.Interface ms) e = refl
untyped_normal _ e = e

defined_normal : (table : Table) (x : TermOf GoType) → IsDefinedBy table x → IsDefinedBy table (normal_term x)
defined_normal table (t.Struct fs) h = tt
defined_normal table (t.Interface ms) h = tt
defined_normal table (t.Defined path name local) h = h
defined_normal table _ h = tt

module _ (table : Table) (x : TermOf GoType) (normals : Each (λ s. normal s ≡ s) (parts x)) where
  of_normal : term_of (normal (type_of x)) ≡ normal_term x
  of_normal = ap term_of (normal_of_normal_parts x normals) ∙ term_of-type_of (normal_term x)

  pub made_typed : is_untyped x ≡ false → IsTyped (normal (type_of x))
  made_typed e = ap is_untyped of_normal ∙ untyped_normal x e

  pub made_over : IsDefinedBy table x → Each (OverDefined table) (parts x) → OverDefined table (normal (type_of x))
  made_over d h =
      over (subst (IsDefinedBy table) (sym of_normal) (defined_normal table x d))
      (subst (λ y. AllOverDefined table (parts y)) (sym of_normal) (all_over table (parts (normal_term x)) (parts_of_normal (OverDefined table) x h)))

-- ---- a term that the table took

abbrev Declared : Table → GoType → Type 0
Declared table s = (d : DefinitionOf GoType) × Defines table d × (d.of ≡ s)

pub other_term : (table : Table) (f : TypeRef → GoType) (x : TermOf TypeRef) → is_defined x ≡ false → IsDefinedBy table (term_with f x)
other_term table f (t.Defined path name local) e = absurd (true≢false e)
other_term table f _ e = tt

pub normal_defined : (path name : List ℕ) (local : ℕ) → normal (type_of (t.Defined path name local)) ≡ type_of (t.Defined path name local)
normal_defined path name local = normal_of_normal_parts (t.Defined path name local) tt

pub declared_term : (table : Table) (f : TypeRef → GoType) (x : TermOf TypeRef) → is_defined x ≡ true → Declared table (normal (type_of (term_with f x))) → IsDefinedBy table (term_with f x)
declared_term table f (t.Defined path name local) e d = (d.0, d.1, d.2 ∙ normal_defined path name local)
declared_term table f _ e d = tt

pub term_declared : (table : Table) (f : TypeRef → GoType) (x : TermOf TypeRef) → is_defined x ≡ true → IsDefinedBy table (term_with f x) → Declared table (normal (type_of (term_with f x)))
term_declared table f (t.Defined path name local) e h = (h.0, h.1, h.2 ∙ sym (normal_defined path name local))
term_declared table f _ e h = absurd (true≢false (sym e))

module _ (table later : Table) (same : later.definitions ≡ table.definitions) (x : TermOf TypeRef) (known : Each (Known table) (parts x)) (normals : (r : TypeRef) (s : GoType) → Is table r s → normal s ≡ s) where
  abbrev term : TermOf GoType
  term = term_with (type_at table.types) x

  each_part : (P : GoType → Type 0) → ((r : TypeRef) → Known table r → P (type_at table.types r)) → Each P (parts term)
  each_part P h = subst (Each P) (sym (parts_with (type_at table.types) x)) (Each-map P (type_at table.types) (parts x) (Each-weaken (Known table) (λ r. P (type_at table.types r)) h (parts x) known))

  untyped_with : (y : TermOf TypeRef) → is_untyped (term_with (type_at table.types) y) ≡ is_untyped y
  untyped_with (t.Basic kind) = refl
  untyped_with _ = refl

  pub known_made : (r : TypeRef) → is_untyped x ≡ false → IsDefinedBy later term → Is later r (normal (type_of term)) → Known later r
  known_made r untyped defined is =
      let all_normal = each_part (λ s. normal s ≡ s) (λ r k. subst (λ s. normal s ≡ s) (sym (known_at table r k)) (normals r k.type k.is)) in
      record {
        type = normal (type_of term);
        is = is;
        typed = made_typed later term all_normal (untyped_with x ∙ untyped);
        over = made_over later term all_normal defined (each_part (OverDefined later) (λ r k. subst (OverDefined later) (sym (known_at table r k)) (over_later table later same k.over)));
      }
