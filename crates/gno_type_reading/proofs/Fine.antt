-- What is known of each part of a type that is read.
use Rattle.std.proofs.Common.{◌≡◌, refl, ap, sym, subst, ◌∙◌, ℕ, false, List, [], ◌∷◌}
use Rattle.gno_terms.specs.declared.term.GoType.{GoType}
use Rattle.gno_terms.specs.declared.term.TermOf.{TermOf}
use Rattle.gno_terms.specs.declared.term.TermOf.TheVariants as t
use Rattle.gno_terms.specs.Lawful.{Each, LawfulType, LawfulTypes, lawful, none, more, is_untyped}
use Rattle.gno_terms.specs.Normal.{normal, normal_term}
use Rattle.gno_terms.specs.Tables.{Table}
use Rattle.gno_terms.specs.Terms.{term_of, type_of, term_with, parts}
use Rattle.gno_terms.proofs.Layers.{type_of-term_of, term_of-type_of}
use Rattle.gno_terms.proofs.NormalPlain.{normal_plain}
use Rattle.gno_terms.proofs.NormalTerms.{parts_of_normal}
use Rattle.gno_terms.proofs.NormalTypes.{normal_of, normal_is_normal}
use Rattle.gno_terms.proofs.Parts.{Each-map, parts_with}
use Rattle.gno_terms.proofs.Plain.{IsPlain, Plain, Plains, plain, no_plain, one_more}
use Rattle.gno_type_reading.specs.TypeTexts.{IsDefinedBy, OverDefined, AllOverDefined, IsTypeText}
use Rattle.gno_type_reading.specs.TypeTexts as over
use Rattle.gno_type_reading.specs.Known.{MayStand}

abbrev IsNormal : GoType → Type 0
IsNormal s = normal s ≡ s

normal_at : (s : GoType) → normal s ≡ type_of (normal_term (term_with normal (term_of s)))
normal_at s = ap normal (sym (type_of-term_of s)) ∙ normal_of (term_of s)

-- the parts of a normal form are normal, where normal forms of the parts are
normals : (x : TermOf GoType) → Each (λ p. IsNormal (normal p)) (parts x) → Each IsNormal (parts (term_with normal x))
normals x h = subst (Each IsNormal) (sym (parts_with normal x)) (Each-map IsNormal normal (parts x) h)

mutual
  twice : {s : GoType} → LawfulType s → IsNormal (normal s)
  twice {s} (lawful h hs) = subst IsNormal (sym (normal_at s)) (normal_is_normal (term_with normal (term_of s)) (normals (term_of s) (all_twice hs)))

  all_twice : {ss : List GoType} → LawfulTypes ss → Each (λ p. IsNormal (normal p)) ss
  all_twice none = tt
  all_twice (more h hs) = (twice h, all_twice hs)

term_of_made : (x : TermOf GoType) (s : GoType) → s ≡ type_of x → term_of s ≡ x
term_of_made x s e = ap term_of e ∙ term_of-type_of x

normal_parts : (s : GoType) → IsNormal s → Each (λ p. IsNormal (normal p)) (parts (term_of s)) → Each IsNormal (parts (term_of s))
normal_parts s e h =
    let x = term_with normal (term_of s) in
    subst (λ (y : TermOf GoType). Each IsNormal (parts y)) (sym (term_of_made (normal_term x) s (sym e ∙ normal_at s))) (parts_of_normal IsNormal x (normals (term_of s) h))

-- what is known of a type, and of each of its parts
mutual
  pub data Fine (table : Table) : GoType → Type 0 where
    fine : {s : GoType} → MayStand table (term_of s) → IsPlain (term_of s) → IsNormal s → AllFine table (parts (term_of s)) → Fine table s

  pub data AllFine (table : Table) : List GoType → Type 0 where
    nothing : AllFine table []
    and : {s : GoType} {ss : List GoType} → Fine table s → AllFine table ss → AllFine table (s ∷ ss)

plain_typed : (x : TermOf GoType) → IsPlain x → is_untyped x ≡ false
plain_typed t.UntypedBool p = absurd p
plain_typed t.UntypedWhole p = absurd p
plain_typed t.UntypedRune p = absurd p
plain_typed t.UntypedText p = absurd p
plain_typed t.UntypedNil p = absurd p
plain_typed _ p = refl

module _ (table : Table) where
  mutual
    fine_of : {s : GoType} → LawfulType s → Plain s → OverDefined table s → IsNormal s → Fine table s
    fine_of {s} (lawful h hs) (plain p ps) (over.over o os) e =
        fine (record { lawful = h; typed = plain_typed (term_of s) p; known = o }) p e (all_fine hs ps os (normal_parts s e (all_twice hs)))

    all_fine : {ss : List GoType} → LawfulTypes ss → Plains ss → AllOverDefined table ss → Each IsNormal ss → AllFine table ss
    all_fine none no_plain over.none e = nothing
    all_fine (more h hs) (one_more p ps) (over.more o os) e = and (fine_of h p o e.0) (all_fine hs ps os e.1)

  pub fine_text : (text : List ℕ) (s : GoType) → IsTypeText table text s → Fine table s
  fine_text text s is = fine_of is.lawful (subst Plain is.normal (normal_plain is.lawful is.typed)) is.over is.normal
