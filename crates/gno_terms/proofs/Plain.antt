-- Types that are lawful, typed and in their normal form.
use Rattle.std.proofs.Common.{◌≡◌, sym, subst, ℕ, ◌<◌, ◌^◌, true, false, List, [], ◌∷◌}
use Rattle.std.specs.Prelude.{⊤}
use Rattle.gno_scan.specs.Names.{IsName}
use Rattle.gno_terms.specs.declared.term.GoType.{GoType}
use Rattle.gno_terms.specs.declared.term.TermOf.{TermOf}
use Rattle.gno_terms.specs.declared.term.TermOf.TheVariants as t
use Rattle.gno_terms.specs.declared.term.FieldOf.{FieldOf}
use Rattle.gno_terms.specs.declared.term.MethodOf.{MethodOf}
use Rattle.gno_terms.specs.Terms.{term_of, type_of, parts}
use Rattle.gno_terms.specs.Lawful.{IsPath, Each, Last, is_slice, is_function}
use Rattle.gno_terms.proofs.Layers.{term_of-type_of}
use Rattle.gno_terms.proofs.Members.{IsPackage}

abbrev pub IsMember : List ℕ → List ℕ → Type 0
IsMember name path = IsName name × IsPackage path

abbrev pub IsPlainMethod : MethodOf GoType → Type 0
IsPlainMethod m = IsMember m.name m.«package» × (is_function (term_of m.of) ≡ true) × (m.pointer ≡ false)

abbrev pub IsPlainField : FieldOf GoType → Type 0
IsPlainField f = IsMember f.name f.«package»

abbrev pub EndsInSlice : List GoType → Type 0
EndsInSlice ps = Last (λ s. is_slice (term_of s) ≡ true) ps

abbrev pub IsPlain : TermOf GoType → Type 0
IsPlain t.UntypedBool = ⊥
IsPlain t.UntypedWhole = ⊥
IsPlain t.UntypedRune = ⊥
IsPlain t.UntypedText = ⊥
IsPlain t.UntypedNil = ⊥
IsPlain (t.Defined path name local) = IsPath path × IsName name × (local < 2 ^ 64)
IsPlain (t.Array n s) = n < 2 ^ 64
IsPlain (t.Function ps variadic rs) = variadic ≡ true → EndsInSlice ps
IsPlain (t.Struct fs) = Each IsPlainField fs
IsPlain (t.Interface ms) = Each IsPlainMethod ms
IsPlain _ = ⊤

mutual
  pub data Plain : GoType → Type 0 where
    plain : {s : GoType} → IsPlain (term_of s) → Plains (parts (term_of s)) → Plain s

  pub data Plains : List GoType → Type 0 where
    no_plain : Plains []
    one_more : {s : GoType} {ss : List GoType} → Plain s → Plains ss → Plains (s ∷ ss)

pub each_plain : {ss : List GoType} → Plains ss → Each Plain ss
each_plain no_plain = tt
each_plain (one_more p ps) = (p, each_plain ps)

pub plains : (ss : List GoType) → Each Plain ss → Plains ss
plains [] e = no_plain
plains (s ∷ ss) e = one_more e.0 (plains ss e.1)

pub plain_term : {s : GoType} → Plain s → IsPlain (term_of s)
plain_term (plain h ps) = h

pub plain_parts : {s : GoType} → Plain s → Each Plain (parts (term_of s))
plain_parts (plain h ps) = each_plain ps

pub made : (x : TermOf GoType) → IsPlain x → Each Plain (parts x) → Plain (type_of x)
made x h ps = plain (subst IsPlain (sym (term_of-type_of x)) h) (subst (λ y. Plains (parts y)) (sym (term_of-type_of x)) (plains (parts x) ps))
