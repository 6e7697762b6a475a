-- The normal form of a type, by that of its term.
use Rattle.std.proofs.Common.{◌≡◌, refl, ap, ◌∙◌}
use Rattle.gno_terms.specs.declared.term.GoType.{GoType, map-GoType, fold-roll-GoType}
use Rattle.gno_terms.specs.declared.term.TermOf.{TermOf}
use Rattle.gno_terms.specs.declared.term.TermOf.TheVariants as t
use Rattle.gno_terms.specs.Lawful.{Each}
use Rattle.gno_terms.specs.Normal.{normal, normal_term}
use Rattle.gno_terms.specs.Terms.{type_of, term_with, parts}
use Rattle.gno_terms.proofs.NormalTerms.{parts_of_normal, normal_term_twice}
use Rattle.gno_terms.proofs.Parts.{term_with_alike, term_with_self}

pub map_term : {A B : Type 0} (f : A → B) (x : TermOf A) → (map-GoType A B f (record { term = x })).term ≡ term_with f x
map_term f (t.Basic kind) = refl
map_term f t.UntypedBool = refl
map_term f t.UntypedWhole = refl
map_term f t.UntypedRune = refl
map_term f t.UntypedText = refl
map_term f t.UntypedNil = refl
map_term f t.Error = refl
map_term f t.Realm = refl
map_term f (t.Defined path name local) = refl
map_term f (t.Pointer a) = refl
map_term f (t.Slice a) = refl
map_term f (t.Array n a) = refl
map_term f (t.Map a b) = refl
map_term f (t.Function ps variadic rs) = refl
map_term f (t.Struct fs) = refl
map_term f (t.Interface ms) = refl

pub normal_of : (x : TermOf GoType) → normal (type_of x) ≡ type_of (normal_term (term_with normal x))
unfolding normal
normal_of x = fold-roll-GoType GoType (λ y. type_of (normal_term y.term)) (record { term = x }) ∙ ap (λ y. type_of (normal_term y)) (map_term normal x)

-- a type whose parts are normal
pub normal_of_normal_parts : (x : TermOf GoType) → Each (λ s. normal s ≡ s) (parts x) → normal (type_of x) ≡ type_of (normal_term x)
normal_of_normal_parts x h = normal_of x ∙ ap (λ y. type_of (normal_term y)) (term_with_alike normal (λ s. s) x h ∙ term_with_self x)

pub normal_is_normal : (x : TermOf GoType) → Each (λ s. normal s ≡ s) (parts x) → normal (type_of (normal_term x)) ≡ type_of (normal_term x)
normal_is_normal x h = normal_of_normal_parts (normal_term x) (parts_of_normal (λ s. normal s ≡ s) x h) ∙ ap type_of (normal_term_twice x)
