-- What the folds over types do at one layer.
use Rattle.std.proofs.Common.{◌≡◌, refl, ap, ◌∙◌, ℕ, List}
use Rattle.gno_terms.specs.declared.term.GoType.{GoType, fold-roll-GoType, map-GoType, out-roll-GoType, roll-out-GoType}
use Rattle.gno_terms.specs.declared.term.TermOf.{TermOf}
use Rattle.gno_terms.specs.declared.term.TermOf.TheVariants as t
use Rattle.gno_terms.specs.Terms.{term_of, type_of, term_with}
use Rattle.gno_terms.specs.Normal.{normal, normal_term}
use Rattle.gno_terms.specs.Texts.{type_text, term_text}

-- a type has the parts that it is made of
pub term_of-type_of : (x : TermOf GoType) → term_of (type_of x) ≡ x
term_of-type_of x = ap (λ l. l.term) (out-roll-GoType (record { term = x }))

pub type_of-term_of : (s : GoType) → type_of (term_of s) ≡ s
type_of-term_of s = roll-out-GoType s

mapped : (B : Type 0) (f : GoType → B) (x : TermOf GoType) → (map-GoType GoType B f (record { term = x })).term ≡ term_with f x
mapped B f (t.Basic kind) = refl
mapped B f _ = refl

pub type_text-at : (x : TermOf GoType) → type_text (type_of x) ≡ term_text (term_with type_text x)
unfolding type_text
type_text-at x = fold-roll-GoType (List ℕ) (λ l. term_text l.term) (record { term = x }) ∙ ap term_text (mapped (List ℕ) type_text x)

pub normal-at : (x : TermOf GoType) → normal (type_of x) ≡ type_of (normal_term (term_with normal x))
unfolding normal
normal-at x = fold-roll-GoType GoType (λ l. type_of (normal_term l.term)) (record { term = x }) ∙ ap (λ y. type_of (normal_term y)) (mapped GoType normal x)
