-- How the texts of types begin.
use Rattle.std.proofs.Common.{◌≡◌, refl, ap, sym, ◌∙◌, true≢false, ℕ, Bool, true, false, ◌||◌, ◌==◌, eqb-true, arith, List, [], ◌∷◌, ◌++◌}
use Rattle.std.proofs.lemmas.Bool.{false_from_ne_true}
use Rattle.std.proofs.lemmas.Bool.Decides.{nat_tests}
use Rattle.gno_base.specs.Callers.{is_small_letter}
use Rattle.gno_base.specs.declared.kind.Kind.{Kind}
use Rattle.gno_base.specs.declared.kind.Kind.TheVariants as k
use Rattle.gno_terms.specs.declared.term.GoType.{GoType}
use Rattle.gno_terms.specs.declared.term.TermOf.{TermOf}
use Rattle.gno_terms.specs.declared.term.TermOf.TheVariants as t
use Rattle.gno_terms.specs.Lawful.{IsPath}
use Rattle.gno_terms.specs.Terms.{term_of}
use Rattle.gno_terms.specs.Texts.{kind_text, member_text, local_text, term_text, type_text}
use Rattle.gno_terms.proofs.Layers.{type_of-term_of, type_text-at}
use Rattle.gno_terms.proofs.Words.{begins, begins-append, weaken_first}
use Rattle.gno_terms.proofs.PathBytes.{path_begins}
use Rattle.gno_terms.proofs.Plain.{IsPlain, Plain, plain_term}
use Rattle.gno_terms.proofs.Shapes.{texts}

-- a text that begins with a byte that passes does not begin with one that fails
pub other_byte : (p : ℕ → Bool) (c : ℕ) (bs : List ℕ) → begins p bs ≡ true → p c ≡ false → begins (λ b. b == c) bs ≡ false
other_byte p c [] e f = refl
other_byte p c (b ∷ bs) e f = false_from_ne_true (b == c) (λ s. true≢false (sym e ∙ ap p (eqb-true b c s) ∙ f))

-- `*`, `[` or a small letter
abbrev pub is_opening : ℕ → Bool
is_opening b = b == 42 || (b == 91 || is_small_letter b)

kind_opens : (kind : Kind) (r : List ℕ) → begins is_opening (kind_text kind ++ r) ≡ true
kind_opens k.Bool r = refl
kind_opens _ r = refl

small_opening : (b : ℕ) → is_small_letter b ≡ true → is_opening b ≡ true
small_opening b e = grind (arith, nat_tests)

small_opens : (bs : List ℕ) → begins is_small_letter bs ≡ true → begins is_opening bs ≡ true
small_opens bs e = weaken_first is_small_letter is_opening small_opening bs e

member_opens : (name path : List ℕ) → IsPath path → begins is_small_letter (member_text name path) ≡ true
member_opens name [] p = absurd (true≢false (sym (path_begins [] p)))
member_opens name (b ∷ path) p = path_begins (b ∷ path) p

term_opens : (x : TermOf GoType) (r : List ℕ) → IsPlain x → begins is_opening (term_text (texts x) ++ r) ≡ true
term_opens (t.Basic kind) r p = kind_opens kind r
term_opens (t.Defined path name local) r p =
    let text = member_text name path ++ local_text local in
    begins-append is_opening text r (small_opens text (begins-append is_small_letter (member_text name path) (local_text local) (member_opens name path p.0)))
term_opens t.UntypedBool r p = absurd p
term_opens t.UntypedWhole r p = absurd p
term_opens t.UntypedRune r p = absurd p
term_opens t.UntypedText r p = absurd p
term_opens t.UntypedNil r p = absurd p
term_opens _ r p = refl

-- the text of a type is that of its term
pub text_of : (s : GoType) → type_text s ≡ term_text (texts (term_of s))
text_of s = ap type_text (sym (type_of-term_of s)) ∙ type_text-at (term_of s)

pub opens : (s : GoType) (r : List ℕ) → Plain s → begins is_opening (type_text s ++ r) ≡ true
opens s r p = ap (λ l. begins is_opening (l ++ r)) (text_of s) ∙ term_opens (term_of s) r (plain_term p)

-- no other byte stands first
pub opens_not : (c : ℕ) → is_opening c ≡ false → (s : GoType) (r : List ℕ) → Plain s → begins (λ b. b == c) (type_text s ++ r) ≡ false
opens_not c f s r p = other_byte is_opening c (type_text s ++ r) (opens s r p) f
