-- The texts of parameters and of results.
use Rattle.std.proofs.Common.{◌≡◌, refl, ap, sym, ◌∙◌, true≢false, ℕ, Bool, true, false, ◌||◌, ◌==◌, if◌then◌else◌, List, [], ◌∷◌, ◌++◌, append_assoc, codes, map, drop}
use Rattle.gno_terms.specs.declared.term.GoType.{GoType}
use Rattle.gno_terms.specs.declared.term.TermOf.{TermOf}
use Rattle.gno_terms.specs.declared.term.TermOf.TheVariants as t
use Rattle.gno_terms.specs.Lawful.{Each, is_slice}
use Rattle.gno_terms.specs.Terms.{term_of}
use Rattle.gno_terms.specs.Texts.{joined, variadic_texts, results_text, term_text, type_text}
use Rattle.gno_terms.proofs.Words.{begins}
use Rattle.gno_terms.proofs.Joined.{ends, Reads, same_joined}
use Rattle.gno_terms.proofs.Plain.{Plain, EndsInSlice}
use Rattle.gno_terms.proofs.Shapes.{texts}
use Rattle.gno_terms.proofs.Openings.{opens_not, text_of}

-- a parameter, and whether it is the last of a variadic function
abbrev pub Param : Type 0
Param = Bool × GoType

abbrev pub params_of : Bool → List GoType → List Param
params_of variadic [] = []
params_of variadic (s ∷ []) = (variadic, s) ∷ []
params_of variadic (s ∷ u ∷ ss) = (false, s) ∷ params_of variadic (u ∷ ss)

abbrev pub param_text : Param → List ℕ
param_text p = if p.0 then codes "..." ++ drop 2 (type_text p.1) else type_text p.1

abbrev pub IsPlainParam : Param → Type 0
IsPlainParam p = Plain p.1 × (p.0 ≡ true → is_slice (term_of p.1) ≡ true)

params_texts : (variadic : Bool) (ps : List GoType) → (if variadic then variadic_texts (map type_text ps) else map type_text ps) ≡ map param_text (params_of variadic ps)
params_texts true [] = refl
params_texts false [] = refl
params_texts true (p ∷ []) = refl
params_texts false (p ∷ []) = refl
params_texts true (p ∷ q ∷ ps) = ap (λ l. type_text p ∷ l) (params_texts true (q ∷ ps))
params_texts false (p ∷ q ∷ ps) = ap (λ l. type_text p ∷ l) (params_texts false (q ∷ ps))

-- the text of a slice is `[]` and what stands behind it
slice_text : (s : GoType) → is_slice (term_of s) ≡ true → type_text s ≡ codes "[]" ++ drop 2 (type_text s)
slice_text s e = text_of s ∙ at (term_of s) e ∙ ap (λ l. codes "[]" ++ drop 2 l) (sym (text_of s))
  where
    at : (x : TermOf GoType) → is_slice x ≡ true → term_text (texts x) ≡ codes "[]" ++ drop 2 (term_text (texts x))
    at (t.Slice a) e = refl
    at _ e = absurd (true≢false (sym e))

same_param : (v w : Bool) (s u : GoType) (r q : List ℕ) → Reads Plain type_text s → IsPlainParam (v, s) → IsPlainParam (w, u) → ends r ≡ true → ends q ≡ true
    → param_text (v, s) ++ r ≡ param_text (w, u) ++ q → ◌≡◌ {A = Param} (v, s) (w, u) × (r ≡ q)
same_param false false s u r q reads h k c d e = let t = reads u k.0 r q c d e in ((λ i. (false, t.0 i)), t.1)
same_param true false s u r q reads h k c d e = absurd (true≢false (ap (begins (λ b. b == 46)) e ∙ opens_not 46 refl u q k.0))
same_param false true s u r q reads h k c d e = absurd (true≢false (ap (begins (λ b. b == 46)) (sym e) ∙ opens_not 46 refl s r h.0))
same_param true true s u r q reads h k c d e =
    let inner = ap (λ l. codes "[]" ++ drop 3 l) e in
    let t = reads u k.0 r q c d (ap (λ l. l ++ r) (slice_text s (h.1 refl)) ∙ inner ∙ ap (λ l. l ++ q) (sym (slice_text u (k.1 refl)))) in
    ((λ i. (true, t.0 i)), t.1)

params_read : (variadic : Bool) (ps : List GoType) → Each (Reads Plain type_text) ps → Each IsPlainParam (params_of variadic ps) → Each (Reads IsPlainParam param_text) (params_of variadic ps)
params_read v [] reads h = tt
params_read v (p ∷ []) reads h = ((λ b k r q c d e. same_param v b.0 p b.1 r q reads.0 h.0 k c d e), tt)
params_read v (p ∷ q ∷ ps) reads h = ((λ b k r s c d e. same_param false b.0 p b.1 r s reads.0 h.0 k c d e), params_read v (q ∷ ps) reads.1 h.1)

pub params_plain : (variadic : Bool) (ps : List GoType) → Each Plain ps → (variadic ≡ true → EndsInSlice ps) → Each IsPlainParam (params_of variadic ps)
params_plain v [] p h = tt
params_plain v (s ∷ []) p h = ((p.0, h), tt)
params_plain v (s ∷ u ∷ ss) p h = ((p.0, λ e. absurd (true≢false (sym e))), params_plain v (u ∷ ss) p.1 h)

param_shown : (p : Param) (r : List ℕ) → IsPlainParam p → begins (λ b. b == 41) (param_text p ++ r) ≡ false
param_shown p r h = at p.0
  where
    at : (v : Bool) → begins (λ b. b == 41) ((if v then codes "..." ++ drop 2 (type_text p.1) else type_text p.1) ++ r) ≡ false
    at true = refl
    at false = opens_not 41 refl p.1 r h.0

-- parameters tell the types and whether the last is variadic
types_of : (variadic : Bool) (ps : List GoType) → map (λ (p : Param). p.1) (params_of variadic ps) ≡ ps
types_of v [] = refl
types_of v (p ∷ []) = refl
types_of v (p ∷ q ∷ ps) = ap (λ l. p ∷ l) (types_of v (q ∷ ps))

abbrev marked : List Param → Bool
marked [] = false
marked (p ∷ ps) = p.0 || marked ps

or_false : (b : Bool) → (b || false) ≡ b
or_false true = refl
or_false false = refl

variadic_of : (variadic : Bool) (ps : List GoType) → (variadic ≡ true → EndsInSlice ps) → marked (params_of variadic ps) ≡ variadic
variadic_of true [] h = absurd (h refl)
variadic_of false [] h = refl
variadic_of v (p ∷ []) h = or_false v
variadic_of v (p ∷ q ∷ ps) h = variadic_of v (q ∷ ps) h

module _ (v w : Bool) (ps qs : List GoType) (reads : Each (Reads Plain type_text) ps) (own : Each Plain ps) (others : Each Plain qs) (last : v ≡ true → EndsInSlice ps) (last₂ : w ≡ true → EndsInSlice qs) where
  abbrev listed : Bool → List GoType → List ℕ
  listed variadic ss = joined (codes ", ") (if variadic then variadic_texts (map type_text ss) else map type_text ss)

  -- equal texts of parameters are of the same
  pub same_params : (r q : List ℕ) → listed v ps ++ (41 ∷ r) ≡ listed w qs ++ (41 ∷ q) → (ps ≡ qs) × (v ≡ w) × (r ≡ q)
  same_params r q e =
      let own_params = params_plain v ps own last in
      let t = same_joined IsPlainParam param_text 44 41 refl refl refl (params_of v ps) (params_of w qs) r q (params_read v ps reads own_params) own_params (params_plain w qs others last₂) param_shown
      (ap (λ l. joined (codes ", ") l ++ (41 ∷ r)) (sym (params_texts v ps)) ∙ e ∙ ap (λ l. joined (codes ", ") l ++ (41 ∷ q)) (params_texts w qs)) in
      (sym (types_of v ps) ∙ ap (map (λ (p : Param). p.1)) t.0 ∙ types_of w qs, sym (variadic_of v ps last) ∙ ap marked t.0 ∙ variadic_of w qs last₂, t.1)

one_or_more : (r : List ℕ) {bs : List ℕ} → ends r ≡ true → r ≡ 32 ∷ bs → ⊥
one_or_more r c e = true≢false (sym c ∙ ap ends e)

one_or_list : (s : GoType) (r : List ℕ) {bs : List ℕ} → Plain s → type_text s ++ r ≡ 40 ∷ bs → ⊥
one_or_list s r p e = true≢false (sym (ap (begins (λ b. b == 40)) e) ∙ opens_not 40 refl s r p)

type_shown : (s : GoType) (r : List ℕ) → Plain s → begins (λ b. b == 41) (type_text s ++ r) ≡ false
type_shown s r p = opens_not 41 refl s r p

-- equal texts of results are of the same
pub same_results : (rs us : List GoType) (r q : List ℕ) → Each (Reads Plain type_text) rs → Each Plain rs → Each Plain us → ends r ≡ true → ends q ≡ true
    → results_text (map type_text rs) ++ r ≡ results_text (map type_text us) ++ q → (rs ≡ us) × (r ≡ q)
same_results [] [] r q reads h k c d e = (refl, e)
same_results [] (u ∷ []) r q reads h k c d e = absurd (one_or_more r c e)
same_results [] (u ∷ v ∷ us) r q reads h k c d e = absurd (one_or_more r c e)
same_results (s ∷ []) [] r q reads h k c d e = absurd (one_or_more q d (sym e))
same_results (s ∷ t ∷ rs) [] r q reads h k c d e = absurd (one_or_more q d (sym e))
same_results (s ∷ []) (u ∷ []) r q reads h k c d e = let t = reads.0 u k.0 r q c d (ap (drop 1) e) in (ap (λ x. x ∷ []) t.0, t.1)
same_results (s ∷ []) (u ∷ v ∷ us) r q reads h k c d e = absurd (one_or_list s r h.0 (ap (drop 1) e))
same_results (s ∷ t ∷ rs) (u ∷ []) r q reads h k c d e = absurd (one_or_list u q k.0 (ap (drop 1) (sym e)))
same_results (s ∷ t ∷ rs) (u ∷ v ∷ us) r q reads h k c d e =
    same_joined Plain type_text 44 41 refl refl refl (s ∷ t ∷ rs) (u ∷ v ∷ us) r q reads h k type_shown
    (sym (append_assoc (joined (codes ", ") (map type_text (s ∷ t ∷ rs))) (codes ")") r) ∙ ap (drop 2) e ∙ append_assoc (joined (codes ", ") (map type_text (u ∷ v ∷ us))) (codes ")") q)
