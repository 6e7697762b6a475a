-- The texts of parameters and of results lead to the function.
use Rattle.std.proofs.Common.{◌≡◌, refl, ap, sym, subst, ◌∙◌, true≢false, ℕ, Bool, true, false, cond, arith, List, [], ◌∷◌, ◌++◌, append_assoc, codes, map, drop, ◌==◌}
use Rattle.std.proofs.lemmas.Bool.Decides.{nat_tests}
use Rattle.gno_terms.specs.declared.term.GoType.{GoType}
use Rattle.gno_terms.specs.declared.term.TermOf.{TermOf}
use Rattle.gno_terms.specs.declared.term.TermOf.TheVariants as t
use Rattle.gno_terms.specs.Lawful.{Each, is_slice}
use Rattle.gno_terms.specs.Tables.{Table}
use Rattle.gno_terms.specs.Terms.{term_of}
use Rattle.gno_terms.specs.Texts.{joined, variadic_texts, results_text, term_text, type_text}
use Rattle.gno_terms.proofs.Joined.{ends, is_end}
use Rattle.gno_terms.proofs.Openings.{opens, is_opening, text_of}
use Rattle.gno_terms.proofs.Plain.{Plain, EndsInSlice}
use Rattle.gno_terms.proofs.Shapes.{texts}
use Rattle.gno_type_reading.specs.declared.frame.FrameOf.{FrameOf}
use Rattle.gno_type_reading.specs.declared.frame.FrameOf.TheVariants as frame
use Rattle.gno_type_reading.specs.declared.frame.ActionOf.TheVariants as act
use Rattle.gno_type_reading.specs.Turns.{Turn, turn, closed, params, results, begins_with}
use Rattle.gno_type_reading.proofs.Leads.{LeadsTo, ActsTo, wants, by_closing, alike}
use Rattle.gno_type_reading.proofs.Comes.{Comes}
use Rattle.gno_type_reading.proofs.Opened.{begins_other, opened_slice, opened_dots}

pub slice_text : (s : GoType) → is_slice (term_of s) ≡ true → type_text s ≡ codes "[]" ++ drop 2 (type_text s)
slice_text s e = text_of s ∙ at (term_of s) e ∙ ap (λ l. codes "[]" ++ drop 2 l) (sym (text_of s))
  where
    at : (x : TermOf GoType) → is_slice x ≡ true → term_text (texts x) ≡ codes "[]" ++ drop 2 (term_text (texts x))
    at (t.Slice a) e = refl
    at _ e = absurd (true≢false (sym e))

-- the parameters' texts
abbrev pub texts_of : Bool → List GoType → List (List ℕ)
texts_of variadic ps = cond variadic (variadic_texts (map type_text ps)) (map type_text ps)

first_not : (c : ℕ) → is_opening c ≡ false → (p : GoType) (r : List ℕ) → Plain p → begins_with c (type_text p ++ r) ≡ false
first_not c e p r own = begins_other is_opening c (type_text p ++ r) (opens p r own) e

at_param : (before : List GoType) (text : List ℕ) → begins_with 41 text ≡ false → begins_with 46 text ≡ false → params before text ≡ turn (act.Opened (frame.Params before false)) text
at_param before text e d = ap (λ b. cond b (results before false (drop 1 text)) (turn (act.Opened (frame.Params before (begins_with 46 text))) text)) e ∙ ap (λ b. turn (act.Opened (frame.Params before b)) text) d

closed_last : (before : List GoType) (v : Bool) (p : GoType) (r : List ℕ) → closed (frame.Params before v) p (41 ∷ r) ≡ results (before ++ p ∷ []) v r
unfolding closed
closed_last before v p r = refl

closed_more : (before : List GoType) (p : GoType) (r : List ℕ) → closed (frame.Params before false) p (44 ∷ 32 ∷ r) ≡ params (before ++ p ∷ []) r
unfolding closed
closed_more before p r = refl

joined_variadic : (x y : List ℕ) (ys : List (List ℕ)) → joined (codes ", ") (variadic_texts (x ∷ y ∷ ys)) ≡ x ++ (44 ∷ 32 ∷ joined (codes ", ") (variadic_texts (y ∷ ys)))
joined_variadic x y [] = refl
joined_variadic x y (z ∷ zs) = refl

closed_result : (ps : List GoType) (v : Bool) (x : GoType) (r : List ℕ) → closed (frame.Result ps v) x r ≡ turn (act.Made (t.Function ps v (x ∷ []))) r
unfolding closed
closed_result ps v x r = refl

closed_results : (ps : List GoType) (v : Bool) (rs : List GoType) (x : GoType) (r : List ℕ) → closed (frame.Results ps v rs) x (41 ∷ r) ≡ turn (act.Made (t.Function ps v (rs ++ x ∷ []))) r
unfolding closed
closed_results ps v rs x r = refl

closed_some : (ps : List GoType) (v : Bool) (rs : List GoType) (x : GoType) (r : List ℕ) → closed (frame.Results ps v rs) x (44 ∷ 32 ∷ r) ≡ turn (act.Opened (frame.Results ps v (rs ++ x ∷ []))) r
unfolding closed
closed_some ps v rs x r = refl

-- what ends a text is no space
no_space : (r : List ℕ) → ends r ≡ true → begins_with 32 r ≡ false
no_space [] e = refl
no_space (b ∷ bs) e = other_end b e
  where
    other_end : (b : ℕ) → is_end b ≡ true → (b == 32) ≡ false
    other_end b e = grind (arith, nat_tests)

module _ (table : Table) (s : GoType) (frames : List (FrameOf GoType)) where
  -- one parameter that is not variadic
  one_param : (before : List GoType) (p : GoType) (r : List ℕ) (t : Turn GoType) → Plain p → Comes table s p → ends r ≡ true → closed (frame.Params before false) p r ≡ t → ActsTo table s frames t → ActsTo table s frames (params before (type_text p ++ r))
  one_param before p r t own comes e c h =
      subst (ActsTo table s frames) (sym (at_param before (type_text p ++ r) (first_not 41 refl p r own) (first_not 46 refl p r own)))
      (comes (frame.Params before false ∷ frames) r e (by_closing table s (frame.Params before false) frames p r t c h))

  -- the last one of a variadic function
  variadic_param : (before : List GoType) (p : GoType) (r : List ℕ) → is_slice (term_of p) ≡ true → Comes table s p → ActsTo table s frames (results (before ++ p ∷ []) true r) → ActsTo table s frames (params before ((codes "..." ++ drop 2 (type_text p)) ++ (41 ∷ r)))
  variadic_param before p r slice comes h =
      let rest = drop 2 (type_text p) ++ (41 ∷ r) in
      let over = frame.Params before true ∷ frames in
      alike table s over (91 ∷ 93 ∷ rest) (46 ∷ 46 ∷ 46 ∷ rest) (opened_slice rest ∙ sym (opened_dots rest))
      (subst (λ l. LeadsTo table s (wants over (l ++ (41 ∷ r)))) (slice_text p slice)
      (comes over (41 ∷ r) refl (by_closing table s (frame.Params before true) frames p (41 ∷ r) (results (before ++ p ∷ []) true r) (closed_last before true p r) h)))

  last_param : (v : Bool) (before : List GoType) (p : GoType) (r : List ℕ) → Plain p → (v ≡ true → is_slice (term_of p) ≡ true) → Comes table s p → ActsTo table s frames (results (before ++ p ∷ []) v r)
      → ActsTo table s frames (params before (joined (codes ", ") (texts_of v (p ∷ [])) ++ (41 ∷ r)))
  last_param true before p r own slice comes h = variadic_param before p r (slice refl) comes h
  last_param false before p r own slice comes h = one_param before p (41 ∷ r) (results (before ++ p ∷ []) false r) own comes refl (closed_last before false p r) h

  more_params : (v : Bool) (before : List GoType) (p : GoType) (ps : List GoType) (r : List ℕ) → Each Plain (p ∷ ps) → (v ≡ true → EndsInSlice (p ∷ ps)) → Each (Comes table s) (p ∷ ps)
      → ActsTo table s frames (results (before ++ p ∷ ps) v r) → ActsTo table s frames (params before (joined (codes ", ") (texts_of v (p ∷ ps)) ++ (41 ∷ r)))
  more_params v before p [] r own slice comes h = last_param v before p r own.0 slice comes.0 h
  more_params v before p (q ∷ qs) r own slice comes h =
      let rest = joined (codes ", ") (texts_of v (q ∷ qs)) ++ (41 ∷ r) in
      subst (λ l. ActsTo table s frames (params before l)) (sym (split v))
      (one_param before p (44 ∷ 32 ∷ rest) (params (before ++ p ∷ []) rest) own.0 comes.0 refl (closed_more before p rest)
      (more_params v (before ++ p ∷ []) q qs r own.1 slice comes.1 (subst (λ l. ActsTo table s frames (results l v r)) (sym (append_assoc before (p ∷ []) (q ∷ qs))) h)))
    where
      split : (v : Bool) → joined (codes ", ") (texts_of v (p ∷ q ∷ qs)) ++ (41 ∷ r) ≡ type_text p ++ (44 ∷ 32 ∷ (joined (codes ", ") (texts_of v (q ∷ qs)) ++ (41 ∷ r)))
      split true = ap (λ l. l ++ (41 ∷ r)) (joined_variadic (type_text p) (type_text q) (map type_text qs)) ∙ append_assoc (type_text p) (44 ∷ 32 ∷ joined (codes ", ") (texts_of true (q ∷ qs))) (41 ∷ r)
      split false = append_assoc (type_text p) (44 ∷ 32 ∷ joined (codes ", ") (texts_of false (q ∷ qs))) (41 ∷ r)

  pub params_lead : (v : Bool) (ps : List GoType) (r : List ℕ) → Each Plain ps → (v ≡ true → EndsInSlice ps) → Each (Comes table s) ps → ActsTo table s frames (results ps v r)
      → ActsTo table s frames (params [] (joined (codes ", ") (texts_of v ps) ++ (41 ∷ r)))
  params_lead true [] r own slice comes h = absurd (slice refl)
  params_lead false [] r own slice comes h = h
  params_lead v (p ∷ ps) r own slice comes h = more_params v [] p ps r own slice comes h

  -- the next of several results
  more_results : (ps : List GoType) (v : Bool) (before : List GoType) (x : GoType) (xs : List GoType) (r : List ℕ) → Each (Comes table s) (x ∷ xs)
      → ActsTo table s frames (turn (act.Made (t.Function ps v (before ++ x ∷ xs))) r) → LeadsTo table s (wants (frame.Results ps v before ∷ frames) (joined (codes ", ") (map type_text (x ∷ xs)) ++ (41 ∷ r)))
  more_results ps v before x [] r comes h =
      comes.0 (frame.Results ps v before ∷ frames) (41 ∷ r) refl
      (by_closing table s (frame.Results ps v before) frames x (41 ∷ r) (turn (act.Made (t.Function ps v (before ++ x ∷ []))) r) (closed_results ps v before x r) h)
  more_results ps v before x (y ∷ ys) r comes h =
      let rest = joined (codes ", ") (map type_text (y ∷ ys)) ++ (41 ∷ r) in
      subst (λ l. LeadsTo table s (wants (frame.Results ps v before ∷ frames) l)) (sym (append_assoc (type_text x) (44 ∷ 32 ∷ joined (codes ", ") (map type_text (y ∷ ys))) (41 ∷ r)))
      (comes.0 (frame.Results ps v before ∷ frames) (44 ∷ 32 ∷ rest) refl
      (by_closing table s (frame.Results ps v before) frames x (44 ∷ 32 ∷ rest) (turn (act.Opened (frame.Results ps v (before ++ x ∷ []))) rest) (closed_some ps v before x rest)
      (more_results ps v (before ++ x ∷ []) y ys r comes.1 (subst (λ l. ActsTo table s frames (turn (act.Made (t.Function ps v l)) r)) (sym (append_assoc before (x ∷ []) (y ∷ ys))) h))))

  no_result : (ps : List GoType) (v : Bool) (r : List ℕ) → ends r ≡ true → results ps v r ≡ turn (act.Made (t.Function ps v [])) r
  no_result ps v r e = ap (λ b. cond b (cond (begins_with 40 (drop 1 r)) (turn (act.Opened (frame.Results ps v [])) (drop 2 r)) (turn (act.Opened (frame.Result ps v)) (drop 1 r))) (turn (act.Made (t.Function ps v [])) r)) (no_space r e)

  one_result : (ps : List GoType) (v : Bool) (x : GoType) (r : List ℕ) → Plain x → results ps v (32 ∷ (type_text x ++ r)) ≡ turn (act.Opened (frame.Result ps v)) (type_text x ++ r)
  one_result ps v x r own = ap (λ b. cond b (turn (act.Opened (frame.Results ps v [])) (drop 1 (type_text x ++ r))) (turn (act.Opened (frame.Result ps v)) (type_text x ++ r))) (first_not 40 refl x r own)

  pub results_lead : (ps : List GoType) (v : Bool) (rs : List GoType) (r : List ℕ) → Each Plain rs → Each (Comes table s) rs → ends r ≡ true
      → ActsTo table s frames (turn (act.Made (t.Function ps v rs)) r) → ActsTo table s frames (results ps v (results_text (map type_text rs) ++ r))
  results_lead ps v [] r own comes e h = subst (ActsTo table s frames) (sym (no_result ps v r e)) h
  results_lead ps v (x ∷ []) r own comes e h =
      subst (ActsTo table s frames) (sym (one_result ps v x r own.0))
      (comes.0 (frame.Result ps v ∷ frames) r e (by_closing table s (frame.Result ps v) frames x r (turn (act.Made (t.Function ps v (x ∷ []))) r) (closed_result ps v x r) h))
  results_lead ps v (x ∷ y ∷ ys) r own comes e h =
      subst (λ l. LeadsTo table s (wants (frame.Results ps v [] ∷ frames) l)) (sym (append_assoc (joined (codes ", ") (map type_text (x ∷ y ∷ ys))) (41 ∷ []) r))
      (more_results ps v [] x (y ∷ ys) r comes h)
