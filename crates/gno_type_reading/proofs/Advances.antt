-- What is said takes bytes.
use Rattle.std.proofs.Common.{◌≡◌, refl, ap, sym, subst, true≢false, ℕ, zero, suc, ◌<◌, ◌≤◌, Bool, true, false, cond, arith, List, [], ◌∷◌, ◌++◌, length, length-drop, take, drop, Option, Some, None}
use Rattle.std.specs.Prelude.{⊤, codes}
use Rattle.std.specs.List.{list_all, prefix_len}
use Rattle.std.specs.Str.{bytes_eq}
use Rattle.gno_terms.specs.declared.term.TermOf.{TermOf}
use Rattle.gno_terms.specs.declared.term.TermOf.TheVariants as t
use Rattle.gno_terms.specs.declared.term.FieldOf.{FieldOf}
use Rattle.gno_terms.specs.declared.term.MethodOf.{MethodOf}
use Rattle.gno_type_reading.specs.declared.frame.FrameOf.{FrameOf}
use Rattle.gno_type_reading.specs.declared.frame.FrameOf.TheVariants as frame
use Rattle.gno_type_reading.specs.declared.frame.ActionOf.{ActionOf}
use Rattle.gno_type_reading.specs.declared.frame.ActionOf.TheVariants as act
use Rattle.gno_type_reading.specs.Turns.{Turn, turn, opened, closed, first_word, worded, marked, bracketed, sized, number_after, params, results, fields, field, methods, past_separator, member, word_at, behind_word, begins_with, field_with_type, method_with_type, in_name, in_word, defined, predeclared}

shrinks : (n : ℕ) (text : List ℕ) → length (drop n text) ≤ length text
shrinks n text = omega (arith, length-drop n text)

past_some : (n : ℕ) (text : List ℕ) → 0 < length text → 0 < n → length (drop n text) < length text
past_some n text h k = omega (arith, length-drop n text, h, k)

not_empty : (c : ℕ) (text : List ℕ) → begins_with c text ≡ true → 0 < length text
not_empty c [] e = absurd (true≢false (sym e))
not_empty c (b ∷ bs) e = omega arith

abbrev is_empty : List ℕ → Bool
is_empty [] = true
is_empty (x ∷ xs) = false

separator_within : (text : List ℕ) → length (past_separator text) ≤ length text
separator_within text = at (begins_with 59 text) (shrinks 2 text)
  where
    at : (b : Bool) → length (drop 2 text) ≤ length text → length (cond b (drop 2 text) text) ≤ length text
    at true h = h
    at false h = omega arith

less : {k m n : ℕ} → k ≤ m → m < n → k < n
less h k = omega (arith, h, k)

word_shorter : (n : ℕ) (b : ℕ) (bs text : List ℕ) → take n text ≡ b ∷ bs → length (drop n text) < length text
word_shorter zero b bs text e = absurd (true≢false (ap is_empty e))
word_shorter (suc n) b bs [] e = absurd (true≢false (ap is_empty e))
word_shorter (suc n) b bs (x ∷ xs) e = past_some (suc n) (x ∷ xs) (omega arith) (omega arith)

module _ {A : Type 0} where
  abbrev Within : ℕ → Turn A → Type 0
  Within n t = length t.rest ≤ n

  either : (n : ℕ) (b : Bool) (t u : Turn A) → Within n t → Within n u → Within n (cond b t u)
  either n true t u h k = h
  either n false t u h k = k

  results_within : (n : ℕ) (ps : List A) (v : Bool) (text : List ℕ) → length text ≤ n → Within n (results ps v text)
  results_within n ps v text h =
      let one = shrinks 1 text in
      let two = shrinks 2 text in
      either n (begins_with 32 text) (cond (begins_with 40 (drop 1 text)) (turn (act.Opened (frame.Results ps v [])) (drop 2 text)) (turn (act.Opened (frame.Result ps v)) (drop 1 text))) (turn (act.Made (t.Function ps v [])) text)
      (either n (begins_with 40 (drop 1 text)) (turn (act.Opened (frame.Results ps v [])) (drop 2 text)) (turn (act.Opened (frame.Result ps v)) (drop 1 text)) (omega (arith, two, h)) (omega (arith, one, h))) h

  params_within : (n : ℕ) (ps : List A) (text : List ℕ) → length text ≤ n → Within n (params ps text)
  params_within n ps text h =
      let one = shrinks 1 text in
      either n (begins_with 41 text) (results ps false (drop 1 text)) (turn (act.Opened (frame.Params ps (begins_with 46 text))) text) (results_within n ps false (drop 1 text) (omega (arith, one, h))) h

  field_within : (n : ℕ) (fs : List (FieldOf A)) (b : Bool) (text : List ℕ) → length text ≤ n → Within n (field fs b text)
  field_within n fs b text h =
      let word = shrinks (prefix_len in_word text) text in
      let one = shrinks 1 (behind_word text) in
      omega (arith, word, one, h)

  fields_within : (n : ℕ) (fs : List (FieldOf A)) (text : List ℕ) → length text ≤ n → Within n (fields fs text)
  fields_within n fs text h =
      let one = shrinks 1 text in
      either n (begins_with 125 text) (turn (act.Made (t.Struct fs)) (drop 1 text)) (cond (begins_with 33 text) (field fs true (drop 1 text)) (field fs false text)) (omega (arith, one, h))
      (either n (begins_with 33 text) (field fs true (drop 1 text)) (field fs false text) (field_within n fs true (drop 1 text) (omega (arith, one, h))) (field_within n fs false text h))

  methods_within : (n : ℕ) (ms : List (MethodOf A)) (text : List ℕ) → length text ≤ n → Within n (methods ms text)
  methods_within n ms text h =
      let one = shrinks 1 text in
      let word = shrinks (prefix_len in_word text) text in
      either n (begins_with 125 text) (turn (act.Made (t.Interface ms)) (drop 1 text)) (turn (act.Opened (frame.Method ms (member (word_at text)))) (behind_word text)) (omega (arith, one, h)) (omega (arith, word, h))

  pub closed_within : (x : FrameOf A) (of : A) (text : List ℕ) → length (closed x of text).rest ≤ length text
  unfolding closed
  closed_within frame.Pointer of text = omega arith
  closed_within frame.Slice of text = omega arith
  closed_within (frame.Array n) of text = omega arith
  closed_within frame.Key of text = shrinks 1 text
  closed_within (frame.Value key) of text = omega arith
  closed_within (frame.Params ps v) of text =
      either (length text) (begins_with 44 text) (params (ps ++ of ∷ []) (drop 2 text)) (results (ps ++ of ∷ []) v (drop 1 text))
      (params_within (length text) (ps ++ of ∷ []) (drop 2 text) (shrinks 2 text)) (results_within (length text) (ps ++ of ∷ []) v (drop 1 text) (shrinks 1 text))
  closed_within (frame.Result ps v) of text = omega arith
  closed_within (frame.Results ps v rs) of text =
      either (length text) (begins_with 44 text) (turn (act.Opened (frame.Results ps v (rs ++ of ∷ []))) (drop 2 text)) (turn (act.Made (t.Function ps v (rs ++ of ∷ []))) (drop 1 text)) (shrinks 2 text) (shrinks 1 text)
  closed_within (frame.Field fs m e) of text = fields_within (length text) (fs ++ field_with_type m e of ∷ []) (past_separator text) (separator_within text)
  closed_within (frame.Method ms m) of text = methods_within (length text) (ms ++ method_with_type m of ∷ []) (past_separator text) (separator_within text)

  -- fewer bytes are left, unless nothing is said
  abbrev pub Fewer : ℕ → ActionOf A → ℕ → Type 0
  Fewer n act.Refused k = ⊤
  Fewer n _ k = k < n

  abbrev pub Shorter : ℕ → Turn A → Type 0
  Shorter n t = Fewer n t.action (length t.rest)

  fewer : (n : ℕ) (x : ActionOf A) (k : ℕ) → k < n → Fewer n x k
  fewer n (act.Opened f) k h = h
  fewer n (act.Made f) k h = h
  fewer n act.Refused k h = tt

  choose : (n : ℕ) (b : Bool) (t u : Turn A) → (b ≡ true → length t.rest < n) → (b ≡ false → Shorter n u) → Shorter n (cond b t u)
  choose n true t u h k = fewer n t.action (length t.rest) (h refl)
  choose n false t u h k = k refl

  wider : (n m : ℕ) (x : ActionOf A) (k : ℕ) → m ≤ n → Fewer m x k → Fewer n x k
  wider n m (act.Opened f) k h s = omega (arith, h, s)
  wider n m (act.Made f) k h s = omega (arith, h, s)
  wider n m act.Refused k h s = tt

module _ (A : Type 0) where
  sized_within : (n : ℕ) (o : Option ℕ) (text : List ℕ) → length text ≤ n → Within n (sized {A = A} o text)
  sized_within n None text h = h
  sized_within n (Some k) text h = h

  bracketed_within : (n : ℕ) (text : List ℕ) → length text ≤ n → Within n (bracketed {A = A} text)
  bracketed_within n text h =
      let one = shrinks 1 text in
      let word = shrinks (prefix_len in_word text) text in
      let two = shrinks 1 (behind_word text) in
      either n (begins_with 93 text) (turn (act.Opened frame.Slice) (drop 1 text)) (sized (number_after 0 (word_at text)) (drop 1 (behind_word text))) (omega (arith, one, h))
      (sized_within n (number_after 0 (word_at text)) (drop 1 (behind_word text)) (omega (arith, word, two, h)))

  worded_within : (n : ℕ) (word text : List ℕ) → length text ≤ n → Within n (worded {A = A} word text)
  worded_within n word text h =
      let one = shrinks 1 text in
      let less : length (drop 1 text) ≤ n = omega (arith, one, h) in
      either n (bytes_eq word (codes "map")) (turn (act.Opened frame.Key) (drop 1 text)) _ less
      (either n (bytes_eq word (codes "func")) (params [] (drop 1 text)) _ (params_within n [] (drop 1 text) less)
      (either n (bytes_eq word (codes "struct")) (fields [] (drop 1 text)) _ (fields_within n [] (drop 1 text) less)
      (either n (bytes_eq word (codes "interface")) (methods [] (drop 1 text)) (turn (predeclared word) text) (methods_within n [] (drop 1 text) less) h)))

  marked_shorter : (text : List ℕ) → Shorter {A = A} (length text) (marked text)
  marked_shorter text =
      choose (length text) (begins_with 42 text) (turn (act.Opened frame.Pointer) (drop 1 text)) _ (λ e. past_some 1 text (not_empty 42 text e) (omega arith)) (λ _.
      choose (length text) (begins_with 91 text) (bracketed (drop 1 text)) _ (λ e. less (bracketed_within (length (drop 1 text)) (drop 1 text) (omega arith)) (past_some 1 text (not_empty 91 text e) (omega arith))) (λ _.
      choose (length text) (begins_with 40 text) (params [] (drop 1 text)) (turn act.Refused text) (λ e. less (params_within (length (drop 1 text)) [] (drop 1 text) (omega arith)) (past_some 1 text (not_empty 40 text e) (omega arith))) (λ _. tt)))

  -- behind a word
  first_word_shorter : (n : ℕ) (word text : List ℕ) → length text ≤ n → ((b : ℕ) (bs : List ℕ) → word ≡ b ∷ bs → length text < n) → Shorter {A = A} n (first_word word text)
  first_word_shorter n [] text h k = wider n (length text) (marked text).action (length (marked {A = A} text).rest) h (marked_shorter text)
  first_word_shorter n (b ∷ bs) text h k =
      choose n (list_all in_name (b ∷ bs)) (worded (b ∷ bs) text) (turn (defined (b ∷ bs)) text) (λ _. less (worded_within (length text) (b ∷ bs) text (omega arith)) (k b bs refl)) (λ _. fewer n (defined (b ∷ bs)) (length text) (k b bs refl))

  pub opened_shorter : (text : List ℕ) → Shorter {A = A} (length text) (opened text)
  unfolding opened
  opened_shorter text =
      choose (length text) (begins_with 46 text) (turn (act.Opened frame.Slice) (drop 3 text)) _ (λ e. past_some 3 text (not_empty 46 text e) (omega arith))
      (λ _. first_word_shorter (length text) (word_at text) (behind_word text) (shrinks (prefix_len in_word text) text) (λ b bs e. word_shorter (prefix_len in_word text) b bs text e))

  pub opened_fewer : (text : List ℕ) (f : FrameOf A) (rest : List ℕ) → turn (act.Opened f) rest ≡ opened text → length rest < length text
  opened_fewer text f rest e = subst (Shorter {A = A} (length text)) (sym e) (opened_shorter text)

  pub made_fewer : (text : List ℕ) (x : TermOf A) (rest : List ℕ) → turn (act.Made x) rest ≡ opened text → length rest < length text
  made_fewer text x rest e = subst (Shorter {A = A} (length text)) (sym e) (opened_shorter text)
