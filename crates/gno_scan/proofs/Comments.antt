-- Where comments end.
use Rattle.std.proofs.Common.{◌≡◌, ◌≢◌, ◌∙◌, ◌≤◌, ◌<◌, ◌+◌, ◌-◌, ℕ, suc, List, [], ◌∷◌, ◌++◌, append_assoc, ap, refl, sym, subst, arith, length, take, drop, get_or, length-append, length-take}
use Rattle.std.specs.Prelude.{All}
use Rattle.std.proofs.lemmas.List.{get_or-take, take_more}
use Rattle.std.proofs.Math.Seq.{get_or-append_seam}
use Rattle.gno_scan.specs.Closing.{EndsFirst, StandsFirst}
use Rattle.gno_scan.specs.Longest.{Begins, IsLongest}
use Rattle.gno_scan.specs.Quoted.{HasNoEnd, IsGeneralComment, IsLineComment}
use Rattle.gno_scan.proofs.Fronts.{same_head, same_tail, take_front}

pub starts_with_two : (first second : ℕ) (text : List ℕ) → 2 ≤ length text → get_or text 0 0 ≡ first → get_or text 1 0 ≡ second → text ≡ first ∷ second ∷ drop 2 text
starts_with_two first second [] some a b = absurd (omega (arith, some))
starts_with_two first second (x ∷ []) some a b = absurd (omega (arith, some))
starts_with_two first second (x ∷ y ∷ rest) some a b = λ i. a i ∷ b i ∷ rest

-- a front without a byte goes no further than where the byte stands first
before_it : (b : ℕ) (front rest more behind : List ℕ) → All (λ x. x ≢ b) front → front ++ rest ≡ more ++ b ∷ behind → length front ≤ length more
before_it b [] rest more behind none e = omega arith
before_it b (x ∷ xs) rest [] behind none e = absurd (none 0 0 (omega arith) (same_head x b (xs ++ rest) behind e))
before_it b (x ∷ xs) rest (y ∷ ys) behind none e =
    omega (arith, before_it b xs rest ys behind (λ k d lt. none (suc k) d (omega (arith, lt))) (same_tail x y (xs ++ rest) (ys ++ b ∷ behind) e))

no_further : (b : ℕ) (front rest text : List ℕ) (at : ℕ) → StandsFirst b text at → All (λ x. x ≢ b) front → text ≡ front ++ rest → length front ≤ at
no_further b front rest text at first none parts =
    omega (arith, before_it b front rest (take at text) (drop (at + 1) text) none (sym parts ∙ first.parts), length-take at text, first.within)

pub longest_line : (text : List ℕ) (n : ℕ) → text ≡ 47 ∷ 47 ∷ drop 2 text → StandsFirst 10 (drop 2 text) n → IsLongest IsLineComment text (take (n + 2) text)
longest_line text n starts first =
    let inside = take n (drop 2 text) in
    let rest = 10 ∷ drop (n + 1) (drop 2 text) in
    let word = 47 ∷ 47 ∷ inside in
    let all : text ≡ word ++ rest = starts ∙ ap (λ l. 47 ∷ 47 ∷ l) first.parts in
    let size : length word ≡ n + 2 = omega (arith, length-take n (drop 2 text), first.within) in
    let front : take (n + 2) text ≡ word = rw (sym size) (ap (take (length word)) all ∙ take_front word rest) in
    record {
      spelled = record { inside = inside; spelled = front; one_line = first.before };
      begins = (rest, all ∙ ap (λ w. w ++ rest) (sym front));
      longest = λ other comment begins.
          let parts : drop 2 text ≡ comment.inside ++ begins.0 = ap (drop 2) (begins.1 ∙ ap (λ w. w ++ begins.0) comment.spelled) in
          let size' : length other ≡ length comment.inside + 2 = ap length comment.spelled ∙ omega arith in
          rw front (omega (arith, size, size', no_further 10 comment.inside begins.0 (drop 2 text) n first comment.one_line parts));
    }

no_more : (rest : List ℕ) → [] ≡ 47 ∷ rest → ⊥
no_more rest e = cc

no_end : (front rest : List ℕ) → [] ≡ front ++ 42 ∷ 47 ∷ rest → ⊥
no_end [] rest e = cc
no_end (f ∷ fs) rest e = cc

-- one more byte makes no end, unless it is a `/` behind a `*`
pub push_no_end : (text : List ℕ) (c : ℕ) → HasNoEnd text → ((front : List ℕ) → text ≡ front ++ 42 ∷ [] → c ≡ 47 → ⊥) → HasNoEnd (text ++ c ∷ [])
push_no_end [] c none last [] rest e = no_more rest (same_tail c 42 [] (47 ∷ rest) e)
push_no_end [] c none last (f ∷ fs) rest e = no_end fs rest (same_tail c f [] (fs ++ 42 ∷ 47 ∷ rest) e)
push_no_end (x ∷ []) c none last [] rest e =
    let tail = same_tail x 42 (c ∷ []) (47 ∷ rest) e in
    last [] (ap (λ y. y ∷ []) (same_head x 42 (c ∷ []) (47 ∷ rest) e)) (same_head c 47 [] rest tail)
push_no_end (x ∷ y ∷ ys) c none last [] rest e =
    let tail = same_tail x 42 (y ∷ ys ++ c ∷ []) (47 ∷ rest) e in
    none [] ys (λ i. (same_head x 42 (y ∷ ys ++ c ∷ []) (47 ∷ rest) e) i ∷ (same_head y 47 (ys ++ c ∷ []) rest tail) i ∷ ys)
push_no_end (x ∷ xs) c none last (f ∷ fs) rest e =
    push_no_end xs c (λ front more parts. none (x ∷ front) more (ap (λ l. x ∷ l) parts)) (λ front parts is. last (x ∷ front) (ap (λ l. x ∷ l) parts) is) fs rest (same_tail x f (xs ++ c ∷ []) (fs ++ 42 ∷ 47 ∷ rest) e)

last_of : (text : List ℕ) (at : ℕ) (front : List ℕ) → 1 ≤ at → at < length text → take at text ≡ front ++ 42 ∷ [] → get_or text (at - 1) 0 ≡ 42
last_of text at front begun within parts =
    let size : length front ≡ at - 1 = omega (arith, begun, within, length-take at text, ap length parts, length-append front (42 ∷ [])) in
    sym (get_or-take at text (at - 1) 0 (omega (arith, begun))) ∙ ap (λ t. get_or t (at - 1) 0) parts ∙ ap (λ n. get_or (front ++ 42 ∷ []) n 0) (sym size) ∙ get_or-append_seam front 42 [] 0

pub no_end_yet : (text : List ℕ) (at : ℕ) → 1 ≤ at → at < length text → HasNoEnd (take at text) → ((get_or text (at - 1) 0 ≡ 42) × (get_or text at 0 ≡ 47) → ⊥) → HasNoEnd (take (at + 1) text)
no_end_yet text at begun within none not_here =
    subst HasNoEnd (sym (take_more text at 0 within)) (push_no_end (take at text) (get_or text at 0) none (λ front parts is. not_here (last_of text at front begun within parts, is)))

-- a general comment that a text begins with, and what stands behind it
pub comment_parts : (text word : List ℕ) → IsGeneralComment word → Begins word text →
    (inside rest : List ℕ) × (drop 2 text ≡ inside ++ 42 ∷ 47 ∷ rest) × HasNoEnd (inside ++ 42 ∷ []) × (length word ≡ length inside + 4)
comment_parts text word comment begins =
    let all : text ≡ 47 ∷ 42 ∷ (comment.inside ++ 42 ∷ 47 ∷ begins.0) =
    begins.1 ∙ ap (λ w. w ++ begins.0) comment.spelled ∙ ap (λ l. 47 ∷ 42 ∷ l) (append_assoc comment.inside (42 ∷ 47 ∷ []) begins.0) in
    let size : length word ≡ length comment.inside + 4 = ap length comment.spelled ∙ omega (arith, length-append comment.inside (42 ∷ 47 ∷ [])) in
    (comment.inside, begins.0, ap (drop 2) all, comment.first_end, size)

tail_has_no_end : (x : ℕ) (xs : List ℕ) → HasNoEnd (x ∷ xs) → HasNoEnd xs
tail_has_no_end x xs none front rest parts = none (x ∷ front) rest (ap (λ l. x ∷ l) parts)

not_before : (x : ℕ) (xs rest rest' : List ℕ) → HasNoEnd (x ∷ xs ++ 42 ∷ []) → 42 ∷ 47 ∷ rest ≡ x ∷ xs ++ 42 ∷ 47 ∷ rest' → ⊥
not_before x [] rest rest' none e = omega (arith, same_head 47 42 rest (47 ∷ rest') (same_tail 42 x (47 ∷ rest) (42 ∷ 47 ∷ rest') e))
not_before x (y ∷ ys) rest rest' none e =
    let tail = same_tail 42 x (47 ∷ rest) (y ∷ ys ++ 42 ∷ 47 ∷ rest') e in
    none [] (ys ++ 42 ∷ []) (λ i. (sym (same_head 42 x (47 ∷ rest) (y ∷ ys ++ 42 ∷ 47 ∷ rest') e)) i ∷ (sym (same_head 47 y rest (ys ++ 42 ∷ 47 ∷ rest') tail)) i ∷ (ys ++ 42 ∷ []))

-- two fronts without an end, behind which one stands, have one length
same_end : (front front' rest rest' : List ℕ) → HasNoEnd (front ++ 42 ∷ []) → HasNoEnd (front' ++ 42 ∷ []) → front ++ 42 ∷ 47 ∷ rest ≡ front' ++ 42 ∷ 47 ∷ rest' → length front ≡ length front'
same_end [] [] rest rest' none none' e = refl
same_end [] (y ∷ ys) rest rest' none none' e = absurd (not_before y ys rest rest' none' e)
same_end (x ∷ xs) [] rest rest' none none' e = absurd (not_before x xs rest' rest none (sym e))
same_end (x ∷ xs) (y ∷ ys) rest rest' none none' e =
    ap suc (same_end xs ys rest rest' (tail_has_no_end x (xs ++ 42 ∷ []) none) (tail_has_no_end y (ys ++ 42 ∷ []) none') (same_tail x y (xs ++ 42 ∷ 47 ∷ rest) (ys ++ 42 ∷ 47 ∷ rest') e))

pub longest_comment : (text : List ℕ) (n : ℕ) → text ≡ 47 ∷ 42 ∷ drop 2 text → EndsFirst (drop 2 text) n → IsLongest IsGeneralComment text (take (n + 4) text)
longest_comment text n starts first =
    let inside = take n (drop 2 text) in
    let rest = drop (n + 2) (drop 2 text) in
    let word = 47 ∷ 42 ∷ (inside ++ 42 ∷ 47 ∷ []) in
    let all : text ≡ word ++ rest = starts ∙ ap (λ l. 47 ∷ 42 ∷ l) (first.parts ∙ sym (append_assoc inside (42 ∷ 47 ∷ []) rest)) in
    let size : length word ≡ n + 4 = omega (arith, length-append inside (42 ∷ 47 ∷ []), length-take n (drop 2 text), first.within) in
    let front : take (n + 4) text ≡ word = rw (sym size) (ap (take (length word)) all ∙ take_front word rest) in
    record {
      spelled = record { inside = inside; spelled = front; first_end = first.before };
      begins = (rest, all ∙ ap (λ w. w ++ rest) (sym front));
      longest = λ other comment begins.
          let q = comment_parts text other comment begins in
          let same : length inside ≡ length q.0 = same_end inside q.0 rest q.1 first.before q.3 (sym first.parts ∙ q.2) in
          rw front (omega (arith, q.4, same, size, length-append inside (42 ∷ 47 ∷ [])));
    }
