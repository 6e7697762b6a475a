-- What is said looks at no part.
use Rattle.std.proofs.Common.{◌≡◌, refl, ap, ap₂, sym, subst, ◌∙◌, ℕ, Bool, true, false, cond, List, [], ◌∷◌, ◌++◌, map, drop, Option, Some, None}
use Rattle.std.specs.List.{list_all}
use Rattle.std.specs.Str.{bytes_eq}
use Rattle.std.proofs.lemmas.List.{map-append}
use Rattle.std.proofs.lemmas.Simd.{map-map}
use Rattle.gno_terms.specs.declared.term.TermOf.{TermOf}
use Rattle.gno_terms.specs.declared.term.TermOf.TheVariants as t
use Rattle.gno_terms.specs.declared.term.FieldOf.{FieldOf}
use Rattle.gno_terms.specs.declared.term.MethodOf.{MethodOf}
use Rattle.gno_terms.specs.Lawful.{Each}
use Rattle.gno_terms.specs.Terms.{field_of, field_with, method_of, method_with}
use Rattle.gno_terms.proofs.Parts.{Each-append, Each-left, Each-right, Each-map, Each-always, parts_with, term_with_alike}
use Rattle.gno_type_reading.specs.declared.frame.Member.{Member}
use Rattle.gno_type_reading.specs.declared.frame.FrameOf.{FrameOf}
use Rattle.gno_type_reading.specs.declared.frame.FrameOf.TheVariants as frame
use Rattle.gno_type_reading.specs.declared.frame.ActionOf.{ActionOf}
use Rattle.gno_type_reading.specs.declared.frame.ActionOf.TheVariants as act
use Rattle.gno_type_reading.specs.Frames.{frame_with, action_with, frame_parts, action_parts}
use Rattle.gno_type_reading.specs.Turns.{Turn, turn, Halves, cut, defined, defined_by, numbered, predeclared, opened, closed, first_word, worded, marked, bracketed, sized, number_after, params, results, fields, field, methods, further_param, further_result, past_separator, member, word_at, behind_word, begins_with, field_with_type, method_with_type, in_name}
use Rattle.std.specs.Prelude.{codes}

module _ {A B : Type 0} (f : A → B) where
  abbrev pub turn_with : Turn A → Turn B
  turn_with t = turn (action_with f t.action) t.rest

  through : (b : Bool) (t u : Turn A) (v w : Turn B) → turn_with t ≡ v → turn_with u ≡ w → turn_with (cond b t u) ≡ cond b v w
  through true t u v w e d = e
  through false t u v w e d = d

  through_action : (b : Bool) (x y : ActionOf A) (v w : ActionOf B) → action_with f x ≡ v → action_with f y ≡ w → action_with f (cond b x y) ≡ cond b v w
  through_action true x y v w e d = e
  through_action false x y v w e d = d

  results_with : (ps : List A) (v : Bool) (text : List ℕ) → turn_with (results ps v text) ≡ results (map f ps) v text
  results_with ps v text =
      through (begins_with 32 text) _ _ _ _ (through (begins_with 40 (drop 1 text)) (turn (act.Opened (frame.Results ps v [])) (drop 2 text)) (turn (act.Opened (frame.Result ps v)) (drop 1 text)) _ _ refl refl) refl

  params_with : (ps : List A) (text : List ℕ) → turn_with (params ps text) ≡ params (map f ps) text
  params_with ps text = through (begins_with 41 text) _ _ _ _ (results_with ps false (drop 1 text)) refl

  fields_with : (fs : List (FieldOf A)) (text : List ℕ) → turn_with (fields fs text) ≡ fields (map (field_with f) fs) text
  fields_with fs text =
      through (begins_with 125 text) _ _ _ _ refl (through (begins_with 33 text) (field fs true (drop 1 text)) (field fs false text) _ _ refl refl)

  methods_with : (ms : List (MethodOf A)) (text : List ℕ) → turn_with (methods ms text) ≡ methods (map (method_with f) ms) text
  methods_with ms text = through (begins_with 125 text) (turn (act.Made (t.Interface ms)) (drop 1 text)) (turn (act.Opened (frame.Method ms (member (word_at text)))) (behind_word text)) _ _ refl refl

  sized_with : (n : Option ℕ) (text : List ℕ) → turn_with (sized n text) ≡ sized n text
  sized_with None text = refl
  sized_with (Some n) text = refl

  bracketed_with : (text : List ℕ) → turn_with (bracketed text) ≡ bracketed text
  bracketed_with text = through (begins_with 93 text) (turn (act.Opened frame.Slice) (drop 1 text)) _ _ _ refl (sized_with (number_after 0 (word_at text)) (drop 1 (behind_word text)))

  marked_with : (text : List ℕ) → turn_with (marked text) ≡ marked text
  marked_with text =
      through (begins_with 42 text) (turn (act.Opened frame.Pointer) (drop 1 text)) _ _ _ refl
      (through (begins_with 91 text) (bracketed (drop 1 text)) _ _ _ (bracketed_with (drop 1 text))
      (through (begins_with 40 text) (params [] (drop 1 text)) (turn act.Refused text) _ _ (params_with [] (drop 1 text)) refl))

  predeclared_with : (word : List ℕ) → action_with f (predeclared word) ≡ predeclared word
  predeclared_with word =
      through_action (bytes_eq word (codes "bool")) _ _ _ _ refl (through_action (bytes_eq word (codes "string")) _ _ _ _ refl (through_action (bytes_eq word (codes "int")) _ _ _ _ refl
      (through_action (bytes_eq word (codes "int8")) _ _ _ _ refl (through_action (bytes_eq word (codes "int16")) _ _ _ _ refl (through_action (bytes_eq word (codes "int32")) _ _ _ _ refl
      (through_action (bytes_eq word (codes "int64")) _ _ _ _ refl (through_action (bytes_eq word (codes "uint")) _ _ _ _ refl (through_action (bytes_eq word (codes "uint8")) _ _ _ _ refl
      (through_action (bytes_eq word (codes "uint16")) _ _ _ _ refl (through_action (bytes_eq word (codes "uint32")) _ _ _ _ refl (through_action (bytes_eq word (codes "uint64")) _ _ _ _ refl
      (through_action (bytes_eq word (codes "error")) _ _ _ _ refl (through_action (bytes_eq word (codes "realm")) (act.Made t.Realm) act.Refused _ _ refl refl)))))))))))))

  worded_with : (word text : List ℕ) → turn_with (worded word text) ≡ worded word text
  worded_with word text =
      through (bytes_eq word (codes "map")) (turn (act.Opened frame.Key) (drop 1 text)) _ _ _ refl
      (through (bytes_eq word (codes "func")) (params [] (drop 1 text)) _ _ _ (params_with [] (drop 1 text))
      (through (bytes_eq word (codes "struct")) (fields [] (drop 1 text)) _ _ _ (fields_with [] (drop 1 text))
      (through (bytes_eq word (codes "interface")) (methods [] (drop 1 text)) (turn (predeclared word) text) _ _ (methods_with [] (drop 1 text)) (ap (λ x. turn x text) (predeclared_with word)))))

  numbered_with : (m : Member) (n : Option ℕ) → action_with f (numbered m n) ≡ numbered m n
  numbered_with m None = refl
  numbered_with m (Some n) = refl

  defined_with : (word : List ℕ) (o : Option Halves) → action_with f (defined_by word o) ≡ defined_by word o
  defined_with word None = refl
  defined_with word (Some halves) = numbered_with (member halves.front) (number_after 0 halves.back)

  first_word_with : (word text : List ℕ) → turn_with (first_word word text) ≡ first_word word text
  first_word_with [] text = marked_with text
  first_word_with (b ∷ bs) text =
      through (list_all in_name (b ∷ bs)) (worded (b ∷ bs) text) (turn (defined (b ∷ bs)) text) _ _ (worded_with (b ∷ bs) text) (ap (λ x. turn x text) (defined_with (b ∷ bs) (cut 35 (b ∷ bs))))

  pub opened_with : (text : List ℕ) → turn_with (opened text) ≡ opened text
  unfolding opened
  opened_with text = through (begins_with 46 text) (turn (act.Opened frame.Slice) (drop 3 text)) _ _ _ refl (first_word_with (word_at text) (behind_word text))

  further_param_with : (ps : List A) (v : Bool) (text : List ℕ) → turn_with (further_param ps v text) ≡ further_param (map f ps) v text
  further_param_with ps v text = through (begins_with 44 text) (params ps (drop 2 text)) (results ps v (drop 1 text)) _ _ (params_with ps (drop 2 text)) (results_with ps v (drop 1 text))

  further_result_with : (ps : List A) (v : Bool) (rs : List A) (text : List ℕ) → turn_with (further_result ps v rs text) ≡ further_result (map f ps) v (map f rs) text
  further_result_with ps v rs text = through (begins_with 44 text) (turn (act.Opened (frame.Results ps v rs)) (drop 2 text)) (turn (act.Made (t.Function ps v rs)) (drop 1 text)) _ _ refl refl

  pub closed_with : (x : FrameOf A) (of : A) (text : List ℕ) → turn_with (closed x of text) ≡ closed (frame_with f x) (f of) text
  unfolding closed
  closed_with frame.Pointer of text = refl
  closed_with frame.Slice of text = refl
  closed_with (frame.Array n) of text = refl
  closed_with frame.Key of text = refl
  closed_with (frame.Value key) of text = refl
  closed_with (frame.Params ps v) of text = further_param_with (ps ++ of ∷ []) v text ∙ ap (λ l. further_param l v text) (map-append f ps (of ∷ []))
  closed_with (frame.Result ps v) of text = refl
  closed_with (frame.Results ps v rs) of text = further_result_with ps v (rs ++ of ∷ []) text ∙ ap (λ l. further_result (map f ps) v l text) (map-append f rs (of ∷ []))
  closed_with (frame.Field fs m e) of text =
      fields_with (fs ++ field_with_type m e of ∷ []) (past_separator text) ∙ ap (λ l. fields l (past_separator text)) (map-append (field_with f) fs (field_with_type m e of ∷ []))
  closed_with (frame.Method ms m) of text =
      methods_with (ms ++ method_with_type m of ∷ []) (past_separator text) ∙ ap (λ l. methods l (past_separator text)) (map-append (method_with f) ms (method_with_type m of ∷ []))

-- frames whose parts are alike
module _ {A B : Type 0} (f g : A → B) where
  fields_in : TermOf B → List (FieldOf B)
  fields_in (t.Struct fs) = fs
  fields_in _ = []

  methods_in : TermOf B → List (MethodOf B)
  methods_in (t.Interface ms) = ms
  methods_in _ = []

  abbrev Alike : A → Type 0
  Alike a = f a ≡ g a

  alike_list : (xs : List A) → Each Alike xs → map f xs ≡ map g xs
  alike_list [] h = refl
  alike_list (x ∷ xs) h = ap₂ (λ y ys. y ∷ ys) h.0 (alike_list xs h.1)

  pub frame_alike : (x : FrameOf A) → Each Alike (frame_parts x) → frame_with f x ≡ frame_with g x
  unfolding fields_in methods_in
  frame_alike frame.Pointer h = refl
  frame_alike frame.Slice h = refl
  frame_alike (frame.Array n) h = refl
  frame_alike frame.Key h = refl
  frame_alike (frame.Value key) h = ap frame.Value h.0
  frame_alike (frame.Params ps v) h = ap (λ l. frame.Params l v) (alike_list ps h)
  frame_alike (frame.Result ps v) h = ap (λ l. frame.Result l v) (alike_list ps h)
  frame_alike (frame.Results ps v rs) h = ap₂ (λ l k. frame.Results l v k) (alike_list ps (Each-left Alike ps rs h)) (alike_list rs (Each-right Alike ps rs h))
  frame_alike (frame.Field fs m e) h = ap (λ x. frame.Field (fields_in x) m e) (term_with_alike f g (t.Struct fs) h)
  frame_alike (frame.Method ms m) h = ap (λ x. frame.Method (methods_in x) m) (term_with_alike f g (t.Interface ms) h)

-- what holds of the parts of a frame and of the next one holds of what is said
module _ {A : Type 0} (P : A → Type 0) where
  abbrev Holds : Turn A → Type 0
  Holds t = Each P (action_parts t.action)

  either : (b : Bool) (t u : Turn A) → Holds t → Holds u → Holds (cond b t u)
  either true t u h k = h
  either false t u h k = k

  either_action : (b : Bool) (x y : ActionOf A) → Each P (action_parts x) → Each P (action_parts y) → Each P (action_parts (cond b x y))
  either_action true x y h k = h
  either_action false x y h k = k

  results_hold : (ps : List A) (v : Bool) (text : List ℕ) → Each P ps → Holds (results ps v text)
  results_hold ps v text h =
      either (begins_with 32 text) (cond (begins_with 40 (drop 1 text)) (turn (act.Opened (frame.Results ps v [])) (drop 2 text)) (turn (act.Opened (frame.Result ps v)) (drop 1 text))) (turn (act.Made (t.Function ps v [])) text)
      (either (begins_with 40 (drop 1 text)) (turn (act.Opened (frame.Results ps v [])) (drop 2 text)) (turn (act.Opened (frame.Result ps v)) (drop 1 text)) (Each-append P ps [] h tt) h) (Each-append P ps [] h tt)

  params_hold : (ps : List A) (text : List ℕ) → Each P ps → Holds (params ps text)
  params_hold ps text h = either (begins_with 41 text) (results ps false (drop 1 text)) (turn (act.Opened (frame.Params ps (begins_with 46 text))) text) (results_hold ps false (drop 1 text) h) h

  fields_hold : (fs : List (FieldOf A)) (text : List ℕ) → Each P (map field_of fs) → Holds (fields fs text)
  fields_hold fs text h =
      either (begins_with 125 text) (turn (act.Made (t.Struct fs)) (drop 1 text)) (cond (begins_with 33 text) (field fs true (drop 1 text)) (field fs false text)) h
      (either (begins_with 33 text) (field fs true (drop 1 text)) (field fs false text) h h)

  methods_hold : (ms : List (MethodOf A)) (text : List ℕ) → Each P (map method_of ms) → Holds (methods ms text)
  methods_hold ms text h = either (begins_with 125 text) (turn (act.Made (t.Interface ms)) (drop 1 text)) (turn (act.Opened (frame.Method ms (member (word_at text)))) (behind_word text)) h h

  map_snoc : {X : Type 0} (g : X → A) (xs : List X) (x : X) → Each P (map g xs) → P (g x) → Each P (map g (xs ++ x ∷ []))
  map_snoc g [] x h k = (k, tt)
  map_snoc g (y ∷ ys) x h k = (h.0, map_snoc g ys x h.1 k)

  pub closed_hold : (x : FrameOf A) (of : A) (text : List ℕ) → Each P (frame_parts x) → P of → Holds (closed x of text)
  unfolding closed
  closed_hold frame.Pointer of text h k = (k, tt)
  closed_hold frame.Slice of text h k = (k, tt)
  closed_hold (frame.Array n) of text h k = (k, tt)
  closed_hold frame.Key of text h k = (k, tt)
  closed_hold (frame.Value key) of text h k = (h.0, (k, tt))
  closed_hold (frame.Params ps v) of text h k =
      let more = Each-append P ps (of ∷ []) h (k, tt) in
      either (begins_with 44 text) (params (ps ++ of ∷ []) (drop 2 text)) (results (ps ++ of ∷ []) v (drop 1 text)) (params_hold (ps ++ of ∷ []) (drop 2 text) more) (results_hold (ps ++ of ∷ []) v (drop 1 text) more)
  closed_hold (frame.Result ps v) of text h k = Each-append P ps (of ∷ []) h (k, tt)
  closed_hold (frame.Results ps v rs) of text h k =
      let more = Each-append P ps (rs ++ of ∷ []) (Each-left P ps rs h) (Each-append P rs (of ∷ []) (Each-right P ps rs h) (k, tt)) in
      either (begins_with 44 text) (turn (act.Opened (frame.Results ps v (rs ++ of ∷ []))) (drop 2 text)) (turn (act.Made (t.Function ps v (rs ++ of ∷ []))) (drop 1 text)) more more
  closed_hold (frame.Field fs m e) of text h k = fields_hold (fs ++ field_with_type m e of ∷ []) (past_separator text) (map_snoc field_of fs (field_with_type m e of) h k)
  closed_hold (frame.Method ms m) of text h k = methods_hold (ms ++ method_with_type m of ∷ []) (past_separator text) (map_snoc method_of ms (method_with_type m of) h k)

-- the parts through a function
module _ {A B : Type 0} (f : A → B) where
  frame_parts_with : (x : FrameOf A) → frame_parts (frame_with f x) ≡ map f (frame_parts x)
  frame_parts_with frame.Pointer = refl
  frame_parts_with frame.Slice = refl
  frame_parts_with (frame.Array n) = refl
  frame_parts_with frame.Key = refl
  frame_parts_with (frame.Value key) = refl
  frame_parts_with (frame.Params ps v) = refl
  frame_parts_with (frame.Result ps v) = refl
  frame_parts_with (frame.Results ps v rs) = sym (map-append f ps rs)
  frame_parts_with (frame.Field fs m e) = map-map field_of (field_with f) fs ∙ sym (map-map f field_of fs)
  frame_parts_with (frame.Method ms m) = map-map method_of (method_with f) ms ∙ sym (map-map f method_of ms)

  action_parts_with : (x : ActionOf A) → action_parts (action_with f x) ≡ map f (action_parts x)
  action_parts_with (act.Opened x) = frame_parts_with x
  action_parts_with (act.Made x) = parts_with f x
  action_parts_with act.Refused = refl

-- what is said first has no parts
pub opened_hold : {A : Type 0} (P : A → Type 0) (text : List ℕ) → Each P (action_parts (opened {A = A} text).action)
opened_hold {A} P text =
    let none : ⊥ → A = λ b. absurd b in
    let parts_of = action_parts (opened {A = ⊥} text).action in
    subst (λ (u : Turn A). Each P (action_parts u.action)) (opened_with none text)
    (subst (Each P) (sym (action_parts_with none (opened {A = ⊥} text).action)) (Each-map P none parts_of (Each-always (λ b. P (none b)) (λ b. absurd b) parts_of)))
