-- Reading line by line gives the items of the grammar, and no others.
use Rattle.std.proofs.Common.{◌≡◌, ℕ, List, [], ◌∷◌, ◌++◌, refl, ap, ◌∙◌, sym, true, false, subst, inl, inr, append_assoc, append-nil}
use Rattle.std.specs.Prelude.{Some, codes, ◌==◌}
use Rattle.std.specs.Option.{option_to_list}
use Rattle.std.specs.Str.{bytes_eq}
use Rattle.std.proofs.lemmas.Option.{none-some, same_Some, some_pair_parts}
use Rattle.std.proofs.lemmas.Slice.Eq.{bytes_eq-Decides}
use Rattle.std.proofs.lemmas.Bool.Decides.{Decides-eqb}
use Rattle.gno_base.specs.declared.names.NamedText.{NamedText}
use Rattle.gno_script.specs.declared.item.Item.{Item}
use Rattle.gno_script.specs.declared.item.Item.TheVariants.{Add, Call, Reload}
use Rattle.gno_script.specs.declared.heading.Heading.{Heading}
use Rattle.gno_script.specs.declared.stage.Stage.{Stage}
use Rattle.gno_script.specs.declared.stage.Stage.TheVariants.{Between, Called, Added, Filed}
use Rattle.gno_script.specs.declared.stage.Step.{Step}
use Rattle.gno_script.specs.Script.{is_skipped, IsCallLine, IsAddLine, IsFileLine, barred, text_of, IsScript, nothing, skipped, reload, call, add}
use Rattle.gno_script.specs.Reading.{step, run, between, begin, source, goes_on, ends, file_of}
use Rattle.gno_script.proofs.Options.{bound, mapped, chosen, chosen_some}
use Rattle.gno_script.proofs.FirstWords.{heading, file_of-is, file_of-tells, begin-call, begin-add, Begins, begins_call, begins_add, begin-tells}

abbrev pub named : List ℕ → List ℕ → NamedText
named name text = record { name = name; text = text }

-- what is left of an item, from each stage
pub record LeftOfCall (h : Heading) (function : List ℕ) (lines : List (List ℕ)) (items : List Item) : Type 0 where
  pub rest : List (List ℕ)
  pub more : List Item
  pub lines_are : lines ≡ codes "end" ∷ rest
  pub items_are : items ≡ Call h.budget h.caller h.path function ∷ more
  pub script : IsScript rest more

pub record LeftOfFile (h : Heading) (file : NamedText) (lines : List (List ℕ)) (items : List Item) : Type 0 where
  pub sources : List (List ℕ)
  pub rest : List (List ℕ)
  pub more : List Item
  pub lines_are : lines ≡ barred sources ++ codes "end" ∷ rest
  pub items_are : items ≡ Add h.budget h.caller h.path (named file.name (file.text ++ text_of sources)) ∷ more
  pub script : IsScript rest more

pub record LeftOfAdd (h : Heading) (lines : List (List ℕ)) (items : List Item) : Type 0 where
  pub file : List ℕ
  pub name : List ℕ
  pub rest : List (List ℕ)
  pub lines_are : lines ≡ file ∷ rest
  pub file_is : IsFileLine file name
  pub left : LeftOfFile h (named name []) rest items

abbrev pub Continues : Stage → List (List ℕ) → List Item → Type 0
Continues Between lines items = IsScript lines items
Continues (Called h function) lines items = LeftOfCall h function lines items
Continues (Added h) lines items = LeftOfAdd h lines items
Continues (Filed h file) lines items = LeftOfFile h file lines items

equal : (a b : List ℕ) → bytes_eq a b ≡ true → a ≡ b
equal a b e = (bytes_eq-Decides a b).0 e

-- a line goes before what continues behind it
abbrev Goes : Stage → List ℕ → Step → List (List ℕ) → List Item → Type 0
Goes stage line next lines items = Continues next.stage lines items → Continues stage (line ∷ lines) (option_to_list next.item ++ items)

begun : (line : List ℕ) (next : Step) (lines : List (List ℕ)) (items : List Item) → Begins line next → Goes Between line next lines items
begun line next lines items (begins_call h function l e) = subst (λ (t : Step). Goes Between line t lines items) e
    (λ k. rw (k.lines_are, k.items_are) (call line h.budget h.caller h.path function k.rest k.more l k.script))
begun line next lines items (begins_add h l e) = subst (λ (t : Step). Goes Between line t lines items) e
    (λ k. rw (k.lines_are, k.left.lines_are, k.left.items_are) (add line k.file h.budget h.caller h.path k.name k.left.sources k.left.rest k.left.more l k.file_is k.left.script))

back_between : (line : List ℕ) (next : Step) (lines : List (List ℕ)) (items : List Item) → between line ≡ Some next → Goes Between line next lines items
back_between line next lines items e =
    elim (chosen (is_skipped line) (Some (goes_on Between)) _ (Some next) e) [
      | inl h ↦ subst (λ (t : Step). Goes Between line t lines items) (same_Some (goes_on Between) next h.1) (λ k. skipped line lines items h.0 k)
      | inr h ↦ elim (chosen (bytes_eq line (codes "reload")) (Some (ends Reload)) (begin line) (Some next) h.1) [
        | inl r ↦ subst (λ (t : Step). Goes Between line t lines items) (same_Some (ends Reload) next r.1) (λ k. rw (equal line (codes "reload") r.0) (reload lines items k))
        | inr b ↦ begun line next lines items (begin-tells line next b.1)
      ]
    ]

back_source : (h : Heading) (file : NamedText) (line : List ℕ) (next : Step) (lines : List (List ℕ)) (items : List Item) → source h file line ≡ Some next → Goes (Filed h file) line next lines items
back_source h file [] next lines items e = absurd (none-some next e)
back_source h file (b ∷ bs) next lines items e =
    let c = chosen_some (b == 124) (Some (goes_on (Filed h (named file.name (file.text ++ (bs ++ 10 ∷ [])))))) next e in
    let s : b ≡ 124 = (Decides-eqb b 124).0 c.0 in
    subst (λ (t : Step). Goes (Filed h file) (b ∷ bs) t lines items) (same_Some (goes_on (Filed h (named file.name (file.text ++ (bs ++ 10 ∷ []))))) next c.1) (λ k. record {
      sources = bs ∷ k.sources;
      rest = k.rest;
      more = k.more;
      lines_are = ap (λ l. (b ∷ bs) ∷ l) k.lines_are ∙ ap (λ a. (a ∷ bs) ∷ (barred k.sources ++ codes "end" ∷ k.rest)) s;
      items_are = k.items_are ∙ ap (λ t. Add h.budget h.caller h.path (named file.name t) ∷ k.more) (append_assoc file.text (bs ++ 10 ∷ []) (text_of k.sources));
      script = k.script;
    })

back : (stage : Stage) (line : List ℕ) (next : Step) (lines : List (List ℕ)) (items : List Item) → step stage line ≡ Some next → Goes stage line next lines items
unfolding step
back Between line next lines items e = back_between line next lines items e
back (Called h function) line next lines items e =
    let c = chosen_some (bytes_eq line (codes "end")) (Some (ends (Call h.budget h.caller h.path function))) next e in
    subst (λ (t : Step). Goes (Called h function) line t lines items) (same_Some (ends (Call h.budget h.caller h.path function)) next c.1) (λ k. record {
      rest = lines;
      more = items;
      lines_are = ap (λ l. l ∷ lines) (equal line (codes "end") c.0);
      items_are = refl;
      script = k;
    })
back (Added h) line next lines items e =
    let m = mapped (λ (name : List ℕ). goes_on (Filed h (named name []))) (file_of line) next e in
    subst (λ (t : Step). Goes (Added h) line t lines items) m.2 (λ k. record { file = line; name = m.0; rest = lines; lines_are = refl; file_is = file_of-tells line m.0 m.1; left = k })
back (Filed h file) line next lines items e =
    elim (chosen (bytes_eq line (codes "end")) (Some (ends (Add h.budget h.caller h.path file))) (source h file line) (Some next) e) [
      | inl c ↦ subst (λ (t : Step). Goes (Filed h file) line t lines items) (same_Some (ends (Add h.budget h.caller h.path file)) next c.1) (λ k. record {
        sources = [];
        rest = lines;
        more = items;
        lines_are = ap (λ l. l ∷ lines) (equal line (codes "end") c.0);
        items_are = ap (λ t. Add h.budget h.caller h.path (named file.name t) ∷ items) (sym (append-nil file.text));
        script = k;
      })
      | inr c ↦ back_source h file line next lines items c.1
    ]

-- the parts of a run over one line and more
pub record Onward (stage : Stage) (line : List ℕ) (lines : List (List ℕ)) (items : List Item) (last : Stage) : Type 0 where
  pub next : Step
  pub rest : List Item × Stage
  pub steps : step stage line ≡ Some next
  pub runs : run next.stage lines ≡ Some rest
  pub items_are : option_to_list next.item ++ rest.0 ≡ items
  pub last_is : rest.1 ≡ last

pub onward : (stage : Stage) (line : List ℕ) (lines : List (List ℕ)) (items : List Item) (last : Stage) → run stage (line ∷ lines) ≡ Some (items, last) → Onward stage line lines items last
unfolding run
onward stage line lines items last e =
    let n = bound _ (step stage line) (items, last) e in
    let r = bound _ (run n.0.stage lines) (items, last) n.2 in
    let p = some_pair_parts (option_to_list n.0.item ++ r.0.0) items r.0.1 last r.2 in
    record { next = n.0; rest = r.0; steps = n.1; runs = r.1; items_are = p.0; last_is = p.1 }

pub sound : (lines : List (List ℕ)) (stage : Stage) (items : List Item) → run stage lines ≡ Some (items, Between) → Continues stage lines items
unfolding run
sound [] stage items e =
    let p = some_pair_parts [] items stage Between e in
    subst (λ (t : Stage). Continues t [] items) (sym p.1) (subst (λ (t : List Item). IsScript [] t) p.0 nothing)
sound (line ∷ lines) stage items e =
    let o = onward stage line lines items Between e in
    let r : run o.next.stage lines ≡ Some (o.rest.0, Between) = o.runs ∙ ap (λ t. Some (o.rest.0, t)) o.last_is in
    subst (λ (t : List Item). Continues stage (line ∷ lines) t) o.items_are (back stage line o.next lines o.rest.0 o.steps (sound lines o.next.stage o.rest.0 r))

-- one line of a run
pub run-line : (stage : Stage) (line : List ℕ) (next : Step) (lines : List (List ℕ)) (items : List Item) (last : Stage) → step stage line ≡ Some next → run next.stage lines ≡ Some (items, last) →
    run stage (line ∷ lines) ≡ Some (option_to_list next.item ++ items, last)
unfolding run
run-line stage line next lines items last s r = rw (s, r) refl

step-skipped : (line : List ℕ) → is_skipped line ≡ true → step Between line ≡ Some (goes_on Between)
unfolding step
step-skipped line e = rw e refl

step-reload : step Between (codes "reload") ≡ Some (ends Reload)
unfolding step
step-reload = refl

begins-unskipped : (line : List ℕ) (a b c : ℕ) (rest : List ℕ) → line ≡ a ∷ b ∷ c ∷ rest → is_skipped (a ∷ b ∷ c ∷ rest) ≡ false → bytes_eq (a ∷ b ∷ c ∷ rest) (codes "reload") ≡ false → step Between line ≡ begin line
unfolding step
begins-unskipped line a b c rest e s r = ap between e ∙ rw (s, r) (ap begin (sym e))

step-call : (line : List ℕ) (budget : ℕ) (caller path function : List ℕ) → IsCallLine line budget caller path function → step Between line ≡ Some (goes_on (Called (heading budget caller path) function))
step-call line budget caller path function l = begins-unskipped line _ _ _ _ l.spelled refl refl ∙ begin-call line budget caller path function l

step-add : (line : List ℕ) (budget : ℕ) (caller path : List ℕ) → IsAddLine line budget caller path → step Between line ≡ Some (goes_on (Added (heading budget caller path)))
step-add line budget caller path l = begins-unskipped line _ _ _ _ l.spelled refl refl ∙ begin-add line budget caller path l

pub step-called : (h : Heading) (function : List ℕ) → step (Called h function) (codes "end") ≡ Some (ends (Call h.budget h.caller h.path function))
unfolding step
step-called h function = refl

pub step-filed : (h : Heading) (file : NamedText) → step (Filed h file) (codes "end") ≡ Some (ends (Add h.budget h.caller h.path file))
unfolding step
step-filed h file = refl

step-source : (h : Heading) (name text line : List ℕ) → step (Filed h (named name text)) (124 ∷ line) ≡ Some (goes_on (Filed h (named name (text ++ (line ++ 10 ∷ [])))))
unfolding step
step-source h name text line = refl

pub step-added : (h : Heading) (line name : List ℕ) → IsFileLine line name → step (Added h) line ≡ Some (goes_on (Filed h (named name [])))
unfolding step
step-added h line name f = rw (file_of-is line name f) refl

run-sources : (sources : List (List ℕ)) (lines : List (List ℕ)) (items : List Item) (h : Heading) (name text : List ℕ) → run Between lines ≡ Some (items, Between) →
    run (Filed h (named name text)) (barred sources ++ codes "end" ∷ lines) ≡ Some (Add h.budget h.caller h.path (named name (text ++ text_of sources)) ∷ items, Between)
run-sources [] lines items h name text r =
    run-line (Filed h (named name text)) (codes "end") _ lines items Between (step-filed h (named name text)) r
    ∙ ap (λ t. Some (Add h.budget h.caller h.path (named name t) ∷ items, Between)) (sym (append-nil text))
run-sources (source ∷ sources) lines items h name text r =
    run-line (Filed h (named name text)) (124 ∷ source) _ (barred sources ++ codes "end" ∷ lines) _ Between (step-source h name text source) (run-sources sources lines items h name (text ++ (source ++ 10 ∷ [])) r)
    ∙ ap (λ t. Some (Add h.budget h.caller h.path (named name t) ∷ items, Between)) (append_assoc text (source ++ 10 ∷ []) (text_of sources))

pub complete : (lines : List (List ℕ)) (items : List Item) → IsScript lines items → run Between lines ≡ Some (items, Between)
unfolding run
complete _ _ nothing = refl
complete _ _ (skipped line lines items s i) = run-line Between line _ lines items Between (step-skipped line s) (complete lines items i)
complete _ _ (reload lines items i) = run-line Between (codes "reload") _ lines items Between step-reload (complete lines items i)
complete _ _ (call line budget caller path function lines items l i) =
    run-line Between line _ (codes "end" ∷ lines) _ Between (step-call line budget caller path function l)
    (run-line (Called (heading budget caller path) function) (codes "end") _ lines items Between (step-called (heading budget caller path) function) (complete lines items i))
complete _ _ (add line file budget caller path name sources lines items l f i) =
    run-line Between line _ (file ∷ (barred sources ++ codes "end" ∷ lines)) _ Between (step-add line budget caller path l)
    (run-line (Added (heading budget caller path)) file _ (barred sources ++ codes "end" ∷ lines) _ Between (step-added (heading budget caller path) file name f)
    (run-sources sources lines items (heading budget caller path) name [] (complete lines items i)))
