-- Fronts of a script, and its first faulty line.
use Rattle.std.proofs.Common.{◌≡◌, ◌≢◌, ℕ, ◌+◌, ◌-◌, ◌<◌, List, [], ◌∷◌, ◌++◌, refl, arith, ap, ◌∙◌, sym, subst, inl, inr, append_assoc, append-nil, take, drop, length, length-append}
use Rattle.std.specs.Prelude.{Option, Some, None, codes}
use Rattle.std.specs.Option.{option_map, option_and_then, option_to_list}
use Rattle.std.proofs.lemmas.Option.{none-some, some_pair_parts}
use Rattle.std.proofs.lemmas.List.{take-append-drop, take-take, take_all}
use Rattle.std.proofs.Math.Seq.{take-append_seam, take-append-add}
use Rattle.gno_script.specs.declared.item.Item.{Item}
use Rattle.gno_script.specs.declared.item.Item.TheVariants.{Add, Call}
use Rattle.gno_script.specs.declared.stage.Stage.{Stage}
use Rattle.gno_script.specs.declared.stage.Stage.TheVariants.{Between, Called, Added, Filed}
use Rattle.gno_script.specs.declared.stage.Step.{Step}
use Rattle.gno_script.specs.Script.{IsScript}
use Rattle.gno_script.specs.Faults.{IsViable, IsFirstFault}
use Rattle.gno_script.specs.Reading.{step, run}
use Rattle.gno_script.proofs.Options.{bound_none}
use Rattle.gno_script.proofs.Runs.{sound, complete, onward, run-line, step-filed, step-added, named}

unchanged : (o : Option (List Item × Stage)) → o ≡ option_map (λ rest. ([] ++ rest.0, rest.1)) o
unchanged None = refl
unchanged (Some rest) = refl

joined : (o : Option (List Item × Stage)) (x y : List Item) →
    option_and_then {T = List Item × Stage} {U = List Item × Stage} (λ rest. Some (x ++ rest.0, rest.1)) (option_map (λ rest. (y ++ rest.0, rest.1)) o) ≡ option_map (λ rest. ((x ++ y) ++ rest.0, rest.1)) o
joined None x y = refl
joined (Some rest) x y = ap (λ (t : List Item). Some (t, rest.1)) (sym (append_assoc x y rest.0))

-- a run of what is left, after items
after : List Item → Option (List Item × Stage) → Option (List Item × Stage)
after items o = option_map (λ rest. (items ++ rest.0, rest.1)) o

-- the lines behind a front that ran
pub run-front : (a b : List (List ℕ)) (stage : Stage) (items : List Item) (mid : Stage) → run stage a ≡ Some (items, mid) →
    run stage (a ++ b) ≡ option_map (λ rest. (items ++ rest.0, rest.1)) (run mid b)
unfolding run after
run-front [] b stage items mid e =
    let p = some_pair_parts [] items stage mid e in
    unchanged (run stage b) ∙ ap (λ (t : List Item). after t (run stage b)) p.0 ∙ ap (λ (t : Stage). after items (run t b)) p.1
run-front (line ∷ a) b stage items mid e =
    let o = onward stage line a items mid e in
    let x = option_to_list o.next.item in
    rw (o.steps, run-front a b o.next.stage o.rest.0 o.rest.1 o.runs)
    (joined (run o.rest.1 b) x o.rest.0 ∙ ap (λ (t : List Item). after t (run o.rest.1 b)) o.items_are ∙ ap (λ (t : Stage). after items (run t b)) o.last_is)

pub run-fails : (a b : List (List ℕ)) (stage : Stage) → run stage a ≡ None → run stage (a ++ b) ≡ None
unfolding run
run-fails [] b stage e = absurd (none-some ([], stage) (sym e))
run-fails (line ∷ a) b stage e =
    elim (bound_none _ (step stage line) e) [
      | inl h ↦ rw h refl
      | inr h ↦ elim (bound_none _ (run h.0.stage a) h.2) [
        | inl k ↦ rw (h.1, run-fails a b h.0.stage k) refl
        | inr k ↦ absurd (none-some _ (sym k.2))
      ]
    ]

pub run-more : (front : List (List ℕ)) (line : List ℕ) (next : Step) (stage mid : Stage) (items : List Item) → run stage front ≡ Some (items, mid) → step mid line ≡ Some next →
    run stage (front ++ line ∷ []) ≡ Some (items ++ option_to_list next.item, next.stage)
unfolding run
run-more front line next stage mid items r s =
    run-front front (line ∷ []) stage items mid r
    ∙ rw (run-line mid line next [] [] next.stage s refl) (ap (λ (t : List Item). Some (items ++ t, next.stage)) (append-nil (option_to_list next.item)))

pub run-stops : (front : List (List ℕ)) (line : List ℕ) (stage mid : Stage) (items : List Item) → run stage front ≡ Some (items, mid) → step mid line ≡ None → run stage (front ++ line ∷ []) ≡ None
unfolding run
run-stops front line stage mid items r s = run-front front (line ∷ []) stage items mid r ∙ rw s refl

-- each stage goes on to an end
pub record Ending (stage : Stage) : Type 0 where
  pub more : List (List ℕ)
  pub items : List Item
  pub runs : run stage more ≡ Some (items, Between)

ending : (stage : Stage) → Ending stage
unfolding run step
ending Between = record { more = []; items = []; runs = refl }
ending (Called h function) = record { more = codes "end" ∷ []; items = Call h.budget h.caller h.path function ∷ []; runs = refl }
ending (Added h) =
    let file = named (codes "a.gno") [] in
    record {
      more = codes "file a.gno" ∷ codes "end" ∷ [];
      items = Add h.budget h.caller h.path file ∷ [];
      runs = run-line (Added h) (codes "file a.gno") _ (codes "end" ∷ []) _ Between (step-added h (codes "file a.gno") (codes "a.gno") (record { name_is = refl; spelled = refl }))
          (run-line (Filed h file) (codes "end") _ [] [] Between (step-filed h file) refl);
    }
ending (Filed h file) = record { more = codes "end" ∷ []; items = Add h.budget h.caller h.path file ∷ []; runs = refl }

pub viable : (front : List (List ℕ)) (items : List Item) (stage : Stage) → run Between front ≡ Some (items, stage) → IsViable front
viable front items stage r =
    let e = ending stage in
    record { more = e.more; items = items ++ e.items; script = sound (front ++ e.more) Between (items ++ e.items) (run-front front e.more Between items stage r ∙ rw e.runs refl) }

pub unviable : (front : List (List ℕ)) → run Between front ≡ None → IsViable front → ⊥
unviable front e v = none-some (v.items, Between) (sym (run-fails front v.more Between e) ∙ complete (front ++ v.more) v.items v.script)

pub fault-within : (lines front rest : List (List ℕ)) (line : List ℕ) (items : List Item) (stage : Stage) (n : ℕ) → lines ≡ front ++ line ∷ rest → run Between front ≡ Some (items, stage) → step stage line ≡ None →
    n ≡ length front + 1 → IsFirstFault lines n
fault-within lines front rest line items stage n e r s c =
    let k : n - 1 ≡ length front = omega arith in
    let before : take (n - 1) lines ≡ front = rw (e, k) (take-append_seam front (line ∷ rest)) in
    let with_it : take n lines ≡ front ++ line ∷ [] = rw (e, c) (take-append-add front (line ∷ rest) 1) in
    record {
      from_one = omega arith;
      before = subst IsViable (sym before) (viable front items stage r);
      fault = inl (omega (arith, ap length e ∙ length-append front (line ∷ rest)), λ v. unviable (front ++ line ∷ []) (run-stops front line Between stage items r s) (subst IsViable with_it v));
    }

pub fault-behind : (lines : List (List ℕ)) (items : List Item) (stage : Stage) (n : ℕ) → run Between lines ≡ Some (items, stage) → stage ≢ Between → n ≡ length lines + 1 → IsFirstFault lines n
fault-behind lines items stage n r s c = record {
  from_one = omega arith;
  before = subst IsViable (sym (take_all (n - 1) lines (omega arith))) (viable lines items stage r);
  fault = inr (c, λ others script. s (some_pair_parts items others stage Between (sym r ∙ complete lines others script)).1);
}

-- a script has no first fault
front-viable : (lines : List (List ℕ)) (items : List Item) (n : ℕ) → IsScript lines items → IsViable (take n lines)
front-viable lines items n s = record { more = drop n lines; items = items; script = subst (λ (l : List (List ℕ)). IsScript l items) (sym (take-append-drop n lines)) s }

pub no-fault : (lines : List (List ℕ)) (items : List Item) (n : ℕ) → IsScript lines items → IsFirstFault lines n → ⊥
no-fault lines items n s f = elim f.fault [ inl h ↦ h.1 (front-viable lines items n s) | inr h ↦ h.1 items s ]

not-before : (lines : List (List ℕ)) (m n : ℕ) → IsFirstFault lines m → IsFirstFault lines n → m < n → ⊥
not-before lines m n f g h =
    let t = take (n - 1) lines in
    let parts : take m lines ++ drop m t ≡ t = ap (λ x. x ++ drop m t) (sym (take-take m (n - 1) lines (omega arith))) ∙ take-append-drop m t in
    elim f.fault [
      | inl k ↦ k.1 (record {
        more = drop m t ++ g.before.more;
        items = g.before.items;
        script = subst (λ (l : List (List ℕ)). IsScript l g.before.items) (ap (λ x. x ++ g.before.more) (sym parts) ∙ append_assoc (take m lines) (drop m t) g.before.more) g.before.script;
      })
      | inr k ↦ elim g.fault [ inl l ↦ omega (arith, k.0, l.0) | inr l ↦ omega (arith, k.0, l.0) ]
    ]

pub one-fault : (lines : List (List ℕ)) (m n : ℕ) → IsFirstFault lines m → IsFirstFault lines n → m ≡ n
one-fault lines m n f g =
    let a = not-before lines m n f g in
    let b = not-before lines n m g f in
    omega arith
