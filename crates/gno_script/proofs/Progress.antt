-- How far a script is read.
use Rattle.std.proofs.Common.{◌≡◌, ◌≢◌, ℕ, ◌+◌, ◌<◌, ◌≤◌, List, [], ◌∷◌, ◌++◌, refl, arith, ap, ◌∙◌, sym, append_assoc, append-nil, length, length-append}
use Rattle.std.specs.Prelude.{Some, None}
use Rattle.std.specs.Option.{option_to_list}
use Rattle.gno_script.specs.declared.item.Item.{Item}
use Rattle.gno_script.specs.declared.stage.Stage.{Stage}
use Rattle.gno_script.specs.declared.stage.Stage.TheVariants.{Between}
use Rattle.gno_script.specs.declared.stage.Step.{Step}
use Rattle.gno_script.specs.Lines.{lines_of}
use Rattle.gno_script.specs.Script.{IsScript}
use Rattle.gno_script.specs.Faults.{IsFirstFault}
use Rattle.gno_script.specs.Reading.{step, run}
use Rattle.gno_script.proofs.Runs.{sound}
use Rattle.gno_script.proofs.Fronts.{run-more, fault-within, fault-behind}

-- the lines before the rest gave these items, and the number is that of the next line
pub record SoFar (text rest : List ℕ) (items : List Item) (stage : Stage) (number : ℕ) : Type 0 where
  pub front : List (List ℕ)
  pub lines_are : lines_of text ≡ front ++ lines_of rest
  pub runs : run Between front ≡ Some (items, stage)
  pub counted : number ≡ length front + 1
  pub bound : length front + length rest ≤ length text

pub at_start : (text : List ℕ) → SoFar text text [] Between 1
unfolding run
at_start text = record { front = []; lines_are = refl; runs = refl; counted = refl; bound = omega arith }

pub onto_next : (text rest more line : List ℕ) (items items' : List Item) (stage : Stage) (next : Step) (number : ℕ) → SoFar text rest items stage number →
    lines_of rest ≡ line ∷ lines_of more → length more < length rest → step stage line ≡ Some next → items' ≡ items ++ option_to_list next.item →
    SoFar text more items' next.stage (number + 1)
onto_next text rest more line items items' stage next number s first shorter steps items_are = record {
  front = s.front ++ line ∷ [];
  lines_are = s.lines_are ∙ ap (λ l. s.front ++ l) first ∙ sym (append_assoc s.front (line ∷ []) (lines_of more));
  runs = run-more s.front line next Between stage items s.runs steps ∙ ap (λ (t : List Item). Some (t, next.stage)) (sym items_are);
  counted = omega (arith, length-append s.front (line ∷ []), s.counted);
  bound = omega (arith, length-append s.front (line ∷ []), s.bound);
}

pub at_fault : (text rest more line : List ℕ) (items : List Item) (stage : Stage) (number : ℕ) → SoFar text rest items stage number →
    lines_of rest ≡ line ∷ lines_of more → None ≡ step stage line → IsFirstFault (lines_of text) number
at_fault text rest more line items stage number s first steps =
    fault-within (lines_of text) s.front (lines_of more) line items stage number (s.lines_are ∙ ap (λ l. s.front ++ l) first) s.runs (sym steps) s.counted

-- behind the last line
ended : (text rest : List ℕ) (items : List Item) (stage : Stage) (number : ℕ) (s : SoFar text rest items stage number) → length rest ≡ 0 → lines_of text ≡ s.front
ended text [] items stage number s none = s.lines_are ∙ append-nil s.front
ended text (b ∷ rest) items stage number s none = absurd (omega arith)

pub at_end : (text rest : List ℕ) (items : List Item) (stage : Stage) (number : ℕ) → SoFar text rest items stage number → length rest ≡ 0 → stage ≡ Between → IsScript (lines_of text) items
at_end text rest items stage number s none between =
    sound (lines_of text) Between items (ap (run Between) (ended text rest items stage number s none) ∙ s.runs ∙ ap (λ (t : Stage). Some (items, t)) between)

pub at_missing : (text rest : List ℕ) (items : List Item) (stage : Stage) (number : ℕ) → SoFar text rest items stage number → length rest ≡ 0 → stage ≢ Between → IsFirstFault (lines_of text) number
at_missing text rest items stage number s none begun =
    let e = ended text rest items stage number s none in
    fault-behind (lines_of text) items stage number (ap (run Between) e ∙ s.runs) begun (s.counted ∙ ap (λ (l : List (List ℕ)). length l + 1) (sym e))
