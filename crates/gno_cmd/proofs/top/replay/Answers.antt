use Rattle.std.proofs.Common.{◌≡◌, ◌≢◌, ◌≤◌, ℕ, List, inr, length, subst, sym}
use Rattle.std.specs.Prelude.{Option, IsSome}
use Rattle.gno_port.specs.Streams.{Lost, IsAtEnd}
use Rattle.gno_port.specs.Tables.{Table}
use Rattle.gno_script.specs.declared.item.Item.{Item}
use Rattle.gno_script.specs.Lines.{lines_of}
use Rattle.gno_script.specs.Script.{IsScript}
use Rattle.gno_items.specs.declared.memory.Package.{Package}
use Rattle.gno_table.specs.FirstFormat.{IsNotFirst}
use Rattle.gno_cmd.specs.declared.status.Status.{Status}
use Rattle.gno_cmd.specs.Headline.{HasMemory, Leaves, ReadsScript, DoesNothing, StopsAt}
use Rattle.gno_cmd.specs.Performing.{AreNamed}
use Rattle.gno_cmd.proofs.Named.{all_named}
use Rattle.gno_cmd.proofs.top.replay.Goals as goal

pub run_script-requires : goal.run_script-requires
run_script-requires g c =
    subst (λ (items : List Item). AreNamed items) (sym c.as_slice-in-Ok-read_script.ensures) (all_named _ c.in-Ok-read_script.items c.in-Ok-read_script.ensures.items)

reads_script : (left left' : Option (List ℕ)) (text bytes : List ℕ) (items slice : List Item) →
    Lost left left' text × IsAtEnd left' → length text ≤ 67108864 → bytes ≡ text → IsScript (lines_of bytes) items → slice ≡ items → ReadsScript left left' slice
reads_script left left' text bytes items slice all within b script s = record {
  text = text;
  reads = all.0;
  at_end = all.1;
  within = within;
  script = subst (λ (t : List ℕ). IsScript (lines_of t) slice) b (subst (λ (is : List Item). IsScript (lines_of bytes) is) (sym s) script);
}

stops_at : (name : List ℕ) (left left' held held' : Option (List ℕ)) (tables tables' : List ℕ → Option Table) (status : Status) (items : List Item) →
    ReadsScript left left' items →
    ((memory : List Package) → HasMemory (tables name) memory → Leaves status memory items held held' (tables name) (tables' name)) →
    (IsSome (tables name) → IsNotFirst (tables name) → DoesNothing held held' (tables name) (tables' name) status) →
    ((other : List ℕ) → other ≢ name → tables' other ≡ tables other) →
    StopsAt name left left' held held' tables tables' status
stops_at name left left' held held' tables tables' status items reads outcome not_first others = record { items = items; reads = reads; outcome = outcome; not_first = not_first; others = others }

pub returns-in-Ok-read_script-clause-stopped : goal.returns-in-Ok-read_script-clause-stopped
returns-in-Ok-read_script-clause-stopped g c = λ stopped.
    stops_at c.args.name.now _ _ _ _ _ _ c.run_script.result c.as_slice-in-Ok-read_script.result.now
    (reads_script _ _ c.in-Ok.text c.as_slice.result.now c.in-Ok-read_script.items _ c.in-Ok.ensures.all c.in-Ok.ensures.within c.as_slice.ensures c.in-Ok-read_script.ensures.items c.as_slice-in-Ok-read_script.ensures)
    c.run_script.ensures.stopped c.run_script.ensures.not_first c.run_script.ensures.others

pub returns-in-Ok-read_script-clause-memory : goal.returns-in-Ok-read_script-clause-memory
returns-in-Ok-read_script-clause-memory g c = λ fault. inr (
    stops_at c.args.name.now _ _ _ _ _ _ c.run_script.result c.as_slice-in-Ok-read_script.result.now
    (reads_script _ _ c.in-Ok.text c.as_slice.result.now c.in-Ok-read_script.items _ c.in-Ok.ensures.all c.in-Ok.ensures.within c.as_slice.ensures c.in-Ok-read_script.ensures.items c.as_slice-in-Ok-read_script.ensures)
    c.run_script.ensures.stopped c.run_script.ensures.not_first c.run_script.ensures.others)
