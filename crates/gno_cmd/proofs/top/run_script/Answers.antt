use Rattle.std.proofs.Common.{◌≡◌, ◌∙◌, ℕ, List, ap, sym, subst}
use Rattle.std.specs.Prelude.{Err, IsSome, Option}
use Rattle.gno_port.specs.Tables.{Table}
use Rattle.gno_items.specs.declared.memory.Package.{Package}
use Rattle.gno_script.specs.declared.item.Item.{Item}
use Rattle.gno_table.specs.FirstFormat.{Stands}
use Rattle.gno_cmd.specs.declared.status.Status.TheVariants.{WriteFault}
use Rattle.gno_cmd.specs.Headline.{HasMemory, DoesNothing, StopsBefore, StopsWithin}
use Rattle.gno_cmd.specs.Performing.{IsBeforeCommit}
use Rattle.gno_cmd.proofs.Memories.{not_both, with_its_memory}
use Rattle.gno_cmd.proofs.top.run_script.Goals as goal

-- the session that begins with the memory that was loaded is the one that begins with the memory of the table
stopped : (items : List Item) (held held' : Option (List ℕ)) (table' : Option Table) (old mid new : List ℕ → Option Table) (name opened : List ℕ) (loaded : List Package) →
    mid ≡ old → new ≡ mid → opened ≡ name → Stands (mid opened) loaded →
    (IsSome (new name) → StopsBefore loaded items held held' (new name) table') →
    (memory : List Package) → HasMemory (old name) memory → StopsBefore memory items held held' (old name) table'
stopped items held held' table' old mid new name opened loaded m n o stands before = λ memory has.
    let there : new name ≡ old name = λ i. (n ∙ m) i name in
    with_its_memory (λ (l : List Package). StopsBefore l items held held' (old name) table') old mid new name opened loaded memory m n o has stands
    (λ told. subst (λ (t : Option Table). StopsBefore loaded items held held' t table') there (before told))

pub returns-in-Err-Write-clause-stopped : goal.returns-in-Err-Write-clause-stopped
returns-in-Err-Write-clause-stopped g c = λ memory has.
    let P = λ (m : List Package). StopsWithin m c.args.items.now (g.O.Sink.holds c.args.out.now) (g.O.Sink.holds c.run_items.new.out) (g.K.Keeper.tables c.run_items.new.keeper c.args.name.now) in
    with_its_memory P _ _ _ c.args.name.now _ c.in-Ok-load.packages memory c.open.ensures.tables c.load.ensures.tables c.in-Ok.ensures.ok.1 has c.in-Ok-load.ensures.stands
    (c.run_items.ensures.within (c.in-Err-Write.is ∙ ap Err c.in-Err-Write.field-0-is))

pub returns-in-Err-Write-clause-not_first : goal.returns-in-Err-Write-clause-not_first
returns-in-Err-Write-clause-not_first g c = λ told not_first.
    let here : g.K.Keeper.tables c.open.new.self (g.K.Keeper.open_name c.open.new.self) ≡ g.K.Keeper.tables c.args.keeper.now c.args.name.now = λ i. (c.open.ensures.tables i) (c.in-Ok.ensures.ok.1 i) in
    absurd {A = DoesNothing (g.O.Sink.holds c.args.out.now) (g.O.Sink.holds c.run_items.new.out) (g.K.Keeper.tables c.args.keeper.now c.args.name.now) (g.K.Keeper.tables c.run_items.new.keeper c.args.name.now) WriteFault} (not_both _ c.in-Ok-load.packages told not_first (subst (λ (t : Option Table). Stands t c.in-Ok-load.packages) here c.in-Ok-load.ensures.stands))

pub returns-in-Err-Store-clause-stopped : goal.returns-in-Err-Store-clause-stopped
returns-in-Err-Store-clause-stopped g c =
    stopped c.args.items.now _ _ _ _ _ _ c.args.name.now _ c.in-Ok-load.packages c.open.ensures.tables c.load.ensures.tables c.in-Ok.ensures.ok.1 c.in-Ok-load.ensures.stands
    (c.in-Err-Store.ensures.before (subst IsBeforeCommit (sym c.in-Err-Store.field-0-is) tt))

pub returns-clause-stopped : goal.returns-clause-stopped
returns-clause-stopped g c =
    stopped c.args.items.now _ _ _ _ _ _ c.args.name.now _ c.in-Ok-load.packages c.open.ensures.tables c.load.ensures.tables c.in-Ok.ensures.ok.1 c.in-Ok-load.ensures.stands
    (c.in-Err-NoMemory-run_items.ensures.before (subst IsBeforeCommit (sym c.in-Err-NoMemory-run_items.field-0-is) tt))
