use Rattle.std.proofs.Common.{◌≡◌, ℕ, List, [], ap, refl, sym, subst}
use Rattle.std.specs.Prelude.{Option, Result, Ok, Err, IfOk, IsSome, OnOk, true}
use Rattle.gno_port.proofs.Steps.{with_more-nil}
use Rattle.gno_port.specs.Tables.{Table}
use Rattle.gno_base.specs.declared.names.NamedText.{NamedText}
use Rattle.gno_script.specs.declared.item.Item.{Item}
use Rattle.gno_script.specs.declared.item.Item.TheVariants.{Add, Call, Reload}
use Rattle.gno_items.specs.declared.adding.Added.{Added}
use Rattle.gno_items.specs.declared.calling.Called.{Called}
use Rattle.gno_items.specs.declared.memory.Package.{Package}
use Rattle.gno_items.specs.Adding.{IsAdded}
use Rattle.gno_items.specs.Calling.{called}
use Rattle.gno_items.specs.Memory.{with_new_values, with_package}
use Rattle.gno_items.specs.Session.{Replied, Replies, shown}
use Rattle.gno_cmd.specs.declared.performing.ItemFault.{ItemFault}
use Rattle.gno_cmd.specs.declared.performing.Ran.{Ran}
use Rattle.gno_cmd.specs.Performing.{Breaks, BreaksOff, Performs, Shows}
use Rattle.gno_cmd.proofs.performing.perform.Goals as goal

addition : (memory : List Package) (done budget : ℕ) (item : Item) (caller path path' : List ℕ) (file : NamedText) (end : Added) →
    item ≡ Add budget caller path file → path' ≡ path → IsAdded memory budget path' file end →
    Replies memory done item (shown done item end.reply (with_package memory end.held))
addition memory done budget item caller path path' file end i p a =
    subst (λ (it : Item). Replies memory done it (shown done it end.reply (with_package memory end.held))) (sym i)
    (end, subst (λ (at : List ℕ). IsAdded memory budget at file end) p a, refl)

calling : (memory : List Package) (done budget : ℕ) (item : Item) (caller path path' path'' function function' : List ℕ) (end : Called) →
    item ≡ Call budget caller path function → path' ≡ path → path'' ≡ path → function' ≡ function → end ≡ called memory budget path' function' →
    Replies memory done item (shown done item end.reply (with_new_values memory path'' end.values))
calling memory done budget item caller path path' path'' function function' end i p q f e = rw (i, e, p, q, f) refl

-- an item that was performed whole
performs : (memory memory' : List Package) (done : ℕ) (item : Item) (reply : Replied) (held held' : Option (List ℕ)) (table : Option Table) (result : Result Ran ItemFault) →
    Replies memory done item reply → IfOk result (λ ran. Shows held held' ran reply) → OnOk result (memory' ≡ reply.memory) → IfOk result (Performs memory memory' done item held held' table)
performs memory memory' done item reply held held' table (Ok ran) replies shows packages = record { reply = reply; replies = replies; shows = shows; packages = λ told. packages }
performs memory memory' done item reply held held' table (Err fault) replies shows packages = tt

-- an item whose text was cut short
breaks : (memory : List Package) (done : ℕ) (item : Item) (reply : Replied) (held held' : Option (List ℕ)) (tables : List ℕ → Option Table) (opened name : List ℕ) →
    Replies memory done item reply → opened ≡ name → BreaksOff held held' (tables opened) reply → Breaks memory done item held held' (tables name)
breaks memory done item reply held held' tables opened name replies n broken =
    record { reply = reply; replies = replies; breaks = subst (λ (t : Option Table). BreaksOff held held' t reply) (ap tables n) broken }

-- a reload says nothing, and leaves the packages as they were
reloaded : (memory memory' : List Package) (done : ℕ) (item : Item) (held : Option (List ℕ)) (table : Option Table) → item ≡ Reload → (IsSome table → memory' ≡ memory) →
    Performs memory memory' done item held held table (record { good = true; done = done })
reloaded memory memory' done item held table is same = record {
  reply = record { text = []; good = true; memory = memory; done = done };
  replies = subst (λ (it : Item). Replies memory done it (record { text = []; good = true; memory = memory; done = done })) (sym is) refl;
  shows = record { text = sym (with_more-nil held); good = refl; done = refl };
  packages = same;
}

pub returns-in-Ok-clause-performs : goal.returns-in-Ok-clause-performs
returns-in-Ok-clause-performs g c =
    let same = addition c.args.packages.now c.args.done c.in-Add.budget c.args.item.now c.in-Add.caller c.in-Add.path c.as_slice.result.now c.in-Add.file c.in-Ok.added c.in-Add.is c.as_slice.ensures c.in-Ok.ensures.added in
    performs c.args.packages.now c.finish_add.new.packages c.args.done c.args.item.now _ _ _ (g.K.Keeper.tables c.args.keeper.now c.args.name.now) c.finish_add.result same c.finish_add.ensures.shows c.finish_add.ensures.packages

pub returns-in-Ok-clause-broken : goal.returns-in-Ok-clause-broken
returns-in-Ok-clause-broken g c = λ fault.
    let same = addition c.args.packages.now c.args.done c.in-Add.budget c.args.item.now c.in-Add.caller c.in-Add.path c.as_slice.result.now c.in-Add.file c.in-Ok.added c.in-Add.is c.as_slice.ensures c.in-Ok.ensures.added in
    breaks c.args.packages.now c.args.done c.args.item.now _ _ _ (g.K.Keeper.tables c.finish_add.new.keeper) _ c.args.name.now same c.requires.name (c.finish_add.ensures.broken fault)

pub returns-in-Ok-call-clause-performs : goal.returns-in-Ok-call-clause-performs
returns-in-Ok-call-clause-performs g c =
    let same = calling c.args.packages.now c.args.done c.in-Call.budget c.args.item.now c.in-Call.caller c.in-Call.path c.as_slice-in-Call.result.now c.as_slice-in-Ok-call.result.now c.in-Call.function c.as_slice-in-Call-2.result.now c.in-Ok-call.called c.in-Call.is c.as_slice-in-Call.ensures c.as_slice-in-Ok-call.ensures c.as_slice-in-Call-2.ensures c.in-Ok-call.ensures.called in
    performs c.args.packages.now c.finish_call.new.packages c.args.done c.args.item.now _ _ _ (g.K.Keeper.tables c.args.keeper.now c.args.name.now) c.finish_call.result same c.finish_call.ensures.shows c.finish_call.ensures.packages

pub returns-in-Ok-call-clause-broken : goal.returns-in-Ok-call-clause-broken
returns-in-Ok-call-clause-broken g c = λ fault.
    let same = calling c.args.packages.now c.args.done c.in-Call.budget c.args.item.now c.in-Call.caller c.in-Call.path c.as_slice-in-Call.result.now c.as_slice-in-Ok-call.result.now c.in-Call.function c.as_slice-in-Call-2.result.now c.in-Ok-call.called c.in-Call.is c.as_slice-in-Call.ensures c.as_slice-in-Ok-call.ensures c.as_slice-in-Call-2.ensures c.in-Ok-call.ensures.called in
    breaks c.args.packages.now c.args.done c.args.item.now _ _ _ (g.K.Keeper.tables c.finish_call.new.keeper) _ c.args.name.now same c.requires.name (c.finish_call.ensures.broken fault)

pub returns-in-Ok-reload-clause-performs : goal.returns-in-Ok-reload-clause-performs
returns-in-Ok-reload-clause-performs g c = reloaded c.args.packages.now c.reload.new.packages c.args.done c.args.item.now _ _ c.in-Reload.is c.in-Ok-reload.ensures.packages
