-- One item of a session, performed on a table.
use Rattle.std.specs.Prelude.{ℕ, ◌≡◌, ◌<◌, List, [], ◌∷◌, Option, IsSome, Bool, true, length, take}
use Rattle.gno_port.specs.Streams.{Gained}
use Rattle.gno_port.specs.Tables.{Table}
use Rattle.gno_script.specs.declared.item.Item.{Item}
use Rattle.gno_script.specs.declared.item.Item.TheVariants.{Add, Call, Reload}
use Rattle.gno_items.specs.Well.{has_no_zero}
use Rattle.gno_items.specs.Session.{IsSession, Replied, Replies, Session}
use Rattle.gno_items.specs.declared.memory.Package.{Package}
use Rattle.gno_table.specs.FirstFormat.{Stands}
use Rattle.gno_cmd.specs.declared.performing.Ran.{Ran}
use Rattle.gno_cmd.specs.declared.performing.ItemFault.{ItemFault}
use Rattle.gno_cmd.specs.declared.performing.ItemFault.TheVariants.{Write, Store, Damaged, NoMemory}

-- what was written and answered is what the reply says
pub record Shows (held held' : Option (List ℕ)) (ran : Ran) (want : Replied) : Type 0 where
  pub text : Gained held held' want.text
  pub good : ran.good ≡ want.good
  pub done : ran.done ≡ want.done

-- some first bytes of a text were gained, maybe none, and not all of it
abbrev pub GainedPart : Option (List ℕ) → Option (List ℕ) → List ℕ → Type 0
GainedPart old new text = (n : ℕ) × (n < length text) × Gained old new (take n text)

-- the item was committed, and only a part of its text was written
pub record BreaksOff (held held' : Option (List ℕ)) (table' : Option Table) (want : Replied) : Type 0 where
  pub text : GainedPart held held' want.text
  pub stands : Stands table' want.memory

-- the item was performed: what was written and answered, and what is held, is what the item replies
pub record Performs (memory memory' : List Package) (done : ℕ) (item : Item) (held held' : Option (List ℕ)) (table : Option Table) (ran : Ran) : Type 0 where
  pub reply : Replied
  pub replies : Replies memory done item reply
  pub shows : Shows held held' ran reply
  pub packages : IsSome table → memory' ≡ reply.memory

-- the item was committed, and only a part of what it says was written
pub record Breaks (memory : List Package) (done : ℕ) (item : Item) (held held' : Option (List ℕ)) (table' : Option Table) : Type 0 where
  pub reply : Replied
  pub replies : Replies memory done item reply
  pub breaks : BreaksOff held held' table' reply

-- all items were performed
pub record IsPerformed (memory : List Package) (items : List Item) (held held' : Option (List ℕ)) (table' : Option Table) (good : Bool) : Type 0 where
  pub session : Session
  pub is_session : IsSession memory items session
  pub prints : Gained held held' session.text
  pub good_is : good ≡ session.good
  pub stands : Stands table' session.memory

-- a fault that comes before the item's commit
abbrev pub IsBeforeCommit : ItemFault → Type 0
IsBeforeCommit Write = ⊥
IsBeforeCommit Store = Unit {0}
IsBeforeCommit Damaged = Unit {0}
IsBeforeCommit NoMemory = Unit {0}

-- the name of an added file holds no byte 0
abbrev pub IsNamed : Item → Type 0
IsNamed (Add budget caller path file) = has_no_zero file.name ≡ true
IsNamed (Call budget caller path function) = Unit {0}
IsNamed Reload = Unit {0}

abbrev pub AreNamed : List Item → Type 0
AreNamed [] = Unit {0}
AreNamed (item ∷ items) = IsNamed item × AreNamed items
