-- What a command is: a script, run over a table of a store.
use Rattle.std.specs.Prelude.{ℕ, ◌≡◌, ◌≢◌, ◌<◌, ◌≤◌, ◌+◌, List, Option, Some, None, Bool, if◌then◌else◌, IsSome, codes, length, take}
use Rattle.gno_port.specs.Streams.{Gained, Lost, IsAtEnd}
use Rattle.gno_port.specs.Tables.{Table}
use Rattle.gno_script.specs.declared.item.Item.{Item}
use Rattle.gno_script.specs.Lines.{lines_of}
use Rattle.gno_script.specs.Script.{IsScript}
use Rattle.gno_script.specs.Faults.{IsFirstFault}
use Rattle.gno_items.specs.declared.memory.Package.{Package}
use Rattle.gno_items.specs.Session.{IsSession, Session}
use Rattle.gno_table.specs.FirstFormat.{IsFirst, IsNotFirst}
use Rattle.gno_cmd.specs.declared.status.Status.{Status}
use Rattle.gno_cmd.specs.declared.status.Status.TheVariants.{Done, SomeFailed, Usage, ReadFault, WriteFault, StoreFault, Damaged, NoMemory, ScriptFault, Limit}
use Rattle.gno_cmd.specs.Usage.{AreReplayWords}

-- the session came to its end
abbrev pub IsOver : Status → Type 0
IsOver Done = Unit {0}
IsOver SomeFailed = Unit {0}
IsOver (Usage word) = ⊥
IsOver ReadFault = ⊥
IsOver WriteFault = ⊥
IsOver StoreFault = ⊥
IsOver (Damaged key) = ⊥
IsOver NoMemory = ⊥
IsOver (ScriptFault line) = ⊥
IsOver (Limit which) = ⊥

-- all items ended in results, or some did not
abbrev pub end_status : Bool → Status
end_status good = if good then Done else SomeFailed

-- the table is told and of the first format, with this memory
abbrev pub HasMemory : Option Table → List Package → Type 0
HasMemory None memory = ⊥
HasMemory (Some table) memory = IsFirst table memory

-- The table was of the first format, with a memory. What was printed, the status, and the memory of the table after it
-- are those of the session of the items that begins with that memory.
pub record Continues (table : Table) (items : List Item) (held held' : Option (List ℕ)) (table' : Option Table) (status : Status) : Type 0 where
  pub memory : List Package
  pub was : IsFirst table memory
  pub session : Session
  pub is_session : IsSession memory items session
  pub prints : Gained held held' session.text
  pub status_is : status ≡ end_status session.good
  pub becomes : HasMemory table' session.memory

-- The session stopped before the commit of an item: those in front of it were performed whole. In front of all items the
-- table is the one that it was.
pub record StopsBefore (memory : List Package) (items : List Item) (held held' : Option (List ℕ)) (table table' : Option Table) : Type 0 where
  pub front : ℕ
  pub within : front ≤ length items
  pub unchanged : front ≡ 0 → table' ≡ table
  pub session : Session
  pub is_session : IsSession memory (take front items) session
  pub prints : Gained held held' session.text
  pub becomes : HasMemory table' session.memory

-- The session stopped in the text of an item: that one and those in front of it were committed. All text in front of it
-- was written, and a part of its own.
pub record StopsWithin (memory : List Package) (items : List Item) (held held' : Option (List ℕ)) (table' : Option Table) : Type 0 where
  pub front : ℕ
  pub within : front < length items
  pub before : Session
  pub is_before : IsSession memory (take front items) before
  pub session : Session
  pub is_session : IsSession memory (take (front + 1) items) session
  pub written : ℕ
  pub whole : length before.text ≤ written
  pub cut : written < length session.text
  pub prints : Gained held held' (take written session.text)
  pub becomes : HasMemory table' session.memory

-- what a session on a table of the first format leaves that stopped by a fault of the output or the store, or for want of memory
abbrev pub Leaves : Status → List Package → List Item → Option (List ℕ) → Option (List ℕ) → Option Table → Option Table → Type 0
Leaves Done memory items held held' table table' = Unit {0}
Leaves SomeFailed memory items held held' table table' = Unit {0}
Leaves (Usage word) memory items held held' table table' = Unit {0}
Leaves ReadFault memory items held held' table table' = Unit {0}
Leaves WriteFault memory items held held' table table' = StopsWithin memory items held held' table'
Leaves StoreFault memory items held held' table table' = StopsBefore memory items held held' table table'
Leaves (Damaged key) memory items held held' table table' = ⊥
Leaves NoMemory memory items held held' table table' = StopsBefore memory items held held' table table'
Leaves (ScriptFault line) memory items held held' table table' = Unit {0}
Leaves (Limit which) memory items held held' table table' = Unit {0}

-- The table is not of the first format: nothing was written, and its rows stay.
pub record DoesNothing (held held' : Option (List ℕ)) (table table' : Option Table) (status : Status) : Type 0 where
  pub unwritten : held' ≡ held
  pub unchanged : table' ≡ table
  pub no_write_fault : status ≢ WriteFault

-- All of the input was read, and it is a script.
pub record ReadsScript (left left' : Option (List ℕ)) (items : List Item) : Type 0 where
  pub text : List ℕ
  pub reads : Lost left left' text
  pub at_end : IsAtEnd left'
  pub within : length text ≤ 67108864
  pub script : IsScript (lines_of text) items

-- All of the input was read, and this is its first faulty line.
pub record ReadsFault (left left' : Option (List ℕ)) (line : ℕ) : Type 0 where
  pub text : List ℕ
  pub reads : Lost left left' text
  pub at_end : IsAtEnd left'
  pub within : length text ≤ 67108864
  pub fault : IsFirstFault (lines_of text) line

-- All of the input is a script. Where the table of that name is told, the script went on with it; no other table changed.
pub record ReplaysAt (name : List ℕ) (left left' held held' : Option (List ℕ)) (tables tables' : List ℕ → Option Table) (status : Status) : Type 0 where
  pub items : List Item
  pub reads : ReadsScript left left' items
  pub outcome : (table : Table) → tables name ≡ Some table → Continues table items held held' (tables' name) status
  pub others : (other : List ℕ) → other ≢ name → tables' other ≡ tables other

-- All of the input is a script. Where the table of that name is told and of the first format, the session that begins with
-- its memory stopped by the fault of the status; where it is told and of no first format, nothing was done. No other table
-- changed.
pub record StopsAt (name : List ℕ) (left left' held held' : Option (List ℕ)) (tables tables' : List ℕ → Option Table) (status : Status) : Type 0 where
  pub items : List Item
  pub reads : ReadsScript left left' items
  pub outcome : (memory : List Package) → HasMemory (tables name) memory → Leaves status memory items held held' (tables name) (tables' name)
  pub not_first : IsSome (tables name) → IsNotFirst (tables name) → DoesNothing held held' (tables name) (tables' name) status
  pub others : (other : List ℕ) → other ≢ name → tables' other ≡ tables other

-- the words name the table
pub record Replays (words : List (List ℕ)) (left left' held held' : Option (List ℕ)) (tables tables' : List ℕ → Option Table) (status : Status) : Type 0 where
  pub name : List ℕ
  pub right_words : AreReplayWords words name
  pub replays : ReplaysAt name left left' held held' tables tables' status

-- the words name the table
pub record Stops (words : List (List ℕ)) (left left' held held' : Option (List ℕ)) (tables tables' : List ℕ → Option Table) (status : Status) : Type 0 where
  pub name : List ℕ
  pub right_words : AreReplayWords words name
  pub stops : StopsAt name left left' held held' tables tables' status

-- the words name a table that is not of the first format, and the key is that of the format's row
pub record FindsDamage (words : List (List ℕ)) (tables : List ℕ → Option Table) (key : List ℕ) : Type 0 where
  pub name : List ℕ
  pub right_words : AreReplayWords words name
  pub format_key : key ≡ codes "F"
  pub not_first : IsNotFirst (tables name)

-- the output or the store failed, or the rows are no table of the first format
abbrev pub IsStopped : Status → Type 0
IsStopped Done = ⊥
IsStopped SomeFailed = ⊥
IsStopped (Usage word) = ⊥
IsStopped ReadFault = ⊥
IsStopped WriteFault = Unit {0}
IsStopped StoreFault = Unit {0}
IsStopped (Damaged key) = Unit {0}
IsStopped NoMemory = ⊥
IsStopped (ScriptFault line) = ⊥
IsStopped (Limit which) = ⊥

-- the status comes only where all of the input was read
abbrev pub HasRead : Status → Type 0
HasRead Done = Unit {0}
HasRead SomeFailed = Unit {0}
HasRead (Usage word) = ⊥
HasRead ReadFault = ⊥
HasRead WriteFault = Unit {0}
HasRead StoreFault = Unit {0}
HasRead (Damaged key) = Unit {0}
HasRead NoMemory = ⊥
HasRead (ScriptFault line) = Unit {0}
HasRead (Limit which) = ⊥

-- the keeper was not called yet
abbrev pub IsEarly : Status → Type 0
IsEarly Done = ⊥
IsEarly SomeFailed = ⊥
IsEarly (Usage word) = Unit {0}
IsEarly ReadFault = Unit {0}
IsEarly WriteFault = ⊥
IsEarly StoreFault = ⊥
IsEarly (Damaged key) = ⊥
IsEarly NoMemory = ⊥
IsEarly (ScriptFault line) = Unit {0}
IsEarly (Limit which) = Unit {0}

-- some first bytes of a line were gained
abbrev pub GainedFront : Option (List ℕ) → Option (List ℕ) → List ℕ → Type 0
GainedFront old new line = (n : ℕ) × Gained old new (take n line)

-- the input was read and is a script
abbrev pub IsLate : Status → Type 0
IsLate Done = Unit {0}
IsLate SomeFailed = Unit {0}
IsLate (Usage word) = ⊥
IsLate ReadFault = ⊥
IsLate WriteFault = Unit {0}
IsLate StoreFault = Unit {0}
IsLate (Damaged key) = Unit {0}
IsLate NoMemory = Unit {0}
IsLate (ScriptFault line) = ⊥
IsLate (Limit which) = ⊥
