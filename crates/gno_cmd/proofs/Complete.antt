-- Each status but want of memory has a cause: so a call that gives none of the causes has none of the statuses.
use Rattle.std.proofs.Common.{◌≡◌, ◌≢◌, ◌≤◌, ◌<◌, ◌⊎◌, ◌∙◌, ℕ, List, ◌++◌, inl, inr, refl, sym, ap, subst, arith, length}
use Rattle.std.specs.Prelude.{Option, Some, None, IfSome, IsSome, codes}
use Rattle.std.proofs.lemmas.List.{append-nil}
use Rattle.gno_base.specs.declared.names.LimitOf.{LimitOf}
use Rattle.gno_base.specs.declared.names.LimitOf.TheVariants.{Script}
use Rattle.gno_port.specs.Causes.{CutsShort, Rose}
use Rattle.gno_port.specs.Streams.{IsAtEnd, Lost}
use Rattle.gno_port.specs.Tables.{Table}
use Rattle.gno_script.specs.declared.item.Item.{Item}
use Rattle.gno_script.specs.Lines.{lines_of}
use Rattle.gno_script.specs.Script.{IsScript}
use Rattle.gno_script.specs.Faults.{IsFirstFault}
use Rattle.gno_script.proofs.Fronts.{no-fault, one-fault}
use Rattle.gno_items.specs.declared.memory.Package.{Package}
use Rattle.gno_table.specs.FirstFormat.{IsNotFirst}
use Rattle.gno_cmd.specs.declared.status.Status.{Status}
use Rattle.gno_cmd.specs.declared.status.Status.TheVariants.{Done, SomeFailed, Usage, ReadFault, WriteFault, StoreFault, Damaged, NoMemory, ScriptFault, Limit}
use Rattle.gno_cmd.specs.Given.{GivesFault, GivesScript, GivesTooMuch}
use Rattle.gno_cmd.specs.Headline.{Continues, HasMemory, IsOver, IsStopped, ReadsFault, ReadsScript, ReplaysAt, StopsAt}
use Rattle.gno_cmd.specs.Usage.{AreReplayWords, usage_fault}
use Rattle.gno_cmd.proofs.ThreeWords.{last_one}

not_none : (word : ℕ) (found : Option ℕ) → found ≡ None → found ≡ Some word → ⊥
not_none word None none some = cc
not_none word (Some other) none some = cc

same_some : (a b : List ℕ) → Some a ≡ Some b → a ≡ b
same_some a b e = cc

pub right_words_have_no_fault : (words : List (List ℕ)) (name : List ℕ) (word : ℕ) → AreReplayWords words name → usage_fault words ≡ Some word → ⊥
right_words_have_no_fault words name word right fault =
    let none : usage_fault words ≡ None = ap usage_fault right.spelled ∙ rw right.named refl in
    not_none word _ none fault

pub same_name : (words : List (List ℕ)) (name other : List ℕ) → AreReplayWords words name → AreReplayWords words other → name ≡ other
same_name words name other right right' = last_one _ _ _ _ (sym right.spelled ∙ right'.spelled)

-- what was read to its end is what was told
all_of : (left left' : Option (List ℕ)) (text read : List ℕ) → left ≡ Some text → Lost left left' read → IsAtEnd left' → read ≡ text
all_of left None text read told lost end = cc
all_of left (Some rest) text read told lost end = sym (append-nil read) ∙ ap (λ r. read ++ r) (sym end) ∙ same_some _ _ (sym lost ∙ told)

script_read : (left left' : Option (List ℕ)) (text : List ℕ) (items : List Item) → left ≡ Some text → ReadsScript left left' items → (length text ≤ 67108864) × IsScript (lines_of text) items
script_read left left' text items told reads =
    let same = all_of left left' text reads.text told reads.reads reads.at_end in
    subst (λ (t : List ℕ). (length t ≤ 67108864) × IsScript (lines_of t) items) same (reads.within, reads.script)

fault_read : (left left' : Option (List ℕ)) (text : List ℕ) (line : ℕ) → left ≡ Some text → ReadsFault left left' line → (length text ≤ 67108864) × IsFirstFault (lines_of text) line
fault_read left left' text line told reads =
    let same = all_of left left' text reads.text told reads.reads reads.at_end in
    subst (λ (t : List ℕ). (length t ≤ 67108864) × IsFirstFault (lines_of t) line) same (reads.within, reads.fault)

too_long : (left : Option (List ℕ)) (text : List ℕ) → left ≡ Some text → length text ≤ 67108864 → IfSome left (λ t. 67108864 < length t) → ⊥
too_long left text told within long =
    let over : 67108864 < length text = subst (λ (l : Option (List ℕ)). IfSome l (λ t. 67108864 < length t)) told long in
    omega (arith, within, over)

-- what is known of the status of a script that ran on the table of a name
pub record Knows (status : Status) (name : List ℕ) (left left' held held' : Option (List ℕ)) (tables tables' : List ℕ → Option Table) (input input' out out' zeros zeros' store store' : ℕ) : Type 0 where
  pub over : IsOver status → ReplaysAt name left left' held held' tables tables' status
  pub stopped : IsStopped status → StopsAt name left left' held held' tables tables' status
  pub usage : (word : ℕ) → status ≢ Usage word
  pub read : status ≡ ReadFault → Rose input input'
  pub write : status ≡ WriteFault → CutsShort out out' zeros zeros'
  pub stored : status ≡ StoreFault → Rose store store'
  pub damaged : (key : List ℕ) → status ≡ Damaged key → (key ≡ codes "F") × IsNotFirst (tables name)
  pub script : (line : ℕ) → status ≡ ScriptFault line → ReadsFault left left' line
  pub limit : (which : LimitOf) → status ≡ Limit which → (which ≡ Script) × IfSome left (λ text. 67108864 < length text)

pub at_same_name : (status : Status) (name other : List ℕ) (left left' held held' : Option (List ℕ)) (tables tables' : List ℕ → Option Table) (input input' out out' zeros zeros' store store' : ℕ) → name ≡ other →
    Knows status name left left' held held' tables tables' input input' out out' zeros zeros' store store' → Knows status other left left' held held' tables tables' input input' out out' zeros zeros' store store'
at_same_name status name other left left' held held' tables tables' input input' out out' zeros zeros' store store' same =
    subst (λ (n : List ℕ). Knows status n left left' held held' tables tables' input input' out out' zeros zeros' store store') same

first_or_not : (table : Option Table) (memory : List Package) → HasMemory table memory → IsNotFirst table → ⊥
first_or_not None memory has not_first = absurd has
first_or_not (Some table) memory has not_first = not_first memory has

was_first : (table : Option Table) (items : List Item) (held held' : Option (List ℕ)) (table' : Option Table) (status : Status) →
    ((t : Table) → table ≡ Some t → Continues t items held held' table' status) → IsSome table → IsNotFirst table → ⊥
was_first None items held held' table' status outcome told unlike = cc
was_first (Some table) items held held' table' status outcome told unlike = let goes = outcome table refl in unlike goes.memory goes.was

module _ (words : List (List ℕ)) (name : List ℕ) (left left' held held' : Option (List ℕ)) (tables tables' : List ℕ → Option Table) (input input' out out' zeros zeros' store store' : ℕ) where
  -- a right script on a table of the first format
  pub complete : (status : Status) → AreReplayWords words name → Knows status name left left' held held' tables tables' input input' out out' zeros zeros' store store' →
      (named : List ℕ) (memory : List Package) → GivesScript words left named → HasMemory (tables named) memory →
      IsOver status ⊎ (status ≡ NoMemory) ⊎ Rose input input' ⊎ CutsShort out out' zeros zeros' ⊎ Rose store store'
  complete Done right knows named memory given has = inl tt
  complete SomeFailed right knows named memory given has = inl tt
  complete (Usage word) right knows named memory given has = absurd (knows.usage word refl)
  complete ReadFault right knows named memory given has = inr (inr (inl (knows.read refl)))
  complete WriteFault right knows named memory given has = inr (inr (inr (inl (knows.write refl))))
  complete StoreFault right knows named memory given has = inr (inr (inr (inr (knows.stored refl))))
  complete (Damaged key) right knows named memory given has =
      let same = same_name words named name given.given.right_words right in
      absurd (first_or_not _ memory (subst (λ (n : List ℕ). HasMemory (tables n) memory) same has) (knows.damaged key refl).1)
  complete NoMemory right knows named memory given has = inr (inl refl)
  complete (ScriptFault line) right knows named memory given has =
      let read = fault_read left left' given.text line given.given.told (knows.script line refl) in
      absurd (no-fault _ _ _ given.script read.1)
  complete (Limit which) right knows named memory given has = absurd (too_long left given.text given.given.told given.within (knows.limit which refl).1)

  no_script : (text : List ℕ) (line : ℕ) → left ≡ Some text → IsFirstFault (lines_of text) line → (items : List Item) → ReadsScript left left' items → ⊥
  no_script text line told fault items reads = no-fault _ _ _ (script_read left left' text items told reads).1 fault

  -- a faulty script
  pub faulty : (status : Status) → AreReplayWords words name → Knows status name left left' held held' tables tables' input input' out out' zeros zeros' store store' →
      (line : ℕ) → GivesFault words left line →
      (status ≡ ScriptFault line) ⊎ (status ≡ NoMemory) ⊎ Rose input input'
  faulty Done right knows line given = absurd (no_script given.text line given.given.told given.fault _ (knows.over tt).reads)
  faulty SomeFailed right knows line given = absurd (no_script given.text line given.given.told given.fault _ (knows.over tt).reads)
  faulty (Usage word) right knows line given = absurd (knows.usage word refl)
  faulty ReadFault right knows line given = inr (inr (knows.read refl))
  faulty WriteFault right knows line given = absurd (no_script given.text line given.given.told given.fault _ (knows.stopped tt).reads)
  faulty StoreFault right knows line given = absurd (no_script given.text line given.given.told given.fault _ (knows.stopped tt).reads)
  faulty (Damaged key) right knows line given = absurd (no_script given.text line given.given.told given.fault _ (knows.stopped tt).reads)
  faulty NoMemory right knows line given = inr (inl refl)
  faulty (ScriptFault other) right knows line given =
      let read = fault_read left left' given.text other given.given.told (knows.script other refl) in
      inl (ap ScriptFault (one-fault _ _ _ read.1 given.fault))
  faulty (Limit which) right knows line given = absurd (too_long left given.text given.given.told given.within (knows.limit which refl).1)

  not_too_long : (text : List ℕ) → left ≡ Some text → 67108864 < length text → (items : List Item) → ReadsScript left left' items → ⊥
  not_too_long text told long items reads = omega (arith, (script_read left left' text items told reads).0, long)

  -- an input that is longer than a script may be
  pub limited : (status : Status) → AreReplayWords words name → Knows status name left left' held held' tables tables' input input' out out' zeros zeros' store store' →
      GivesTooMuch words left →
      (status ≡ Limit Script) ⊎ (status ≡ NoMemory) ⊎ Rose input input'
  limited Done right knows given = absurd (not_too_long given.text given.given.told given.too_long _ (knows.over tt).reads)
  limited SomeFailed right knows given = absurd (not_too_long given.text given.given.told given.too_long _ (knows.over tt).reads)
  limited (Usage word) right knows given = absurd (knows.usage word refl)
  limited ReadFault right knows given = inr (inr (knows.read refl))
  limited WriteFault right knows given = absurd (not_too_long given.text given.given.told given.too_long _ (knows.stopped tt).reads)
  limited StoreFault right knows given = absurd (not_too_long given.text given.given.told given.too_long _ (knows.stopped tt).reads)
  limited (Damaged key) right knows given = absurd (not_too_long given.text given.given.told given.too_long _ (knows.stopped tt).reads)
  limited NoMemory right knows given = inr (inl refl)
  limited (ScriptFault line) right knows given =
      let read = fault_read left left' given.text line given.given.told (knows.script line refl) in
      absurd (omega (arith, read.0, given.too_long))
  limited (Limit which) right knows given = inl (ap Limit (knows.limit which refl).0)

  at_name : (status : Status) → Knows status name left left' held held' tables tables' input input' out out' zeros zeros' store store' →
      (named : List ℕ) → GivesScript words left named → IsSome (tables name) → IsNotFirst (tables name) →
      (status ≡ Damaged (codes "F")) ⊎ (status ≡ NoMemory) ⊎ Rose input input' ⊎ Rose store store'
  at_name Done knows named given told unlike = let ran = knows.over tt in absurd (was_first _ ran.items held held' _ Done ran.outcome told unlike)
  at_name SomeFailed knows named given told unlike = let ran = knows.over tt in absurd (was_first _ ran.items held held' _ SomeFailed ran.outcome told unlike)
  at_name (Usage word) knows named given told unlike = absurd (knows.usage word refl)
  at_name ReadFault knows named given told unlike = inr (inr (inl (knows.read refl)))
  at_name WriteFault knows named given told unlike = absurd (((knows.stopped tt).not_first told unlike).no_write_fault refl)
  at_name StoreFault knows named given told unlike = inr (inr (inr (knows.stored refl)))
  at_name (Damaged key) knows named given told unlike = inl (ap Damaged (knows.damaged key refl).0)
  at_name NoMemory knows named given told unlike = inr (inl refl)
  at_name (ScriptFault line) knows named given told unlike =
      let read = fault_read left left' given.text line given.given.told (knows.script line refl) in
      absurd (no-fault _ _ _ given.script read.1)
  at_name (Limit which) knows named given told unlike = absurd (too_long left given.text given.given.told given.within (knows.limit which refl).1)

  -- a right script on a table that is not of the first format
  pub not_first : (status : Status) → AreReplayWords words name → Knows status name left left' held held' tables tables' input input' out out' zeros zeros' store store' →
      (named : List ℕ) → GivesScript words left named → IsSome (tables named) → IsNotFirst (tables named) →
      (status ≡ Damaged (codes "F")) ⊎ (status ≡ NoMemory) ⊎ Rose input input' ⊎ Rose store store'
  not_first status right knows named given told unlike =
      let same = same_name words named name given.given.right_words right in
      at_name status knows named given (subst (λ (n : List ℕ). IsSome (tables n)) same told) (subst (λ (n : List ℕ). IsNotFirst (tables n)) same unlike)
