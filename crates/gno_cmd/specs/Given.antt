-- What a command may be given: right words, and an input that is told.
use Rattle.std.specs.Prelude.{ℕ, ◌≡◌, ◌<◌, ◌≤◌, List, Option, Some, length}
use Rattle.gno_script.specs.declared.item.Item.{Item}
use Rattle.gno_script.specs.Lines.{lines_of}
use Rattle.gno_script.specs.Script.{IsScript}
use Rattle.gno_script.specs.Faults.{IsFirstFault}
use Rattle.gno_cmd.specs.Usage.{AreReplayWords}

-- the words name the table, and the input is this text
pub record Gives (words : List (List ℕ)) (left : Option (List ℕ)) (name text : List ℕ) : Type 0 where
  pub right_words : AreReplayWords words name
  pub told : left ≡ Some text

-- the input is a script
pub record GivesScript (words : List (List ℕ)) (left : Option (List ℕ)) (name : List ℕ) : Type 0 where
  pub text : List ℕ
  pub items : List Item
  pub given : Gives words left name text
  pub within : length text ≤ 67108864
  pub script : IsScript (lines_of text) items

-- this is the first faulty line of the input
pub record GivesFault (words : List (List ℕ)) (left : Option (List ℕ)) (line : ℕ) : Type 0 where
  pub name : List ℕ
  pub text : List ℕ
  pub given : Gives words left name text
  pub within : length text ≤ 67108864
  pub fault : IsFirstFault (lines_of text) line

-- the input is longer than a script may be
pub record GivesTooMuch (words : List (List ℕ)) (left : Option (List ℕ)) : Type 0 where
  pub name : List ℕ
  pub text : List ℕ
  pub given : Gives words left name text
  pub too_long : 67108864 < length text
