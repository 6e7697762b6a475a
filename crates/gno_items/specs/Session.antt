-- A session: the items of a script, one after another, on one memory.
use Rattle.std.specs.Prelude.{◌≡◌, ℕ, ◌+◌, List, [], ◌∷◌, ◌++◌, Bool, true, false, ◌&&◌}
use Rattle.gno_script.specs.declared.item.Item.{Item}
use Rattle.gno_script.specs.declared.item.Item.TheVariants.{Add, Call, Reload}
use Rattle.gno_items.specs.declared.memory.Package.{Package}
use Rattle.gno_items.specs.declared.reply.ItemReply.{ItemReply}
use Rattle.gno_items.specs.declared.reply.End.{End}
use Rattle.gno_items.specs.declared.reply.End.TheVariants.{Ok, Refused, Spent}
use Rattle.gno_items.specs.Adding.{IsAdded}
use Rattle.gno_items.specs.declared.adding.Added.{Added}
use Rattle.gno_items.specs.Calling.{called}
use Rattle.gno_items.specs.Memory.{with_package, with_new_values}
use Rattle.gno_items.specs.Text.{item_text}

-- the item ended in results
abbrev pub is_ok : End → Bool
is_ok (Ok results) = true
is_ok (Refused refusal) = false
is_ok Spent = false

-- what an item says, whether it ended in results, the packages after it, and how many items were numbered so far
pub record Replied : Type 0 where
  pub text : List ℕ
  pub good : Bool
  pub memory : List Package
  pub done : ℕ

-- a numbered item with its reply, and the packages after it
abbrev pub shown : ℕ → Item → ItemReply → List Package → Replied
shown done item reply memory = record { text = item_text (done + 1) item reply; good = is_ok reply.end; memory = memory; done = done + 1 }

-- What an item says. One that does not end in results leaves the packages as they were. A `reload` changes nothing and says nothing.
abbrev pub Replies : List Package → ℕ → Item → Replied → Type 0
Replies memory done (Add budget caller path file) reply =
    (end : Added) × IsAdded memory budget path file end × (reply ≡ shown done (Add budget caller path file) end.reply (with_package memory end.held))
Replies memory done (Call budget caller path function) reply =
    let end = called memory budget path function in
    reply ≡ shown done (Call budget caller path function) end.reply (with_new_values memory path end.values)
Replies memory done Reload reply = reply ≡ record { text = []; good = true; memory = memory; done = done }

-- what all items say, whether all ended in results, and the packages at the end
pub record Session : Type 0 where
  pub text : List ℕ
  pub good : Bool
  pub memory : List Package

abbrev pub no_items : List Package → Session
no_items memory = record { text = []; good = true; memory = memory }

-- what the first item says, and then what the others say
abbrev pub behind : Replied → Session → Session
behind reply rest = record { text = reply.text ++ rest.text; good = reply.good && rest.good; memory = rest.memory }

-- what the items say, one after another, from these packages and after so many items
abbrev pub IsSessionFrom : List Package → ℕ → List Item → Session → Type 0
IsSessionFrom memory done [] session = session ≡ no_items memory
IsSessionFrom memory done (item ∷ items) session =
    (reply : Replied) × (rest : Session) × Replies memory done item reply × IsSessionFrom reply.memory reply.done items rest × (session ≡ behind reply rest)

abbrev pub IsSession : List Package → List Item → Session → Type 0
IsSession memory items session = IsSessionFrom memory 0 items session
