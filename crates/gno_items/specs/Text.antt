-- The text of an item.
use Rattle.std.specs.Prelude.{ℕ, List, [], ◌∷◌, ◌++◌, Option, Some, None, if◌then◌else◌, nat_eq, length, codes}
use Rattle.std.specs.List.{flat_map}
use Rattle.std.specs.Fmt.{decimal}
use Rattle.gno_script.specs.declared.item.Item.{Item}
use Rattle.gno_script.specs.declared.item.Item.TheVariants.{Add, Call, Reload}
use Rattle.gno_items.specs.declared.reply.ItemReply.{ItemReply}
use Rattle.gno_items.specs.declared.reply.ResultText.{ResultText}
use Rattle.gno_grammar.specs.declared.refusal.LeftOut.{LeftOut}
use Rattle.gno_grammar.specs.declared.refusal.LeftOut.TheVariants as form
use Rattle.gno_items.specs.declared.reply.End.{End}
use Rattle.gno_items.specs.declared.reply.FilePlace.{FilePlace}
use Rattle.gno_items.specs.declared.reply.Refusal.{Refusal}
use Rattle.gno_items.specs.declared.reply.End.TheVariants.{Ok, Refused, Spent}

-- the word of an item that is numbered
abbrev pub word_of : Item → Option (List ℕ)
word_of (Add budget caller path file) = Some (codes "add")
word_of (Call budget caller path function) = Some (codes "call")
word_of Reload = None

-- the name of a form that is left out
abbrev pub form_name : LeftOut → List ℕ
form_name form.Goroutine = codes "goroutine"
form_name form.Channel = codes "channel"
form_name form.Select = codes "select"
form_name form.Goto = codes "goto"
form_name form.Generics = codes "generics"
form_name form.StructTag = codes "struct tag"
form_name form.DotImport = codes "dot import"
form_name form.TypeUnion = codes "type union"

abbrev pub form_text : Option LeftOut → List ℕ
form_text None = []
form_text (Some form) = codes ": " ++ form_name form

-- what a refusal's code says
abbrev pub message : ℕ → List ℕ
message code = if nat_eq code 1 then codes "not UTF-8"
    else (if nat_eq code 2 then codes "stray character"
    else (if nat_eq code 3 then codes "open literal or comment"
    else (if nat_eq code 4 then codes "bad escape"
    else (if nat_eq code 5 then codes "number too wide"
    else (if nat_eq code 6 then codes "floating-point or imaginary literal"
    else (if nat_eq code 7 then codes "source too long"
    else (if nat_eq code 20 then codes "unexpected token"
    else (if nat_eq code 21 then codes "nested too deep"
    else (if nat_eq code 22 then codes "form left out"
    else (if nat_eq code 101 then codes "bad path"
    else (if nat_eq code 102 then codes "path taken"
    else (if nat_eq code 104 then codes "package unknown"
    else (if nat_eq code 105 then codes "function unknown or not of this use" else codes "not built yet")))))))))))))

-- FILE:LINE:COLUMN and a space
abbrev pub place_text : Option FilePlace → List ℕ
place_text None = []
place_text (Some place) = place.file ++ (codes ":" ++ (decimal place.pos.line ++ (codes ":" ++ (decimal place.pos.column ++ codes " "))))

abbrev pub refusal_text : Refusal → List ℕ
refusal_text refusal = codes "refused " ++ (decimal refusal.code ++ (codes " " ++ (place_text refusal.place ++ (message refusal.code ++ form_text refusal.form))))

-- a result, in parentheses behind a space
abbrev pub result_text : ResultText → List ℕ
result_text result = codes " (" ++ (result.value ++ (codes " " ++ (result.of ++ codes ")")))

abbrev pub outcome_line : End → List ℕ
outcome_line (Ok results) = codes "ok" ++ flat_map result_text results
outcome_line (Refused refusal) = refusal_text refusal
outcome_line Spent = codes "spent"

-- the bytes that were printed, behind their number
abbrev pub printed_text : List ℕ → List ℕ
printed_text [] = []
printed_text (b ∷ bs) = codes "out " ++ (decimal (length (b ∷ bs)) ++ (codes "\n" ++ ((b ∷ bs) ++ codes "\n")))

abbrev pub heading : ℕ → List ℕ → List ℕ
heading number word = codes "item " ++ (decimal number ++ (codes " " ++ (word ++ codes "\n")))

-- the outcome line's end, and the line of the cycles that were charged
abbrev pub cycles_line : ℕ → List ℕ
cycles_line used = codes "\ncycles " ++ (decimal used ++ codes "\n")

-- the lines of a numbered item
abbrev pub numbered_text : ℕ → List ℕ → ItemReply → List ℕ
numbered_text number word reply = heading number word ++ (printed_text reply.printed ++ (outcome_line reply.end ++ cycles_line reply.used))

abbrev pub text_of_word : ℕ → Option (List ℕ) → ItemReply → List ℕ
text_of_word number None reply = []
text_of_word number (Some word) reply = numbered_text number word reply

abbrev pub item_text : ℕ → Item → ItemReply → List ℕ
item_text number item reply = text_of_word number (word_of item) reply
