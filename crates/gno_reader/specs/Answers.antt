-- What a function that reads from a cursor answers.
use Rattle.std.specs.Prelude.{◌≡◌, ◌≢◌, ℕ, Bool, List, [], ◌∷◌, Result, Ok, Err}
use Rattle.gno_grammar.specs.Readers.{Outcome, got, refused, begins, one_of, why, why_at}
use Rattle.gno_grammar.specs.declared.refusal.Refusal.{Refusal}
use Rattle.gno_scan.specs.declared.kind.TokenKind.{TokenKind}
use Rattle.gno_scan.specs.declared.token.Token.{Token}
use Rattle.gno_reader.specs.declared.cursor.Failure.{Failure}
use Rattle.gno_reader.specs.declared.cursor.Failure.TheVariants.{NoMemory, Refused}
use Rattle.gno_rules.specs.Kinds.{numbers, code}
use Rattle.gno_rules.specs.Table.{grammar}

-- the cursor stands before the token that is refused; a want of memory says nothing
abbrev pub Fails : {A : Type 0} → Outcome Token A → Failure → List Token → Type 0
Fails out NoMemory left = Unit {0}
Fails out (Refused why) left = out ≡ refused why left

abbrev pub Gives : {A : Type 0} → Outcome Token A → Result A Failure → List Token → Type 0
Gives out (Ok v) left = out ≡ got v left
Gives out (Err failure) left = Fails out failure left

-- a token of one of these kinds comes next
unfoldable pub sees : List TokenKind → List Token → Bool
sees kinds ts = begins code (numbers kinds) ts

-- why what comes next is refused
unfoldable pub refusal : List Token → Refusal
refusal ts = why_at (grammar []) ts

-- one token of these kinds
unfoldable pub one_token : List TokenKind → List Token → Outcome Token Token
one_token kinds ts = one_of code (why (grammar [])) (numbers kinds) ts

-- nothing is left, or a token that is refused
abbrev pub Ends : List Token → Result (Unit {0}) Failure → Type 0
Ends left (Ok v) = left ≡ []
Ends left (Err failure) = (left ≢ []) × (failure ≡ Refused (refusal left))
