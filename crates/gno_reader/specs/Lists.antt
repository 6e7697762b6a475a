-- Lists of items with separators between them, over what reads one item.
use Rattle.std.specs.Prelude.{◌≡◌, ℕ, suc, ◌<◌, Bool, true, false, not, List, [], ◌∷◌, length, Option, Some, None, Result, Ok, Err}
use denote.Ref.{MutBor}
use Rattle.gno_grammar.specs.Readers.{Outcome, got, bind, map, choice, turns}
use Rattle.gno_scan.specs.declared.kind.TokenKind.{TokenKind}
use Rattle.gno_scan.specs.declared.token.Token.{Token}
use Rattle.gno_reader.specs.Answers.{Gives, one_token}
use Rattle.gno_reader.specs.declared.cursor.Failure.{Failure}
use Rattle.gno_rules.specs.Kinds.{numbers, code}
use Rattle.gno_rules.specs.Parts.{with_item}

abbrev pub Reads : Type 0 → Type 0
Reads A = List Token → Outcome Token A

-- the function may be called wherever, answers as `item` does, and takes a token
pub record ReadsItem {A : Type 0} (item : Reads A) (pre : MutBor (List Token) → Type 0) (post : MutBor (List Token) → Result A Failure → MutBor (List Token) → Type 0) : Type 0 where
  pub callable : (old : MutBor (List Token)) → pre old
  pub answers : (old new : MutBor (List Token)) (x : Result A Failure) → post old x new → Gives (item old.now) x new.now
  pub takes : (ts : List Token) (v : A) (rest : List Token) → item ts ≡ got v rest → length rest < length ts

module _ {A : Type 0} (separator : TokenKind) (begin : List TokenKind) (item : Reads A) where
  -- a separator, and behind it an item, or none
  unfoldable pub further : Reads (Option A)
  further = bind (one_token (separator ∷ [])) (λ _. map (λ x. x) (choice code (numbers begin) (map Some item) (got None)))

  -- one item or more, and perhaps a separator behind the last; the flag says that one is
  unfoldable pub items : Reads (List A × Bool)
  items = bind (bind item (λ x. map (λ _. (x ∷ [], false)) (got (tt {0}))))
      (λ xs mid. turns code (λ xs. not xs.1) (λ _. numbers (separator ∷ [])) (λ _. further) with_item (suc (length mid)) xs mid)

  -- any number of items, and what closes them
  unfoldable pub closed_items : TokenKind → Reads (List A)
  closed_items closer = choice code (numbers (closer ∷ [])) (bind (one_token (closer ∷ [])) (λ _. map (λ _. []) (got (tt {0}))))
      (bind (bind items (λ xs. map (λ _. xs) (one_token (closer ∷ [])))) (λ xs. map (λ _. xs.0) (got (tt {0}))))
