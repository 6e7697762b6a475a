-- Lists of items: each item takes a token, and what the list answers is what its phrase does.
use Rattle.std.proofs.Common.{◌≡◌, refl, sym, subst, ℕ, suc, ◌<◌, Bool, false, not, List, [], ◌∷◌, length, Some, None}
use Rattle.gno_grammar.specs.Readers.{Outcome, got, bind, map, choice, turns, null, first}
use Rattle.gno_scan.specs.declared.kind.TokenKind.{TokenKind}
use Rattle.gno_scan.specs.declared.token.Token.{Token}
use Rattle.gno_tree.specs.declared.expr.Element.{Element}
use Rattle.gno_tree.specs.declared.expr.Expr.{Expr}
use Rattle.gno_reader.proofs.Shown.{beginnings}
use Rattle.gno_reader.specs.Answers.{one_token}
use Rattle.gno_reader.specs.Lists.{further, items, closed_items}
use Rattle.gno_reader.specs.Scope.{Scope, reads}
use Rattle.gno_reader.proofs.Shown.{reading}
use Rattle.gno_reader.proofs.Turns.{takes}
use Rattle.gno_rules.specs.Kinds.{code, numbers}
use Rattle.gno_rules.specs.Parts.{P, listed, closed_list, with_item}
use Rattle.gno_rules.specs.Expressions.{plain_expr, elements_part, one_element}
use Rattle.gno_rules.specs.Table.{grammar}
use Rattle.gno_rule_laws.proofs.ListsSound.{shown_lists, sound_plain_expr, is_sound_elements}

-- ---- expressions and elements

pub takes_plain_expr : (scope : Scope) (ts : List Token) (v : Expr) (rest : List Token) → reads scope plain_expr ts ≡ got v rest → length rest < length ts
unfolding shown_lists
takes_plain_expr scope ts v rest e = takes scope plain_expr (sound_plain_expr scope.text) refl ts v rest e

pub takes_element : (scope : Scope) (ts : List Token) (v : Element) (rest : List Token) → reads scope one_element ts ≡ got v rest → length rest < length ts
unfolding shown_lists
takes_element scope ts v rest e = takes scope one_element (is_sound_elements scope.text).0.1.1.0.0.0.0 refl ts v rest e

-- the kinds that begin one are the same in each text
pub first_plain_expr : (text : List ℕ) → first (grammar []) (plain_expr []) ≡ first (grammar text) (plain_expr text)
unfolding first null beginnings
first_plain_expr text = refl

pub first_element : (text : List ℕ) → first (grammar []) (one_element []) ≡ first (grammar text) (one_element text)
unfolding first null beginnings elements_part one_element
first_element text = refl

-- ---- their lists

module _ {A : Type 0} (scope : Scope) (separator : TokenKind) (item : List ℕ → P A) where
  -- what the list answers where its further items begin with these kinds
  abbrev items_at : List ℕ → List Token → Outcome Token (List A × Bool)
  items_at begin = bind (bind (reads scope item) (λ x. map (λ _. (x ∷ [], false)) (got (tt {0}))))
      (λ xs mid. turns code (λ xs. not xs.1) (λ _. numbers (separator ∷ [])) (λ _. bind (one_token (separator ∷ [])) (λ _. map (λ x. x) (choice code begin (map Some (reads scope item)) (got None)))) with_item (suc (length mid)) xs mid)

  abbrev closed_at : List ℕ → TokenKind → List Token → Outcome Token (List A)
  closed_at begin closer = choice code (numbers (closer ∷ [])) (bind (one_token (closer ∷ [])) (λ _. map (λ _. []) (got (tt {0}))))
      (bind (bind (items_at begin) (λ xs. map (λ _. xs) (one_token (closer ∷ [])))) (λ xs. map (λ _. xs.0) (got (tt {0}))))

  pub listed_is : (begin : List TokenKind) → numbers begin ≡ first (grammar scope.text) (item scope.text) → (ts : List Token)
      → items separator begin (reads scope item) ts ≡ reads scope (λ text. listed separator (item text)) ts
  unfolding reading further items
  listed_is begin e ts = subst (λ begin. items_at begin ts ≡ reads scope (λ text. listed separator (item text)) ts) (sym e) refl

  pub closed_is : (begin : List TokenKind) → numbers begin ≡ first (grammar scope.text) (item scope.text) → (closer : TokenKind) (ts : List Token)
      → closed_items separator begin (reads scope item) closer ts ≡ reads scope (λ text. closed_list separator closer (item text)) ts
  unfolding reading further items closed_items
  closed_is begin e closer ts = subst (λ begin. closed_at begin closer ts ≡ reads scope (λ text. closed_list separator closer (item text)) ts) (sym e) refl
