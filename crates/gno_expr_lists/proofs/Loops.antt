-- The loops of lists, each with the phrase of its turns and the test of its code.
use Rattle.std.proofs.Common.{◌≡◌, sym, ap, ◌∙◌, subst, ℕ, ◌<◌, Bool, true, false, ◌&&◌, not, List, [], ◌∷◌, ◌++◌, length}
use Rattle.gno_grammar.specs.Readers.{Outcome, got, map, begins, null, first}
use Rattle.gno_grammar.proofs.Loops.{Going, go_on, go_end, turn_shorter, turn_goes}
use Rattle.gno_scan.specs.declared.kind.TokenKind.TheVariants as k
use Rattle.gno_scan.specs.declared.token.Token.{Token}
use Rattle.gno_tree.specs.declared.expr.Expr.{Expr}
use Rattle.gno_reader.specs.Answers.{Fails, sees}
use Rattle.gno_reader.specs.Scope.{Scope, reads}
use Rattle.gno_reader.specs.declared.cursor.Failure.{Failure}
use Rattle.gno_reader.proofs.Built.{read_given}
use Rattle.gno_reader.proofs.Turns.{step_fails, turn_fails, read_to, repeat_going, chain_going}
use Rattle.gno_rules.specs.Kinds.{code}
use Rattle.gno_rules.specs.Parts.{P, a, to, given, past, always, one, with_last}
use Rattle.gno_rules.specs.Signatures.{COMMA}
use Rattle.gno_rules.specs.Shapes.{MOST, exprs_alone, expr_of, within_place, with_expr}
use Rattle.gno_rules.specs.Expressions.{is_guarded, exprs_more, found_more, expr, exprs, values}
use Rattle.gno_rules.specs.Table.{grammar}
use Rattle.gno_rules.specs.declared.expression.Exprs.{Exprs}
use Rattle.gno_rules.specs.declared.expression.Found.{Found}
use Rattle.gno_rules.specs.declared.expression.Place.{Place}
use Rattle.gno_expr_lists.proofs.Turns.{takes_further_expr, takes_further_value}

module _ (scope : Scope) (place : Place) where
  abbrev further_expr : List ℕ → P Found
  further_expr text = past (a k.Comma) (expr text (within_place place))

  abbrev exprs_on : Exprs → Bool
  exprs_on es = not (is_guarded es)

  abbrev exprs_begin : Exprs → List ℕ
  exprs_begin es = first (grammar scope.text) (further_expr scope.text)

  abbrev exprs_read : Exprs → List Token → Outcome Token Found
  exprs_read es ts = reads scope further_expr ts

  abbrev pub Further : List Token → Exprs → List Token → Type 0
  Further old es ts = Going code exprs_on exprs_begin exprs_read with_expr (reads scope (λ text. exprs text place) old) es ts

  pub exprs_start : (old : List Token) (es : Exprs) (e : Found) (mid : List Token) → es ≡ exprs_alone e → reads scope (λ text. expr text place) old ≡ got e mid → Further old es mid
  unfolding exprs
  exprs_start old es e mid o h = subst (λ es. Further old es mid) (sym o)
      (chain_going scope (exprs_more place) (COMMA ++ MOST place 5) COMMA exprs_on with_expr
      (λ text. given (λ es. found_more place 5 es.first) (MOST place 5) exprs_alone (expr text place)) (λ text _. further_expr text) old (exprs_alone e) mid
      (read_given scope (λ es. found_more place 5 es.first) (MOST place 5) exprs_alone (λ text. expr text place) old e mid h))

  -- what the code tests
  abbrev pub exprs_tested : Exprs → List Token → Bool
  exprs_tested es ts = not (is_guarded es) && sees (k.Comma ∷ []) ts

  exprs_same : (es : Exprs) (ts : List Token) (b : Bool) → b ≡ exprs_tested es ts → (exprs_on es && begins code (exprs_begin es) ts) ≡ b
  unfolding first null sees
  exprs_same es ts b e = sym e

  pub exprs_fail : (old : List Token) (es : Exprs) (ts : List Token) (failure : Failure) (us : List Token) → true ≡ exprs_tested es ts
      → Fails (map (with_expr es) (exprs_read es) ts) failure us → Further old es ts → Fails (reads scope (λ text. exprs text place) old) failure us
  exprs_fail old es ts failure us t h g = turn_fails exprs_on exprs_begin exprs_read with_expr (reads scope (λ text. exprs text place) old) es ts failure us (exprs_same es ts true t) h g

  pub exprs_fall : (es : Exprs) (ts : List Token) (v : Exprs) (mid : List Token) → map (with_expr es) (exprs_read es) ts ≡ got v mid → length mid < length ts
  exprs_fall es ts v mid e = turn_shorter code exprs_on exprs_begin exprs_read with_expr es ts v mid (λ b mid. takes_further_expr scope place ts b mid) e

  pub exprs_go : (old : List Token) (es : Exprs) (ts : List Token) (v : Exprs) (mid : List Token) → true ≡ exprs_tested es ts
      → map (with_expr es) (exprs_read es) ts ≡ got v mid → Further old es ts → Further old v mid
  exprs_go old es ts v mid t e g = turn_goes code exprs_on exprs_begin exprs_read with_expr (reads scope (λ text. exprs text place) old) es ts v mid
      (λ b mid. takes_further_expr scope place ts b mid) (exprs_same es ts true t) e g

  pub exprs_end : (old : List Token) (es : Exprs) (ts : List Token) → false ≡ exprs_tested es ts → Further old es ts → reads scope (λ text. exprs text place) old ≡ got es ts
  exprs_end old es ts t g = go_end code exprs_on exprs_begin exprs_read with_expr (reads scope (λ text. exprs text place) old) es ts (exprs_same es ts false t) g

  -- ---- lists of values

  abbrev further_value : List ℕ → P Expr
  further_value text = past (a k.Comma) (to expr_of (expr text (within_place place)))

  abbrev values_begin : List Expr → List ℕ
  values_begin es = first (grammar scope.text) (further_value scope.text)

  abbrev values_read : List Expr → List Token → Outcome Token Expr
  values_read es ts = reads scope further_value ts

  abbrev pub FurtherValues : List Token → List Expr → List Token → Type 0
  FurtherValues old es ts = Going code always values_begin values_read with_last (reads scope (λ text. values text place) old) es ts

  abbrev value_at : List ℕ → P Expr
  value_at text = to expr_of (expr text (within_place place))

  pub values_start : (old : List Token) (none es : List Expr) (v : Expr) (mid : List Token) → none ≡ [] → es ≡ none ++ v ∷ [] → reads scope value_at old ≡ got v mid → FurtherValues old es mid
  unfolding values
  values_start old none es v mid n o h = subst (λ es. FurtherValues old es mid) (sym (o ∙ ap (λ none. none ++ v ∷ []) n))
      (repeat_going scope always with_last (λ text. to one (value_at text)) further_value old (v ∷ []) mid (read_to scope one value_at old v mid h))

  values_same : (es : List Expr) (ts : List Token) (b : Bool) → b ≡ sees (k.Comma ∷ []) ts → (always es && begins code (values_begin es) ts) ≡ b
  unfolding first null sees
  values_same es ts b e = sym e

  pub values_fail : (old : List Token) (es : List Expr) (ts : List Token) (failure : Failure) (us : List Token) → true ≡ sees (k.Comma ∷ []) ts
      → Fails (reads scope further_value ts) failure us → FurtherValues old es ts → Fails (reads scope (λ text. values text place) old) failure us
  values_fail old es ts failure us t h g = step_fails always values_begin values_read with_last (reads scope (λ text. values text place) old) es ts failure us (values_same es ts true t) h g

  pub values_fall : (ts : List Token) (v : Expr) (mid : List Token) → reads scope further_value ts ≡ got v mid → length mid < length ts
  values_fall ts v mid e = takes_further_value scope place ts v mid e

  pub values_go : (old : List Token) (es : List Expr) (ts : List Token) (v : Expr) (mid : List Token) (vs : List Expr) → vs ≡ es ++ v ∷ [] → true ≡ sees (k.Comma ∷ []) ts
      → reads scope further_value ts ≡ got v mid → FurtherValues old es ts → FurtherValues old vs mid
  values_go old es ts v mid vs o t e g = subst (λ es. FurtherValues old es mid) (sym o) (go_on code always values_begin values_read with_last (reads scope (λ text. values text place) old) es ts v mid (values_same es ts true t) e
      (takes_further_value scope place ts v mid e) g)

  pub values_end : (old : List Token) (es : List Expr) (ts : List Token) → false ≡ sees (k.Comma ∷ []) ts → FurtherValues old es ts → reads scope (λ text. values text place) old ≡ got es ts
  values_end old es ts t g = go_end code always values_begin values_read with_last (reads scope (λ text. values text place) old) es ts (values_same es ts false t) g
