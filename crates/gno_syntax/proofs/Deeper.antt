-- A construct one level deeper, and what the reader of whole files answers.
use Rattle.std.proofs.Common.{◌≡◌, ◌≢◌, refl, sym, ap, ◌∙◌, subst, ℕ, zero, suc, ◌-◌, ◌<◌, List, [], ◌∷◌, Ok, Err, arith}
use Rattle.std.specs.Prelude.{Result}
use Rattle.gno_grammar.specs.Answers.{closed}
use Rattle.gno_grammar.specs.Readers.{Outcome, got, refused, level, why}
use Rattle.gno_grammar.specs.declared.refusal.Refusal.{Refusal}
use Rattle.gno_reader.specs.Answers.{Ends, Fails, refusal}
use Rattle.gno_reader.specs.Constructs.{GivesConstruct, construct_of}
use Rattle.gno_reader.specs.Scope.{Scope, reads}
use Rattle.gno_reader.specs.declared.cursor.Failure.{Failure}
use Rattle.gno_reader.specs.declared.reader.Construct.{Construct}
use Rattle.gno_reader.specs.declared.cursor.Failure.TheVariants.{Refused}
use Rattle.gno_rule_laws.proofs.Sound.{file_answers}
use Rattle.gno_rules.specs.Declarations.{file}
use Rattle.gno_rules.specs.Files.{IsOutcome, MOST_NESTED}
use Rattle.gno_rules.specs.Parts.{gives}
use Rattle.gno_rules.specs.Table.{grammar, rule as rule_of}
use Rattle.gno_rules.specs.declared.rule.Rule.{Rule}
use Rattle.gno_scan.specs.declared.token.Token.{Token}
use Rattle.gno_tree.specs.declared.file.FileTree.{FileTree}

-- a construct at a depth is what its rule reads, one level deeper
pub at_rule : (text : List ℕ) (d : ℕ) (k : Rule) (ts : List Token) → 0 < d → level (grammar text) d k ts ≡ reads (record { text = text; depth = d - 1 }) (λ text. rule_of text k) ts
unfolding level
at_rule text d k ts l = go d l refl
  where
    go : (n : ℕ) → 0 < n → d ≡ n → level (grammar text) d k ts ≡ reads (record { text = text; depth = d - 1 }) (λ text. rule_of text k) ts
    go zero l e = absurd (omega arith)
    go (suc n) l e =
        let f : d - 1 ≡ n = omega arith in
        ap (λ d. level (grammar text) d k ts) e ∙ ap (λ n. reads (record { text = text; depth = n }) (λ text. rule_of text k) ts) (sym f)

pub deeper : (text : List ℕ) (d : ℕ) (k : Rule) (ts left : List Token) (x : Result Construct Failure) → 0 < d
    → GivesConstruct k (reads (record { text = text; depth = d - 1 }) (λ text. rule_of text k) ts) x left → GivesConstruct k (level (grammar text) d k ts) x left
deeper text d k ts left x l h = subst (λ o. GivesConstruct k o x left) (sym (at_rule text d k ts l)) h

module _ (scope : Scope) (k rule : Rule) (is : rule ≡ k) (ts left : List Token) where
  -- what a construct gives, where the rule is known
  pub as_construct : (v : gives k) → reads scope (λ text. rule_of text k) ts ≡ got v left → GivesConstruct rule (reads scope (λ text. rule_of text rule) ts) (Ok (construct_of k v)) left
  as_construct v e = subst (λ k'. GivesConstruct k' (reads scope (λ text. rule_of text k') ts) (Ok (construct_of k v)) left) (sym is) (v, refl, e)

  pub no_construct : (failure : Failure) → Fails (reads scope (λ text. rule_of text k) ts) failure left → GivesConstruct rule (reads scope (λ text. rule_of text rule) ts) (Err failure) left
  no_construct failure h = subst (λ k'. GivesConstruct k' (reads scope (λ text. rule_of text k') ts) (Err failure) left) (sym is) h

-- what is left over is refused
pub left_over : (text : List ℕ) {A : Type 0} (o : Outcome Token A) (v : A) (rest : List Token) → rest ≢ [] → o ≡ got v rest → closed (grammar text) o ≡ refused (refusal rest) rest
unfolding refusal why
left_over text o v [] n e = absurd (n refl)
left_over text o v (t ∷ rest) n e = ap (closed (grammar text)) e

pub left_over_fails : (text : List ℕ) {A : Type 0} (o : Outcome Token A) (v : A) (rest : List Token) (failure : Failure) → o ≡ got v rest → Ends rest (Err failure) → Fails (closed (grammar text) o) failure rest
left_over_fails text o v rest failure e (n, f) = subst (λ w. Fails (closed (grammar text) o) w rest) (sym f) (left_over text o v rest n e)

abbrev pub whole : List ℕ → List Token → Outcome Token FileTree
whole text tokens = closed (grammar text) (reads (record { text = text; depth = MOST_NESTED }) file tokens)

-- the reader of whole files answers the one outcome
the_outcome : (text : List ℕ) (tokens : List Token) (o : Outcome Token FileTree) → whole text tokens ≡ o → IsOutcome text tokens o
the_outcome text tokens o e = subst (λ o. IsOutcome text tokens o) e (file_answers text MOST_NESTED tokens)

pub tree_outcome : (text : List ℕ) (tokens : List Token) (v : FileTree) (rest : List Token) → whole text tokens ≡ got v rest → IsOutcome text tokens (got v [])
tree_outcome text tokens v rest e = let h = the_outcome text tokens (got v rest) e in subst (λ us. IsOutcome text tokens (got v us)) h.0.0 h

pub refused_outcome : (text : List ℕ) (tokens : List Token) (w : Refusal) (rest : List Token) → whole text tokens ≡ refused w rest → IsOutcome text tokens (refused w rest)
refused_outcome text tokens w rest e = the_outcome text tokens (refused w rest) e
