-- Each construct has a word, so what was read of one can be gone on with.
use Rattle.std.proofs.Common.{◌≡◌, refl, sym, subst, ℕ, true, List, [], ◌++◌, Option, Some, None, append_assoc, true≢false}
use Rattle.gno_grammar.specs.Phrases.{Phrase, both, construct, Grammar}
use Rattle.gno_grammar.specs.Readings.{Reading, reads, nested}
use Rattle.gno_grammar.specs.Deciding.{is_some, word, has_word, IsSound}
use Rattle.gno_grammar.proofs.Laws.{Live}
use Rattle.gno_grammar.proofs.Words.{IsWord, is_word, word_of}
use Rattle.gno_tree.specs.declared.statement.Block.{Block}
use Rattle.gno_rules.specs.Expressions as e
use Rattle.gno_rules.specs.Table.{grammar, rule}
use Rattle.gno_rules.specs.declared.rule.Rule.{Rule}
use Rattle.gno_rules.specs.declared.rule.Rule.TheVariants as r
use Rattle.gno_rule_laws.proofs.TypeEnds.{shown}

-- whether a construct has a word that can be computed
abbrev pub has : Rule → Type 0
has k = (text : List ℕ) → has_word (grammar text) (rule text k) ≡ true

of_type : has r.Type
unfolding shown
of_type text = refl

of_other_type : has r.OtherType
unfolding shown
of_other_type text = refl

of_result_type : has r.ResultType
unfolding shown
of_result_type text = refl

of_declared_type : has r.DeclaredType
unfolding shown
of_declared_type text = refl

of_operand_type : has r.OperandType
unfolding shown
of_operand_type text = refl

of_function : has r.Function
unfolding shown
of_function text = refl

of_paren : has r.Paren
unfolding shown
of_paren text = refl

of_index : has r.Index
unfolding shown
of_index text = refl

of_arguments : has r.Arguments
unfolding shown
of_arguments text = refl

of_elements : has r.Elements
unfolding shown
of_elements text = refl

of_unary : has r.Unary
unfolding shown
of_unary text = refl

of_header_unary : has r.HeaderUnary
unfolding shown
of_header_unary text = refl

of_block : has r.Block
unfolding shown
of_block text = refl

of_switch_body : has r.SwitchBody
unfolding shown
of_switch_body text = refl

-- The word of a function in a header is put together from those of its signature and its body.
module _ {T R : Type 0} {gives : R → Type 0} (grammar : Grammar T R gives) where
  both_live : {A B D : Type 0} (f : A → B → D) (g : Phrase T R gives A) (C : (k : R) → Reading T (gives k)) (h : Phrase T R gives B) (a : Option (List T × A)) (b : Option (List T × B))
      → IsWord grammar C g a → IsWord grammar C h b → is_some a ≡ true → is_some b ≡ true
      → (ts : List T) × (v : D) × ((y : List T) → reads grammar C (both f g h) (ts ++ y) v y)
  both_live f g C h None b x y e e' = absurd (true≢false (sym e))
  both_live f g C h (Some a) None x y e e' = absurd (true≢false (sym e'))
  both_live f g C h (Some a) (Some b) x y e e' = (
    a.0 ++ b.0,
    f a.1 b.1,
    λ us. subst (λ ts. reads grammar C (both f g h) ts (f a.1 b.1) us) (sym (append_assoc a.0 b.0 us)) (a.1, b.0 ++ us, x (b.0 ++ us), (b.1, y us, refl)),
  )

  construct_word : (k : R) (b : Option (List T × gives k)) → IsWord grammar (nested grammar 0) (grammar.rule k) b → IsWord grammar (nested grammar 1) (construct k) b
  construct_word k None x = tt
  construct_word k (Some b) x = x

of_head : (text : List ℕ) → has_word (grammar text) (e.function_head text) ≡ true
unfolding shown
of_head text = refl

header_function : (text : List ℕ) → IsSound (grammar text) r.HeaderFunction → IsSound (grammar text) r.Block → Live (λ d. nested (grammar text) d r.HeaderFunction) []
unfolding shown
header_function text head body =
    let g = grammar text in
    let C = nested g 1 in
    let live = both_live g {A = e.FunctionHead} {B = Block} (λ head body. e.function_found head (Some body)) (e.function_head text) C (construct r.Block) (word g (e.function_head text)) (word g (rule text r.Block))
    (is_word g C (e.function_head text) head.0.0) (construct_word g r.Block (word g (rule text r.Block)) (is_word g (nested g 0) (rule text r.Block) body.0)) (of_head text) (of_block text) in
    (2, live.0, live.1, live.2)

-- of a sound grammar each construct has a word
pub words_of_sound : (text : List ℕ) → ((k : Rule) → IsSound (grammar text) k) → (k : Rule) → Live (λ d. nested (grammar text) d k) []
words_of_sound text sounds r.Type = word_of (grammar text) r.Type (sounds r.Type) (of_type text)
words_of_sound text sounds r.OtherType = word_of (grammar text) r.OtherType (sounds r.OtherType) (of_other_type text)
words_of_sound text sounds r.ResultType = word_of (grammar text) r.ResultType (sounds r.ResultType) (of_result_type text)
words_of_sound text sounds r.DeclaredType = word_of (grammar text) r.DeclaredType (sounds r.DeclaredType) (of_declared_type text)
words_of_sound text sounds r.OperandType = word_of (grammar text) r.OperandType (sounds r.OperandType) (of_operand_type text)
words_of_sound text sounds r.Function = word_of (grammar text) r.Function (sounds r.Function) (of_function text)
words_of_sound text sounds r.HeaderFunction = header_function text (sounds r.HeaderFunction) (sounds r.Block)
words_of_sound text sounds r.Paren = word_of (grammar text) r.Paren (sounds r.Paren) (of_paren text)
words_of_sound text sounds r.Index = word_of (grammar text) r.Index (sounds r.Index) (of_index text)
words_of_sound text sounds r.Arguments = word_of (grammar text) r.Arguments (sounds r.Arguments) (of_arguments text)
words_of_sound text sounds r.Elements = word_of (grammar text) r.Elements (sounds r.Elements) (of_elements text)
words_of_sound text sounds r.Unary = word_of (grammar text) r.Unary (sounds r.Unary) (of_unary text)
words_of_sound text sounds r.HeaderUnary = word_of (grammar text) r.HeaderUnary (sounds r.HeaderUnary) (of_header_unary text)
words_of_sound text sounds r.Block = word_of (grammar text) r.Block (sounds r.Block) (of_block text)
words_of_sound text sounds r.SwitchBody = word_of (grammar text) r.SwitchBody (sounds r.SwitchBody) (of_switch_body text)
