-- The grammar of source files is sound, so its reader answers exactly, and no file is two trees.
use Rattle.std.proofs.Common.{◌≡◌, refl, ℕ, true, List, []}
use Rattle.gno_grammar.specs.Readings.{nested}
use Rattle.gno_grammar.specs.Sets.{within}
use Rattle.gno_grammar.specs.Readers.{first, run, level}
use Rattle.gno_grammar.specs.Deciding.{IsSound}
use Rattle.gno_grammar.specs.Answers.{Is, Exactly, closed}
use Rattle.gno_grammar.proofs.Laws.{Live}
use Rattle.gno_grammar.proofs.Answers.{exactly, one_tree}
use Rattle.gno_scan.specs.declared.token.Token.{Token}
use Rattle.gno_tree.specs.declared.file.FileTree.{FileTree}
use Rattle.gno_rules.specs.Declarations.{file}
use Rattle.gno_rules.specs.Table.{grammar, rule, first_of}
use Rattle.gno_rules.specs.declared.rule.Rule.{Rule}
use Rattle.gno_rules.specs.declared.rule.Rule.TheVariants as r
use Rattle.gno_rule_laws.proofs.StatementsSound.{is_sound_block, is_sound_switch_body}
use Rattle.gno_rule_laws.proofs.DeclarationsSound.{sound_file}
use Rattle.gno_rule_laws.proofs.ListsSound.{is_sound_function, is_sound_header_function, is_sound_paren, is_sound_index, is_sound_arguments, is_sound_elements, is_sound_unary, is_sound_header_unary}
use Rattle.gno_rule_laws.proofs.TypesSound.{is_sound_type, is_sound_other_type, is_sound_result_type, is_sound_declared_type, is_sound_type_operand}
use Rattle.gno_rule_laws.proofs.TypeEnds.{shown}
use Rattle.gno_rule_laws.proofs.Words.{words_of_sound}

-- every construct is decided by one token
pub sounds : (text : List ℕ) (k : Rule) → IsSound (grammar text) k
sounds text r.Type = is_sound_type text
sounds text r.OtherType = is_sound_other_type text
sounds text r.ResultType = is_sound_result_type text
sounds text r.DeclaredType = is_sound_declared_type text
sounds text r.OperandType = is_sound_type_operand text
sounds text r.Function = is_sound_function text
sounds text r.HeaderFunction = is_sound_header_function text
sounds text r.Paren = is_sound_paren text
sounds text r.Index = is_sound_index text
sounds text r.Arguments = is_sound_arguments text
sounds text r.Elements = is_sound_elements text
sounds text r.Unary = is_sound_unary text
sounds text r.HeaderUnary = is_sound_header_unary text
sounds text r.Block = is_sound_block text
sounds text r.SwitchBody = is_sound_switch_body text

-- The kinds that are written down as those that begin a construct do begin it: one that is too deep is refused where it begins, and nowhere else.
pub begins : (text : List ℕ) (k : Rule) → within (first_of k) (first (grammar text) (rule text k)) ≡ true
unfolding shown
begins text r.Type = refl
begins text r.OtherType = refl
begins text r.ResultType = refl
begins text r.DeclaredType = refl
begins text r.OperandType = refl
begins text r.Function = refl
begins text r.HeaderFunction = refl
begins text r.Paren = refl
begins text r.Index = refl
begins text r.Arguments = refl
begins text r.Elements = refl
begins text r.Unary = refl
begins text r.HeaderUnary = refl
begins text r.Block = refl
begins text r.SwitchBody = refl

-- Every construct has a word.
pub words : (text : List ℕ) (k : Rule) → Live (λ e. nested (grammar text) e k) []
words text k = words_of_sound text (sounds text) k

-- The reader of files answers the one tree, or the first token that continues none, and why, where constructs nest at most so deep.
pub file_answers : (text : List ℕ) (d : ℕ) (tokens : List Token) → Exactly (grammar text) d (file text) tokens (closed (grammar text) (run (grammar text) (level (grammar text) d) (file text) tokens))
file_answers text d tokens = exactly (grammar text) (sounds text) (words text) (file text) (sound_file text) d tokens

-- Tokens are at most one tree of a file, however deep it nests.
pub one_file : (text : List ℕ) (tokens : List Token) (v w : FileTree) → Is (grammar text) (file text) tokens v → Is (grammar text) (file text) tokens w → v ≡ w
one_file text tokens v w h k = one_tree (grammar text) (sounds text) (words text) (file text) (sound_file text) tokens v w h k
