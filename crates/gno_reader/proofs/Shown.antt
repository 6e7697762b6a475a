-- What the proof of a reader computes with.
use Rattle.std.proofs.Common.{ℕ}
use Rattle.gno_grammar.specs.Readers.{run, first, null, why}
use Rattle.gno_reader.specs.Answers.{sees, refusal, one_token}
use Rattle.gno_rules.specs.Parts.{name}
use Rattle.gno_rules.specs.Expressions.{asserted, selector, bracketed, elements_suffix, value_suffix, named_suffix, type_suffix, function_suffix, plain_suffix, suffix, literal, name_operand, type_operand, header_type, operand, operand_alone, stepped, primary, unary, operations, expr, plain_expr}

-- a proof that computes what a phrase answers says `unfolding reading`, and the names of its phrases
unfoldable pub reading : ℕ
unfolding run first null why sees refusal one_token
reading = 0

-- the phrases that an expression begins with
unfoldable pub beginnings : ℕ
unfolding name literal name_operand type_operand header_type operand operand_alone stepped primary unary operations expr plain_expr
beginnings = 0

-- the phrases of the steps behind an operand
unfoldable pub steps : ℕ
unfolding asserted selector bracketed elements_suffix value_suffix named_suffix type_suffix function_suffix plain_suffix suffix
steps = 0
