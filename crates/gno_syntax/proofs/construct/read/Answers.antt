use Rattle.std.proofs.Common.{rules}
use Rattle.gno_rules.specs.declared.rule.Rule.TheVariants as r
use Rattle.gno_syntax.proofs.Deeper.{as_construct, no_construct}
use Rattle.gno_syntax.proofs.construct.read.Goals as goal

pub returns-in_err-type_read-in-Type : goal.returns-in_err-type_read-in-Type
returns-in_err-type_read-in-Type g c =
    let e = no_construct (g.R.Reader.scope c.args.reader.now) r.Type c.args.rule c.in-Type.is c.args.tokens.now _ _ c.in_err-type_read-in-Type.ensures in
    search (rules, e)

pub returns-in_ok-type_read-in-Type : goal.returns-in_ok-type_read-in-Type
returns-in_ok-type_read-in-Type g c = as_construct (g.R.Reader.scope c.args.reader.now) r.Type c.args.rule c.in-Type.is c.args.tokens.now _ _ c.in_ok-type_read-in-Type.ensures

pub returns-in_err-other_type-in-OtherType : goal.returns-in_err-other_type-in-OtherType
returns-in_err-other_type-in-OtherType g c =
    let e = no_construct (g.R.Reader.scope c.args.reader.now) r.OtherType c.args.rule c.in-OtherType.is c.args.tokens.now _ _ c.in_err-other_type-in-OtherType.ensures in
    search (rules, e)

pub returns-in_ok-other_type-in-OtherType : goal.returns-in_ok-other_type-in-OtherType
returns-in_ok-other_type-in-OtherType g c = as_construct (g.R.Reader.scope c.args.reader.now) r.OtherType c.args.rule c.in-OtherType.is c.args.tokens.now _ _ c.in_ok-other_type-in-OtherType.ensures

pub returns-in_err-result_type-in-ResultType : goal.returns-in_err-result_type-in-ResultType
returns-in_err-result_type-in-ResultType g c =
    let e = no_construct (g.R.Reader.scope c.args.reader.now) r.ResultType c.args.rule c.in-ResultType.is c.args.tokens.now _ _ c.in_err-result_type-in-ResultType.ensures in
    search (rules, e)

pub returns-in_ok-result_type-in-ResultType : goal.returns-in_ok-result_type-in-ResultType
returns-in_ok-result_type-in-ResultType g c = as_construct (g.R.Reader.scope c.args.reader.now) r.ResultType c.args.rule c.in-ResultType.is c.args.tokens.now _ _ c.in_ok-result_type-in-ResultType.ensures

pub returns-in_err-declared_type-in-DeclaredType : goal.returns-in_err-declared_type-in-DeclaredType
returns-in_err-declared_type-in-DeclaredType g c =
    let e = no_construct (g.R.Reader.scope c.args.reader.now) r.DeclaredType c.args.rule c.in-DeclaredType.is c.args.tokens.now _ _ c.in_err-declared_type-in-DeclaredType.ensures in
    search (rules, e)

pub returns-in_ok-declared_type-in-DeclaredType : goal.returns-in_ok-declared_type-in-DeclaredType
returns-in_ok-declared_type-in-DeclaredType g c = as_construct (g.R.Reader.scope c.args.reader.now) r.DeclaredType c.args.rule c.in-DeclaredType.is c.args.tokens.now _ _ c.in_ok-declared_type-in-DeclaredType.ensures

pub returns-in_err-type_operand-in-OperandType : goal.returns-in_err-type_operand-in-OperandType
returns-in_err-type_operand-in-OperandType g c =
    let e = no_construct (g.R.Reader.scope c.args.reader.now) r.OperandType c.args.rule c.in-OperandType.is c.args.tokens.now _ _ c.in_err-type_operand-in-OperandType.ensures in
    search (rules, e)

pub returns-in_ok-type_operand-in-OperandType : goal.returns-in_ok-type_operand-in-OperandType
returns-in_ok-type_operand-in-OperandType g c = as_construct (g.R.Reader.scope c.args.reader.now) r.OperandType c.args.rule c.in-OperandType.is c.args.tokens.now _ _ c.in_ok-type_operand-in-OperandType.ensures

pub returns-in_err-function-in-Function : goal.returns-in_err-function-in-Function
returns-in_err-function-in-Function g c =
    let e = no_construct (g.R.Reader.scope c.args.reader.now) r.Function c.args.rule c.in-Function.is c.args.tokens.now _ _ c.in_err-function-in-Function.ensures in
    search (rules, e)

pub returns-in_ok-function-in-Function : goal.returns-in_ok-function-in-Function
returns-in_ok-function-in-Function g c = as_construct (g.R.Reader.scope c.args.reader.now) r.Function c.args.rule c.in-Function.is c.args.tokens.now _ _ c.in_ok-function-in-Function.ensures

pub returns-in_err-header_function-in-HeaderFunction : goal.returns-in_err-header_function-in-HeaderFunction
returns-in_err-header_function-in-HeaderFunction g c =
    let e = no_construct (g.R.Reader.scope c.args.reader.now) r.HeaderFunction c.args.rule c.in-HeaderFunction.is c.args.tokens.now _ _ c.in_err-header_function-in-HeaderFunction.ensures in
    search (rules, e)

pub returns-in_ok-header_function-in-HeaderFunction : goal.returns-in_ok-header_function-in-HeaderFunction
returns-in_ok-header_function-in-HeaderFunction g c = as_construct (g.R.Reader.scope c.args.reader.now) r.HeaderFunction c.args.rule c.in-HeaderFunction.is c.args.tokens.now _ _ c.in_ok-header_function-in-HeaderFunction.ensures

pub returns-in_err-paren-in-Paren : goal.returns-in_err-paren-in-Paren
returns-in_err-paren-in-Paren g c =
    let e = no_construct (g.R.Reader.scope c.args.reader.now) r.Paren c.args.rule c.in-Paren.is c.args.tokens.now _ _ c.in_err-paren-in-Paren.ensures in
    search (rules, e)

pub returns-in_ok-paren-in-Paren : goal.returns-in_ok-paren-in-Paren
returns-in_ok-paren-in-Paren g c = as_construct (g.R.Reader.scope c.args.reader.now) r.Paren c.args.rule c.in-Paren.is c.args.tokens.now _ _ c.in_ok-paren-in-Paren.ensures

pub returns-in_err-index-in-Index : goal.returns-in_err-index-in-Index
returns-in_err-index-in-Index g c =
    let e = no_construct (g.R.Reader.scope c.args.reader.now) r.Index c.args.rule c.in-Index.is c.args.tokens.now _ _ c.in_err-index-in-Index.ensures in
    search (rules, e)

pub returns-in_ok-index-in-Index : goal.returns-in_ok-index-in-Index
returns-in_ok-index-in-Index g c = as_construct (g.R.Reader.scope c.args.reader.now) r.Index c.args.rule c.in-Index.is c.args.tokens.now _ _ c.in_ok-index-in-Index.ensures

pub returns-in_err-arguments-in-Arguments : goal.returns-in_err-arguments-in-Arguments
returns-in_err-arguments-in-Arguments g c =
    let e = no_construct (g.R.Reader.scope c.args.reader.now) r.Arguments c.args.rule c.in-Arguments.is c.args.tokens.now _ _ c.in_err-arguments-in-Arguments.ensures in
    search (rules, e)

pub returns-in_ok-arguments-in-Arguments : goal.returns-in_ok-arguments-in-Arguments
returns-in_ok-arguments-in-Arguments g c = as_construct (g.R.Reader.scope c.args.reader.now) r.Arguments c.args.rule c.in-Arguments.is c.args.tokens.now _ _ c.in_ok-arguments-in-Arguments.ensures

pub returns-in_err-elements-in-Elements : goal.returns-in_err-elements-in-Elements
returns-in_err-elements-in-Elements g c =
    let e = no_construct (g.R.Reader.scope c.args.reader.now) r.Elements c.args.rule c.in-Elements.is c.args.tokens.now _ _ c.in_err-elements-in-Elements.ensures in
    search (rules, e)

pub returns-in_ok-elements-in-Elements : goal.returns-in_ok-elements-in-Elements
returns-in_ok-elements-in-Elements g c = as_construct (g.R.Reader.scope c.args.reader.now) r.Elements c.args.rule c.in-Elements.is c.args.tokens.now _ _ c.in_ok-elements-in-Elements.ensures

pub returns-in_err-unary-in-Unary : goal.returns-in_err-unary-in-Unary
returns-in_err-unary-in-Unary g c =
    let e = no_construct (g.R.Reader.scope c.args.reader.now) r.Unary c.args.rule c.in-Unary.is c.args.tokens.now _ _ c.in_err-unary-in-Unary.ensures in
    search (rules, e)

pub returns-in_ok-unary-in-Unary : goal.returns-in_ok-unary-in-Unary
returns-in_ok-unary-in-Unary g c = as_construct (g.R.Reader.scope c.args.reader.now) r.Unary c.args.rule c.in-Unary.is c.args.tokens.now _ _ c.in_ok-unary-in-Unary.ensures

pub returns-in_err-unary-in-HeaderUnary : goal.returns-in_err-unary-in-HeaderUnary
returns-in_err-unary-in-HeaderUnary g c =
    let e = no_construct (g.R.Reader.scope c.args.reader.now) r.HeaderUnary c.args.rule c.in-HeaderUnary.is c.args.tokens.now _ _ c.in_err-unary-in-HeaderUnary.ensures in
    search (rules, e)

pub returns-in_ok-unary-in-HeaderUnary : goal.returns-in_ok-unary-in-HeaderUnary
returns-in_ok-unary-in-HeaderUnary g c = as_construct (g.R.Reader.scope c.args.reader.now) r.HeaderUnary c.args.rule c.in-HeaderUnary.is c.args.tokens.now _ _ c.in_ok-unary-in-HeaderUnary.ensures

pub returns-in_err-block-in-Block : goal.returns-in_err-block-in-Block
returns-in_err-block-in-Block g c =
    let e = no_construct (g.R.Reader.scope c.args.reader.now) r.Block c.args.rule c.in-Block.is c.args.tokens.now _ _ c.in_err-block-in-Block.ensures in
    search (rules, e)

pub returns-in_ok-block-in-Block : goal.returns-in_ok-block-in-Block
returns-in_ok-block-in-Block g c = as_construct (g.R.Reader.scope c.args.reader.now) r.Block c.args.rule c.in-Block.is c.args.tokens.now _ _ c.in_ok-block-in-Block.ensures

pub returns-in_err-switch_body-in-SwitchBody : goal.returns-in_err-switch_body-in-SwitchBody
returns-in_err-switch_body-in-SwitchBody g c =
    let e = no_construct (g.R.Reader.scope c.args.reader.now) r.SwitchBody c.args.rule c.in-SwitchBody.is c.args.tokens.now _ _ c.in_err-switch_body-in-SwitchBody.ensures in
    search (rules, e)

pub returns-in_ok-switch_body-in-SwitchBody : goal.returns-in_ok-switch_body-in-SwitchBody
returns-in_ok-switch_body-in-SwitchBody g c = as_construct (g.R.Reader.scope c.args.reader.now) r.SwitchBody c.args.rule c.in-SwitchBody.is c.args.tokens.now _ _ c.in_ok-switch_body-in-SwitchBody.ensures
