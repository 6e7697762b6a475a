use Rattle.std.specs.Prelude.{IfOk}
use Rattle.gno_judging.specs.Answers.{Answers}
use Rattle.gno_judging.specs.Found.{OperandStands}
use Rattle.gno_names.proofs.Judged.{as_constant, as_function, as_package, as_predeclared, as_type_name, as_variable}
use Rattle.gno_names.proofs.names.meant.Goals as goal

pub returns-in-Variable : goal.returns-in-Variable
returns-in-Variable c y h = as_variable (λ J. IfOk c.variable.result (λ r. Answers J (OperandStands c.args.types.now) c.args.faults.now c.args.faults.now r)) c.args.types.now c.args.at _ _ c.args.is.now y c.in-Variable.is h (λ s is. c.variable.ensures s c.args.faults.now is)

pub returns-in-Constant : goal.returns-in-Constant
returns-in-Constant c y h = as_constant (λ J. IfOk c.constant.result (λ r. Answers J (OperandStands c.args.types.now) c.args.faults.now c.args.faults.now r)) c.args.types.now c.args.at _ _ c.args.is.now y c.in-Constant.is h (λ s is. c.constant.ensures c.args.types.now s c.args.faults.now is)

pub returns-in-TypeName : goal.returns-in-TypeName
returns-in-TypeName c y h = as_type_name (λ J. Answers J (OperandStands c.args.types.now) c.args.faults.now c.type_name.new.faults c.type_name.result) c.args.types.now c.args.at _ c.args.is.now y c.in-TypeName.is h (λ s is. c.type_name.ensures s is)

pub returns-in-Function : goal.returns-in-Function
returns-in-Function c y h = as_function (λ J. IfOk c.function.result (λ r. Answers J (OperandStands c.args.types.now) c.args.faults.now c.args.faults.now r)) c.args.types.now c.args.at _ _ _ c.args.is.now y c.in-Function.is h (λ s is. c.function.ensures c.args.types.now s c.args.faults.now is)

pub returns-in-Package : goal.returns-in-Package
returns-in-Package c y h = as_package (λ J. IfOk c.package.result (λ r. Answers J (OperandStands c.args.types.now) c.args.faults.now c.args.faults.now r)) c.args.types.now c.args.at _ c.args.is.now y c.in-Package.is h (c.package.ensures c.args.types.now c.args.faults.now)

pub returns-in-Builtin : goal.returns-in-Builtin
returns-in-Builtin c y h = as_predeclared (λ J. IfOk c.predeclared.result (λ r. Answers J (OperandStands c.args.types.now) c.args.faults.now c.predeclared.new.faults r)) c.args.types.now c.args.at _ c.args.is.now y c.in-Builtin.is h (c.predeclared.ensures c.args.types.now)
