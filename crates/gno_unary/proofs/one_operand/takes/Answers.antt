use Rattle.std.proofs.Common.{sym, subst, Bool}
use Rattle.std.specs.Prelude.{◌↔◌, IsTrue}
use Rattle.gno_unary.proofs.OneOperand.{takes_integers}
use Rattle.gno_terms.specs.declared.term.GoType.{GoType}
use Rattle.gno_terms.specs.declared.term.TermOf.{TermOf}
use Rattle.gno_tree.specs.declared.operator.UnaryOperator.{UnaryOperator}
use Rattle.gno_type_classes.specs.Unnumbered.{unnumbered}
use Rattle.gno_typing.specs.Classes.{IsOf}
use Rattle.gno_typing.specs.Unary.{takes}
use Rattle.gno_unary.proofs.one_operand.takes.Goals as goal

pub returns-in-Not : goal.returns-in-Not
returns-in-Not c s is = subst (λ (operator : UnaryOperator). IsTrue c.is_boolean.result ↔ IsOf (takes operator) (unnumbered c.args.types.now) s) (sym c.in-Not.is) (c.is_boolean.ensures s is)

pub returns-in_default : goal.returns-in_default
returns-in_default c s is = takes_integers (λ (class : TermOf GoType → Bool). IsTrue c.is_integer.result ↔ IsOf class (unnumbered c.args.types.now) s) c.args.operator c.in_default.not-Not (c.is_integer.ensures s is)
