-- What the expressions are that a simple statement begins with, as the code holds it.
use Rattle.gno_rules.specs.Statements.{Left, one_name, one_expr, one_guard, many_names, many_exprs}
use Rattle.gno_simple.specs.declared.left.Left.{Left as Held}
use Rattle.gno_simple.specs.declared.left.Left.TheVariants as held

abbrev pub left : Held → Left
left held.OneName = one_name
left held.OneExpr = one_expr
left held.OneGuard = one_guard
left held.ManyNames = many_names
left held.ManyExprs = many_exprs
