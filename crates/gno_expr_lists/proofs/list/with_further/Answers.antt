use Rattle.gno_reader.specs.Scope.{reads}
use Rattle.gno_rules.specs.Expressions.{expr}
use Rattle.gno_rules.specs.Parts.{a, past}
use Rattle.gno_rules.specs.Shapes.{with_expr, within_place}
use Rattle.gno_scan.specs.declared.kind.TokenKind.TheVariants as k
use Rattle.gno_reader.proofs.Built.{built}
use Rattle.gno_expr_lists.proofs.list.with_further.Goals as goal

pub returns : goal.returns
returns g c = built (with_expr c.args.exprs) (reads (g.R.Reader.scope c.args.reader.now) (λ text. past (a k.Comma) (expr text (within_place c.args.place))) c.args.tokens.now) _ _ _ c.in_ok-found.ensures c.in_ok-exprs.ensures
