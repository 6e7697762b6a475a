use Rattle.std.proofs.Common.{rules, subst, ◌∙◌}
use Rattle.gno_reader.specs.Answers.{Gives}
use Rattle.gno_reader.specs.Scope.{reads}
use Rattle.gno_rules.specs.Expressions.{plain_expr}
use Rattle.gno_scan.specs.declared.kind.TokenKind.TheVariants as k
use Rattle.gno_expr_lists.proofs.Lists.{takes_plain_expr, first_plain_expr, listed_is}
use Rattle.gno_expr_lists.proofs.argument.listed_arguments.Goals as goal

pub listed-requires : goal.listed-requires
listed-requires g c = (
  reads (g.R.Reader.scope c.args.reader.now) plain_expr,
  record { callable = λ old. search rules; answers = λ old new x p. search (rules, p); takes = takes_plain_expr (g.R.Reader.scope c.args.reader.now) },
)

pub returns : goal.returns
returns g c =
    let scope = g.R.Reader.scope c.args.reader.now in
    subst (λ o. Gives o c.listed.result c.listed.new.tokens) (listed_is scope k.Comma plain_expr _ (c.plain_expr_kinds-begin.ensures ∙ first_plain_expr scope.text) c.args.tokens.now)
    (c.listed.ensures (reads scope plain_expr) (record { callable = λ old. search rules; answers = λ old new x p. search (rules, p); takes = takes_plain_expr scope }))
