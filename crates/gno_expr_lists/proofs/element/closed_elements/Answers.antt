use Rattle.std.proofs.Common.{rules, subst, ◌∙◌}
use Rattle.gno_reader.specs.Answers.{Gives}
use Rattle.gno_reader.specs.Scope.{reads}
use Rattle.gno_rules.specs.Expressions.{one_element}
use Rattle.gno_scan.specs.declared.kind.TokenKind.TheVariants as k
use Rattle.gno_expr_lists.proofs.Lists.{takes_element, first_element, closed_is}
use Rattle.gno_expr_lists.proofs.element.closed_elements.Goals as goal

pub closed_list-requires : goal.closed_list-requires
closed_list-requires g c = (
  reads (g.R.Reader.scope c.args.reader.now) one_element,
  record { callable = λ old. search rules; answers = λ old new x p. search (rules, p); takes = takes_element (g.R.Reader.scope c.args.reader.now) },
)

pub returns : goal.returns
returns g c =
    let scope = g.R.Reader.scope c.args.reader.now in
    subst (λ o. Gives o c.closed_list.result c.closed_list.new.tokens) (closed_is scope k.Comma one_element _ (c.element_kinds-begin.ensures ∙ first_element scope.text) k.RightBrace c.args.tokens.now)
    (c.closed_list.ensures (reads scope one_element) (record { callable = λ old. search rules; answers = λ old new x p. search (rules, p); takes = takes_element scope }))
