use Rattle.std.proofs.Common.{rules}
use Rattle.gno_reader.specs.Scope.{reads}
use Rattle.gno_rules.specs.Declarations.{file}
use Rattle.gno_rules.specs.Files.{MOST_NESTED}
use Rattle.gno_syntax.proofs.Deeper.{left_over_fails}
use Rattle.gno_syntax.proofs.parse.whole_file.Goals as goal

pub returns-in_err-end : goal.returns-in_err-end
returns-in_err-end c =
    let e = left_over_fails c.args.text.now (reads (record { text = c.args.text.now; depth = MOST_NESTED }) file c.args.tokens.now) _ _ _ c.in_ok-tree.ensures c.in_err-end.ensures in
    search (rules, e)
