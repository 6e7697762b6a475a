use Rattle.std.proofs.Common.{sym, rules, subst, ◌++◌}
use Rattle.gno_grammar.proofs.Loops.{Going, go_on, go_end}
use Rattle.gno_reader.specs.Answers.{sees}
use Rattle.gno_reader.specs.Scope.{reads}
use Rattle.gno_reader.proofs.Turns.{step_fails}
use Rattle.gno_rules.specs.Kinds.{code}
use Rattle.gno_rules.specs.Parts.{always}
use Rattle.gno_rules.specs.Declarations.{imports}
use Rattle.gno_declarations.proofs.Turns.{next_imports, IMPORT, takes_next_imports}
use Rattle.gno_declarations.proofs.import.imports.Goals as goal

pub returns-in_err-next_imports : goal.returns-in_err-next_imports
unfolding sees
returns-in_err-next_imports g c =
    let e = step_fails always (λ _. IMPORT) (λ _. reads (g.R.Reader.scope c.args.reader.now) next_imports) (λ xs ys. xs ++ ys) _
    c.loop-imports.imports c.loop-imports.tokens _ _ (sym c.loop-imports-test.ensures) c.in_err-next_imports.ensures c.loop-imports.invariant in
    search (rules, e)

pub loop-imports-smaller : goal.loop-imports-smaller
loop-imports-smaller g c = takes_next_imports (g.R.Reader.scope c.args.reader.now) _ _ _ c.in_ok-next_imports.ensures

pub loop-imports-preserved : goal.loop-imports-preserved
unfolding sees
loop-imports-preserved g c =
    subst (λ v. Going code always (λ _. IMPORT) (λ _. reads (g.R.Reader.scope c.args.reader.now) next_imports) (λ xs ys. xs ++ ys)
    (reads (g.R.Reader.scope c.args.reader.now) imports c.args.tokens.now) v c.next_imports.new.tokens)
    (sym c.in_ok-append.ensures.ok)
    (go_on code always (λ _. IMPORT) (λ _. reads (g.R.Reader.scope c.args.reader.now) next_imports) (λ xs ys. xs ++ ys) _
    c.loop-imports.imports c.loop-imports.tokens _ _ (sym c.loop-imports-test.ensures) c.in_ok-next_imports.ensures
    (takes_next_imports (g.R.Reader.scope c.args.reader.now) _ _ _ c.in_ok-next_imports.ensures) c.loop-imports.invariant)

pub returns : goal.returns
unfolding sees
returns g c = go_end code always (λ _. IMPORT) (λ _. reads (g.R.Reader.scope c.args.reader.now) next_imports) (λ xs ys. xs ++ ys) _
    c.loop-imports.imports c.loop-imports.tokens (sym c.loop-imports-test.ensures) c.loop-imports.invariant
