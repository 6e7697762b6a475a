use Rattle.std.proofs.Common.{◌≡◌, ◌∙◌, ◌∷◌, ap, sym, refl, List, ℕ}
use Rattle.std.specs.Prelude.{Some, Err, IsErrOf}
use Rattle.gno_machine.specs.declared.run.Stop.{Stop}
use Rattle.gno_machine.specs.declared.run.Stop.TheVariants.{Spent, NoMemory}
use Rattle.gno_base.specs.Number.{Number}
use Rattle.gno_base.specs.declared.cycles.Cycles.{Cycles}
use Rattle.gno_first.specs.declared.tree.FirstStmt.{FirstStmt}
use Rattle.gno_machine.specs.declared.run.Step.{Step}
use Rattle.gno_machine.specs.Meaning.{Ended, State, after_step, body_meaning, done_at, evaluated, printing, with_value}
use Rattle.gno_machine.proofs.Charging.{at, charged_fits, two_charges}
use Rattle.gno_machine.proofs.run.run_statement.Goals as goal

same_error : (stop : Stop) → IsErrOf {T = Step} (Err stop) Spent → IsErrOf {T = Unit {0}} (Err stop) Spent
same_error Spent is = refl
same_error NoMemory is = cc

abbrev left_of : Cycles → ℕ
left_of x = x.left

pub returns-in_err-value-in-Assign-clause-spent : goal.returns-in_err-value-in-Assign-clause-spent
returns-in_err-value-in-Assign-clause-spent c is rest =
    let values = c.args.values.now in
    let printed = c.args.printed.now in
    let then : Number → State → Ended = λ value s. body_meaning rest (with_value s c.in-Assign.n value) in
    ap (λ (statement : FirstStmt). body_meaning (statement ∷ rest) (at values printed c.args.cycles.now.left)) c.in-Assign.is
    ∙ two_charges values printed c.args.cycles.now.left _ _ (λ s. evaluated c.in-Assign.expression s then)
    c.in_ok-charge.ensures.fits.0 (ap left_of c.in_ok-charge.ensures.fits.1) c.in_ok-charge-in-Assign.ensures.fits.0 (ap left_of c.in_ok-charge-in-Assign.ensures.fits.1)
    ∙ c.in_err-value-in-Assign.ensures.spent printed then

pub returns-in_ok-value-in-Assign-clause-goes : goal.returns-in_ok-value-in-Assign-clause-goes
returns-in_ok-value-in-Assign-clause-goes c rest =
    let values = c.args.values.now in
    let printed = c.args.printed.now in
    let then : Number → State → Ended = λ value s. body_meaning rest (with_value s c.in-Assign.n value) in
    ap (λ (statement : FirstStmt). body_meaning (statement ∷ rest) (at values printed c.args.cycles.now.left)) c.in-Assign.is
    ∙ two_charges values printed c.args.cycles.now.left _ _ (λ s. evaluated c.in-Assign.expression s then)
    c.in_ok-charge.ensures.fits.0 (ap left_of c.in_ok-charge.ensures.fits.1) c.in_ok-charge-in-Assign.ensures.fits.0 (ap left_of c.in_ok-charge-in-Assign.ensures.fits.1)
    ∙ c.in_ok-value-in-Assign.ensures.value printed then
    ∙ ap (λ (vs : List Number). body_meaning rest (at vs printed c.evaluate.new.cycles.left)) (sym c.set-in-Assign.ensures)
    ∙ ap (λ (step : Step). after_step step (at c.set-in-Assign.new.self printed c.evaluate.new.cycles.left) rest) (sym c.goes_on-in-Assign.ensures)

pub returns-in_err-value-in-Print-clause-spent : goal.returns-in_err-value-in-Print-clause-spent
returns-in_err-value-in-Print-clause-spent c is rest =
    let values = c.args.values.now in
    let printed = c.args.printed.now in
    let then : Number → State → Ended = λ value s. printing value s (λ s. body_meaning rest s) in
    ap (λ (statement : FirstStmt). body_meaning (statement ∷ rest) (at values printed c.args.cycles.now.left)) c.in-Print.is
    ∙ two_charges values printed c.args.cycles.now.left _ _ (λ s. evaluated c.in-Print.expression s then)
    c.in_ok-charge.ensures.fits.0 (ap left_of c.in_ok-charge.ensures.fits.1) c.in_ok-charge-in-Print.ensures.fits.0 (ap left_of c.in_ok-charge-in-Print.ensures.fits.1)
    ∙ c.in_err-value-in-Print.ensures.spent printed then

pub returns-in-Ok-clause-goes : goal.returns-in-Ok-clause-goes
returns-in-Ok-clause-goes c rest =
    let values = c.args.values.now in
    let printed = c.args.printed.now in
    let then : Number → State → Ended = λ value s. printing value s (λ s. body_meaning rest s) in
    ap (λ (statement : FirstStmt). body_meaning (statement ∷ rest) (at values printed c.args.cycles.now.left)) c.in-Print.is
    ∙ two_charges values printed c.args.cycles.now.left _ _ (λ s. evaluated c.in-Print.expression s then)
    c.in_ok-charge.ensures.fits.0 (ap left_of c.in_ok-charge.ensures.fits.1) c.in_ok-charge-in-Print.ensures.fits.0 (ap left_of c.in_ok-charge-in-Print.ensures.fits.1)
    ∙ c.in_ok-value-in-Print.ensures.value printed then
    ∙ c.in-Ok.ensures.printed values (λ s. body_meaning rest s)
    ∙ ap (λ (step : Step). after_step step (at values c.print.new.printed c.print.new.cycles.left) rest) (sym c.goes_on-in-Ok.ensures)

pub returns-in-Err-clause-spent : goal.returns-in-Err-clause-spent
returns-in-Err-clause-spent c is rest =
    let values = c.args.values.now in
    let printed = c.args.printed.now in
    let then : Number → State → Ended = λ value s. printing value s (λ s. body_meaning rest s) in
    ap (λ (statement : FirstStmt). body_meaning (statement ∷ rest) (at values printed c.args.cycles.now.left)) c.in-Print.is
    ∙ two_charges values printed c.args.cycles.now.left _ _ (λ s. evaluated c.in-Print.expression s then)
    c.in_ok-charge.ensures.fits.0 (ap left_of c.in_ok-charge.ensures.fits.1) c.in_ok-charge-in-Print.ensures.fits.0 (ap left_of c.in_ok-charge-in-Print.ensures.fits.1)
    ∙ c.in_ok-value-in-Print.ensures.value printed then
    ∙ c.in-Err.ensures.spent (same_error c.in-Err.stop is) values (λ s. body_meaning rest s)

pub returns-in_err-value-in-Return-clause-spent : goal.returns-in_err-value-in-Return-clause-spent
returns-in_err-value-in-Return-clause-spent c is rest =
    let values = c.args.values.now in
    let printed = c.args.printed.now in
    let then : Number → State → Ended = λ value s. done_at (Some value) s in
    ap (λ (statement : FirstStmt). body_meaning (statement ∷ rest) (at values printed c.args.cycles.now.left)) c.in-Return.is
    ∙ charged_fits 1 values printed c.args.cycles.now.left _ (λ s. evaluated c.in-Return.expression s then) c.in_ok-charge.ensures.fits.0 (ap left_of c.in_ok-charge.ensures.fits.1)
    ∙ c.in_err-value-in-Return.ensures.spent printed then

pub returns-in_ok-value-in-Return-clause-goes : goal.returns-in_ok-value-in-Return-clause-goes
returns-in_ok-value-in-Return-clause-goes c rest =
    let values = c.args.values.now in
    let printed = c.args.printed.now in
    let then : Number → State → Ended = λ value s. done_at (Some value) s in
    ap (λ (statement : FirstStmt). body_meaning (statement ∷ rest) (at values printed c.args.cycles.now.left)) c.in-Return.is
    ∙ charged_fits 1 values printed c.args.cycles.now.left _ (λ s. evaluated c.in-Return.expression s then) c.in_ok-charge.ensures.fits.0 (ap left_of c.in_ok-charge.ensures.fits.1)
    ∙ c.in_ok-value-in-Return.ensures.value printed then
