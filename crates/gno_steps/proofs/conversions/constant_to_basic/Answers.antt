use Rattle.std.proofs.Common.{sym, ◌∙◌, rules}
use Rattle.std.proofs.lemmas.Result.{IfOk-weaker}
use Rattle.gno_judging.proofs.Answers.{fails, gives, holds, is_not_so, is_so}
use Rattle.gno_judging.specs.Answers.{Answers}
use Rattle.gno_judging.specs.Found.{ValueStands}
use Rattle.gno_judging.specs.Found.{ValueStands as value}
use Rattle.gno_seen.proofs.ConstantTypes.{of_constants}
use Rattle.gno_steps.specs.Converting.{character_converted}
use Rattle.gno_type_classes.specs.Unnumbered.{unnumbered}
use Rattle.gno_typing.specs.Conversions.{constant_to_basic}
use Rattle.gno_steps.proofs.conversions.constant_to_basic.Goals as goal

pub returns-then-not-fits : goal.returns-then-not-fits
returns-then-not-fits c u of =
    let table = c.args.types.now in
    let seen = unnumbered table in
    IfOk-weaker c.constant_to_text.result (λ r. Answers (character_converted seen c.args.place u c.args.value) (ValueStands table) c.args.faults.now c.constant_to_text.new.faults r)
    (λ r. Answers (constant_to_basic seen c.args.place u c.args.value) (ValueStands table) c.args.faults.now c.constant_to_text.new.faults r)
    (λ r h. is_not_so (ValueStands table) _ _ _ _ _ r (λ p. search (rules, sym c.if-not-fits.true ∙ (c.fits.ensures u of.is).1 p)) h) (c.constant_to_text.ensures u of)

pub returns-then-is_representable : goal.returns-then-is_representable
returns-then-is_representable c u of =
    let table = c.args.types.now in
    is_so (ValueStands table) _ _ _ _ _ _ ((c.fits.ensures u of.is).0 c.if-not-fits.false)
    (holds (ValueStands table) _ 43 c.args.place _ _ _ _ ((c.is_representable.ensures u of.is).0 c.if-is_representable.true) (gives (ValueStands table) _ _ _ (value.constant c.args.place c.args.value (of_constants table c.args.of u of))))

pub returns-else-is_representable : goal.returns-else-is_representable
returns-else-is_representable c u of =
    let table = c.args.types.now in
    is_so (ValueStands table) _ _ _ _ _ _ ((c.fits.ensures u of.is).0 c.if-not-fits.false)
    (fails (ValueStands table) _ 43 c.args.place _ _ _ (λ p. search (rules, sym c.if-is_representable.false ∙ (c.is_representable.ensures u of.is).1 p)) c.note.ensures)
