use Rattle.std.proofs.lemmas.Result.{IfOk-weaker}
use Rattle.gno_judging.specs.Answers.{Answers}
use Rattle.gno_judging.specs.Found.{ValueStands}
use Rattle.gno_steps.proofs.ConversionRules.{of_boolean, of_integer}
use Rattle.gno_type_classes.specs.Unnumbered.{unnumbered}
use Rattle.gno_typing.specs.Conversions.{converted, converted_boolean, converted_integer}
use Rattle.gno_typing.specs.declared.value.ValueOf.TheVariants as v
use Rattle.gno_steps.proofs.conversions.converted_pending.Goals as goal

pub returns-in-Boolean : goal.returns-in-Boolean
returns-in-Boolean c u y at basics of h w =
    let table = c.args.types.now in
    let seen = unnumbered table in
    IfOk-weaker c.converted_boolean.result (λ r. Answers (converted_boolean seen c.args.place u c.args.calls y) (ValueStands table) c.args.faults.now c.converted_boolean.new.faults r)
    (λ r. Answers (converted seen c.args.place u (v.Pending at c.args.waits c.args.calls y)) (ValueStands table) c.args.faults.now c.converted_boolean.new.faults r)
    (λ r k. of_boolean (ValueStands table) seen c.args.place u at c.args.calls y _ _ r c.args.waits c.in-Boolean.is k) (c.converted_boolean.ensures u y basics of h w)

pub returns-in-Integer : goal.returns-in-Integer
returns-in-Integer c u y at basics of h w =
    let table = c.args.types.now in
    let seen = unnumbered table in
    IfOk-weaker c.converted_integer.result (λ r. Answers (converted_integer seen c.args.place u c.args.calls c.in-Integer.shift y) (ValueStands table) c.args.faults.now c.converted_integer.new.faults r)
    (λ r. Answers (converted seen c.args.place u (v.Pending at c.args.waits c.args.calls y)) (ValueStands table) c.args.faults.now c.converted_integer.new.faults r)
    (λ r k. of_integer (ValueStands table) seen c.args.place u at c.args.calls y _ _ r c.args.waits c.in-Integer.shift c.in-Integer.is k) (c.converted_integer.ensures u y basics of h w)
