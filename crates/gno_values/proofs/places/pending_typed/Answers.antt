use Rattle.std.proofs.Common.{None, sym, ◌∙◌, rules}
use Rattle.std.specs.Prelude.{IfOk}
use Rattle.std.proofs.lemmas.Result.{IfOk-weaker}
use Rattle.gno_judging.proofs.Answers.{fails, holds}
use Rattle.gno_judging.specs.Answers.{Answers}
use Rattle.gno_judging.specs.Found.{FormStands}
use Rattle.gno_type_classes.specs.Unnumbered.{unnumbered}
use Rattle.gno_typing.specs.Classes.{IsOf, is_boolean, is_integer}
use Rattle.gno_typing.specs.Giving.{IsGiven}
use Rattle.gno_typing.specs.declared.value.Waits.TheVariants as waits
use Rattle.gno_values.proofs.PendingRules.{typed_by_waits}
use Rattle.gno_values.proofs.places.pending_typed.Goals as goal

pub returns-then-is_boolean : goal.returns-then-is_boolean
returns-then-is_boolean c u y is h =
    let table = c.args.types.now in
    let seen = unnumbered table in
    typed_by_waits (λ J. IfOk c.given_type.result (λ r. Answers J (FormStands table) c.args.faults.now c.given_type.new.faults r)) seen c.args.code c.args.at u c.args.waits waits.Boolean y c.in-Boolean.is
    (IfOk-weaker c.given_type.result _ _ (λ r given. holds (FormStands table) (IsOf is_boolean seen u) c.args.code c.args.at (IsGiven seen u y) _ _ r ((c.is_boolean.ensures u is).0 c.if-is_boolean.true) given) (c.given_type.ensures u y is h))

pub returns-else-is_boolean : goal.returns-else-is_boolean
returns-else-is_boolean c u y is h =
    let table = c.args.types.now in
    let seen = unnumbered table in
    typed_by_waits (λ J. Answers J (FormStands table) c.args.faults.now c.note.new.self None) seen c.args.code c.args.at u c.args.waits waits.Boolean y c.in-Boolean.is
    (fails (FormStands table) (IsOf is_boolean seen u) c.args.code c.args.at (IsGiven seen u y) _ _ (λ p. search (rules, sym c.if-is_boolean.false ∙ (c.is_boolean.ensures u is).1 p)) c.note.ensures)

pub returns-then-is_integer : goal.returns-then-is_integer
returns-then-is_integer c u y is h =
    let table = c.args.types.now in
    let seen = unnumbered table in
    typed_by_waits (λ J. IfOk c.given_type-then-is_integer.result (λ r. Answers J (FormStands table) c.args.faults.now c.given_type-then-is_integer.new.faults r)) seen c.args.code c.args.at u c.args.waits (waits.Integer c.in-Integer.shift) y c.in-Integer.is
    (IfOk-weaker c.given_type-then-is_integer.result _ _ (λ r given. holds (FormStands table) (IsOf is_integer seen u) 46 c.in-Integer.shift (IsGiven seen u y) _ _ r ((c.is_integer.ensures u is).0 c.if-is_integer.true) given) (c.given_type-then-is_integer.ensures u y is h))

pub returns-else-is_integer : goal.returns-else-is_integer
returns-else-is_integer c u y is h =
    let table = c.args.types.now in
    let seen = unnumbered table in
    typed_by_waits (λ J. Answers J (FormStands table) c.args.faults.now c.note-else-is_integer.new.self None) seen c.args.code c.args.at u c.args.waits (waits.Integer c.in-Integer.shift) y c.in-Integer.is
    (fails (FormStands table) (IsOf is_integer seen u) 46 c.in-Integer.shift (IsGiven seen u y) _ _ (λ p. search (rules, sym c.if-is_integer.false ∙ (c.is_integer.ensures u is).1 p)) c.note-else-is_integer.ensures)
