use Rattle.std.proofs.Common.{subst}
use Rattle.gno_base.specs.declared.kind.Kind.TheVariants as k
use Rattle.gno_judging.proofs.Answers.{after, after_none, gives}
use Rattle.gno_judging.specs.Answers.{Answers}
use Rattle.gno_judging.specs.Found.{FormStands, ValueStands}
use Rattle.gno_judging.specs.Found.{ValueStands as value}
use Rattle.gno_indexing.proofs.CountingRules.{int_is_typed, taken_boolean, taken_integer}
use Rattle.gno_terms.specs.declared.term.GoType.{GoType}
use Rattle.gno_type_classes.specs.Unnumbered.{unnumbered}
use Rattle.gno_typing.specs.Classes.{basic}
use Rattle.gno_typing.specs.Giving.{IsGiven}
use Rattle.gno_typing.specs.Verdicts.{good}
use Rattle.gno_typing.specs.declared.form.FormOf.{FormOf}
use Rattle.gno_typing.specs.declared.value.Standing.TheVariants as st
use Rattle.gno_typing.specs.declared.value.ValueOf.TheVariants as v
use Rattle.gno_indexing.proofs.counting.pending_taken.Goals as goal

pub returns-in-Boolean : goal.returns-in-Boolean
returns-in-Boolean c y basics h w = taken_boolean c.args.types.now (unnumbered c.args.types.now) c.args.pos c.args.calls y c.args.form c.args.waits c.args.faults.now c.in-Boolean.is h w

pub returns-in-Some : goal.returns-in-Some
returns-in-Some c y basics h w =
    let table = c.args.types.now in
    let seen = unnumbered table in
    taken_integer table seen c.args.pos c.args.calls y c.args.waits c.in-Integer._first c.args.faults.now _ _ c.in-Integer.is
    (after (FormStands table) (ValueStands table) (IsGiven seen (basic k.Int) y) (λ (z : FormOf GoType). good (v.Typed c.args.pos (basic k.Int) st.Result c.args.calls z)) _ _ _ _ c.in-Some.form
    (subst (λ r. Answers (IsGiven seen (basic k.Int) y) (FormStands table) c.args.faults.now c.given_type.new.faults r) c.in-Some.is (c.in_ok-form-in-Integer.ensures (basic k.Int) y basics.int h))
    (λ b is. gives (ValueStands table) _ _ _ (value.typed c.args.pos st.Result c.args.calls (record { is = basics.int; typed = int_is_typed }) is)))

pub returns-in-None : goal.returns-in-None
returns-in-None c y basics h w =
    let table = c.args.types.now in
    let seen = unnumbered table in
    taken_integer table seen c.args.pos c.args.calls y c.args.waits c.in-Integer._first c.args.faults.now _ _ c.in-Integer.is
    (after_none (FormStands table) (ValueStands table) (IsGiven seen (basic k.Int) y) (λ (z : FormOf GoType). good (v.Typed c.args.pos (basic k.Int) st.Result c.args.calls z)) _ _
    (subst (λ r. Answers (IsGiven seen (basic k.Int) y) (FormStands table) c.args.faults.now c.given_type.new.faults r) c.in-None.is (c.in_ok-form-in-Integer.ensures (basic k.Int) y basics.int h)))
