use Rattle.std.proofs.Common.{ℕ, false, subst, Option}
use Rattle.std.specs.Prelude.{IfOk}
use Rattle.gno_giving.specs.InTypes.{InTypeStands}
use Rattle.gno_base.specs.declared.kind.Kind.TheVariants as k
use Rattle.gno_giving.proofs.Defaults.{basic_is_typed}
use Rattle.gno_judging.proofs.Answers.{after_none, after_ok}
use Rattle.gno_judging.specs.Answers.{Answers}
use Rattle.gno_judging.specs.Found.{ValueStands}
use Rattle.gno_terms.specs.Lawful.{is_untyped}
use Rattle.gno_terms.specs.Terms.{term_of}
use Rattle.gno_type_classes.specs.Unnumbered.{unnumbered}
use Rattle.gno_typed.specs.declared.step.IndexKind.TheVariants as i
use Rattle.gno_typing.specs.Classes.{basic}
use Rattle.gno_typing.specs.Giving.{InType}
use Rattle.gno_typing.specs.Indexes.{indexed_by, text_length}
use Rattle.gno_typing.specs.Operands.{settled_constant}
use Rattle.gno_typing.specs.declared.value.Standing.TheVariants as st
use Rattle.gno_indexing.proofs.indexes.indexed_text.Goals as goal

pub returns-in-Some : goal.returns-in-Some
returns-in-Some c s j basics is h =
    let table = c.args.types.now in
    let seen = unnumbered table in
    after_ok (InTypeStands table) (ValueStands table) (settled_constant (is_untyped (term_of s)) seen c.args.pos s c.args.value)
    (λ (y : InType). indexed_by seen c.args.place st.Result false y.form j (record { kind = i.String; of = basic k.Uint8; count = text_length c.args.value })) _ _ _ c.indexed_by.result c.in-Some.it (c.in-Some.ensures s basics is)
    (λ z own. subst (λ (n : Option ℕ). IfOk c.indexed_by.result (λ r. Answers (indexed_by seen c.args.place st.Result false z.form j (record { kind = i.String; of = basic k.Uint8; count = n })) (ValueStands table) c.settled_constant.new.faults c.indexed_by.new.faults r)) c.text_length-count.ensures
    (c.indexed_by.ensures (basic k.Uint8) z.form j basics (record { is = basics.byte; typed = basic_is_typed k.Uint8 }) own.form h))

pub returns-in-None : goal.returns-in-None
returns-in-None c s j basics is h =
    let table = c.args.types.now in
    let seen = unnumbered table in
    after_none (InTypeStands table) (ValueStands table) (settled_constant (is_untyped (term_of s)) seen c.args.pos s c.args.value)
    (λ (y : InType). indexed_by seen c.args.place st.Result false y.form j (record { kind = i.String; of = basic k.Uint8; count = text_length c.args.value })) _ _ (c.in-None.ensures s basics is)
