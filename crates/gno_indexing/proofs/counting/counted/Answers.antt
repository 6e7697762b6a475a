use Rattle.std.proofs.Common.{ℤ, subst}
use Rattle.std.proofs.lemmas.Int.{to_z-of_z}
use mir.Syntax.{w128}
use Rattle.std.specs.Prelude.{IfOk}
use Rattle.gno_judging.proofs.Inversions.{by_constant, by_typed}
use Rattle.gno_judging.specs.Answers.{Answers}
use Rattle.gno_indexing.proofs.CountingRules.{counted_other}
use Rattle.gno_indexing.specs.Counting.{CountedStands, IsUnder}
use Rattle.gno_terms.specs.declared.term.GoType.{GoType}
use Rattle.gno_type_classes.specs.Unnumbered.{unnumbered}
use Rattle.gno_typing.specs.Indexes.{counted}
use Rattle.gno_typing.specs.declared.value.ValueOf.{ValueOf}
use Rattle.gno_typing.specs.declared.value.ValueOf.TheVariants as v
use Rattle.gno_indexing.proofs.counting.counted.Goals as goal

pub returns-in-Constant : goal.returns-in-Constant
returns-in-Constant c y h =
    let table = c.args.types.now in
    let seen = unnumbered table in
    by_constant (λ (y : ValueOf GoType). Answers (counted seen c.args.no_integer c.args.out_of_bounds (IsUnder c.args.end) c.args.place y) (CountedStands table) c.args.faults.now c.constant_counted.new.faults c.constant_counted.result) table
    c.in-Constant.pos c.in-Constant.of c.in-Constant.value c.args.x y c.in-Constant.is h
    (λ s is. subst (λ (end : ℤ). Answers (counted seen c.args.no_integer c.args.out_of_bounds (IsUnder end) c.args.place (v.Constant c.in-Constant.pos s c.in-Constant.value)) (CountedStands table) c.args.faults.now c.constant_counted.new.faults c.constant_counted.result) (to_z-of_z w128 c.args.end c.ranges.end) (c.constant_counted.ensures s is.is))

pub returns-in-Typed : goal.returns-in-Typed
returns-in-Typed c y h = by_typed (λ (y : ValueOf GoType). IfOk c.typed_counted.result (λ r. Answers (counted (unnumbered c.args.types.now) c.args.no_integer c.args.out_of_bounds (IsUnder c.args.end) c.args.place y) (CountedStands c.args.types.now) c.args.faults.now c.typed_counted.new.faults r)) c.args.types.now
    c.in-Typed._pos c.in-Typed.of c.in-Typed._standing c.in-Typed._calls c.in-Typed.form c.args.x y c.in-Typed.is h (λ s b own form. c.typed_counted.ensures s b c.in-Typed._pos c.in-Typed._standing c.in-Typed._calls c.args.out_of_bounds c.args.end own.is form)

pub returns-in_default : goal.returns-in_default
returns-in_default c y h = counted_other c.args.types.now (unnumbered c.args.types.now) c.args.no_integer c.args.out_of_bounds (IsUnder c.args.end) c.args.place c.args.x y _ _ h c.in_default.not-Constant c.in_default.not-Typed c.note.ensures
