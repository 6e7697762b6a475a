use Rattle.std.proofs.Common.{sym, ◌∙◌, rules}
use Rattle.gno_base.specs.declared.kind.Kind.TheVariants as k
use Rattle.gno_indexing.proofs.CountingRules.{int_is_typed, taken_as_int, taken_itself, taken_wide}
use Rattle.gno_seen.proofs.ConstantTypes.{no_nil}
use Rattle.gno_type_classes.specs.Unnumbered.{unnumbered}
use Rattle.gno_typing.specs.Classes.{basic}
use Rattle.gno_indexing.proofs.counting.constant_taken.Goals as goal

pub returns-then-not-is_untyped_whole : goal.returns-then-not-is_untyped_whole
returns-then-not-is_untyped_whole c s basics is = taken_itself c.args.types.now (unnumbered c.args.types.now) c.args.pos c.args.of s c.args.value c.args.faults.now c.is_untyped_whole.result (c.is_untyped_whole.ensures s is.is) c.if-not-is_untyped_whole.true is

pub returns-then-is_wide : goal.returns-then-is_wide
returns-then-is_wide c s basics is = taken_wide c.args.types.now (unnumbered c.args.types.now) c.args.pos s c.args.value c.args.faults.now _ c.is_untyped_whole.result (c.is_untyped_whole.ensures s is.is) c.if-not-is_untyped_whole.false (c.is_wide.ensures.0 c.if-is_wide.true) c.note.ensures

pub returns-else-is_wide : goal.returns-else-is_wide
returns-else-is_wide c s basics is = taken_as_int c.args.types.now (unnumbered c.args.types.now) c.args.pos c.args.basics.int s c.args.value c.args.faults.now c.is_untyped_whole.result (c.is_untyped_whole.ensures s is.is) c.if-not-is_untyped_whole.false
    (λ p. search (rules, sym c.if-is_wide.false ∙ c.is_wide.ensures.1 p)) (record { is = basics.int; no_nil = no_nil (basic k.Int) int_is_typed })
