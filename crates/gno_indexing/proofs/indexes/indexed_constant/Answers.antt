use Rattle.std.proofs.Common.{sym, ◌∙◌, rules}
use Rattle.std.proofs.lemmas.Result.{IfOk-weaker}
use Rattle.gno_judging.proofs.Answers.{fails, holds}
use Rattle.gno_judging.specs.Answers.{Answers}
use Rattle.gno_judging.specs.Found.{ValueStands}
use Rattle.gno_type_classes.specs.Unnumbered.{unnumbered}
use Rattle.gno_typing.specs.Indexes.{indexed, indexed_text}
use Rattle.gno_typing.specs.declared.value.ValueOf.TheVariants as v
use Rattle.gno_indexing.proofs.indexes.indexed_constant.Goals as goal

pub returns-then-is_text : goal.returns-then-is_text
returns-then-is_text c s j basics is k =
    let table = c.args.types.now in
    let seen = unnumbered table in
    IfOk-weaker c.indexed_text.result (λ r. Answers (indexed_text seen c.args.place c.args.pos s c.args.value j) (ValueStands table) c.args.faults.now c.indexed_text.new.faults r)
    (λ r. Answers (indexed seen c.args.place (v.Constant c.args.pos s c.args.value) j) (ValueStands table) c.args.faults.now c.indexed_text.new.faults r)
    (λ r h. holds (ValueStands table) _ 54 c.args.place _ _ _ r ((c.is_text.ensures s is.is).0 c.if-is_text.true) h) (c.indexed_text.ensures s j basics is k)

pub returns-else-is_text : goal.returns-else-is_text
returns-else-is_text c s j basics is k = fails (ValueStands c.args.types.now) _ 54 c.args.place _ _ _ (λ p. search (rules, sym c.if-is_text.false ∙ (c.is_text.ensures s is.is).1 p)) c.note.ensures
