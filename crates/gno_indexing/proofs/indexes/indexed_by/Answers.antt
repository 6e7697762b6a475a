use Rattle.std.proofs.Common.{Bool, subst}
use Rattle.std.specs.Prelude.{IfOk}
use Rattle.gno_judging.specs.Answers.{Answers}
use Rattle.gno_judging.specs.Found.{ValueStands}
use Rattle.gno_indexing.specs.Indexing.{element, index_counted}
use Rattle.gno_type_classes.specs.Unnumbered.{unnumbered}
use Rattle.gno_typing.specs.Indexes as indexes
use Rattle.gno_typing.specs.Verdicts.{After}
use Rattle.gno_indexing.proofs.indexes.indexed_by.Goals as goal

pub returns-in-Ok : goal.returns-in-Ok
returns-in-Ok c s y j basics of h k =
    let table = c.args.types.now in
    let seen = unnumbered table in
    let part = index_counted seen c.args.place c.args.elements.count j in
    let e : indexes.Elements = record { kind = c.args.elements.kind; of = s; count = c.args.elements.count } in
    subst (λ (calls : Bool). IfOk c.element.result (λ r. Answers (After part (element c.args.place c.args.standing calls y e)) (ValueStands table) c.args.faults.now c.index_counted.new.faults r)) (c.calls_with-calls.ensures table j k)
    (c.element.ensures table seen c.args.faults.now c.index_counted.new.faults s y j of h (c.in-Ok.ensures j basics k))
