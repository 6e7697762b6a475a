use Rattle.std.proofs.Common.{refl}
use Rattle.std.proofs.lemmas.Result.{IfOk-weaker}
use Rattle.gno_judging.proofs.Answers.{finds, finds_none}
use Rattle.gno_judging.specs.Answers.{Answers}
use Rattle.gno_judging.specs.Found.{ValueStands}
use Rattle.gno_type_classes.specs.Unnumbered.{unnumbered}
use Rattle.gno_typing.specs.Indexes as indexes
use Rattle.gno_typing.specs.Indexes.{HasElements, indexed_by}
use Rattle.gno_typing.specs.Verdicts.{wants_some}
use Rattle.gno_indexing.proofs.indexes.indexed_elements.Goals as goal

pub returns-in-Some : goal.returns-in-Some
returns-in-Some c s y j basics of h k =
    let table = c.args.types.now in
    let seen = unnumbered table in
    let found = c.in-Some.ensures.some s of.is basics.byte in
    let element = found.0 in
    let elements : indexes.Elements = record { kind = c.in-Some.elements.kind; of = element; count = c.in-Some.elements.count } in
    IfOk-weaker c.indexed_by.result (λ r. Answers (indexed_by seen c.args.place c.args.standing c.args.calls y j elements) (ValueStands table) c.args.faults.now c.indexed_by.new.faults r)
    (λ r. Answers (wants_some (HasElements seen s) 54 c.args.place (indexed_by seen c.args.place c.args.standing c.args.calls y j)) (ValueStands table) c.args.faults.now c.indexed_by.new.faults r)
    (λ r a. finds (ValueStands table) _ 54 c.args.place _ _ _ r elements found.2 a) (c.indexed_by.ensures element y j basics (record { is = found.1; typed = c.in-Some.ensures.typed element found.1 basics.byte }) h k)

pub returns-in-None : goal.returns-in-None
returns-in-None c s y j basics of h k = finds_none (ValueStands c.args.types.now) _ 54 c.args.place _ _ _ (λ e has. c.in-None.ensures.none refl s e of.is has) c.note.ensures
