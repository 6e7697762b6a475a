use Rattle.std.proofs.lemmas.Result.{IfOk-weaker}
use Rattle.gno_judging.specs.Answers.{Answers}
use Rattle.gno_judging.specs.Found.{ValueStands}
use Rattle.gno_indexing.proofs.IndexRules.{a_map, no_map}
use Rattle.gno_indexing.specs.Indexing.{map_indexed}
use Rattle.gno_type_classes.specs.Unnumbered.{unnumbered}
use Rattle.gno_typing.specs.Indexes.{HasElements, indexed_by, indexed_typed}
use Rattle.gno_typing.specs.Verdicts.{wants_some}
use Rattle.std.proofs.Common.{refl}
use Rattle.gno_indexing.proofs.indexes.indexed_typed.Goals as goal

pub returns-in-Some : goal.returns-in-Some
returns-in-Some c s y j basics of h k =
    let table = c.args.types.now in
    let seen = unnumbered table in
    let found = c.in-Some.ensures.some s of.is in
    let key = found.0 in
    let value = found.1 in
    let has = found.2 in
    let key_is = found.3 in
    let value_is = found.4 in
    let typed = c.in-Some.ensures.typed key value key_is value_is in
    IfOk-weaker c.indexed_map.result (λ r. Answers (map_indexed seen c.args.place c.args.calls y j key value) (ValueStands table) c.args.faults.now c.indexed_map.new.faults r)
    (λ r. Answers (indexed_typed seen c.args.place s c.args.standing c.args.calls y j) (ValueStands table) c.args.faults.now c.indexed_map.new.faults r)
    (λ r a. a_map (ValueStands table) seen c.args.place s c.args.standing c.args.calls y j _ _ r key value has a) (c.indexed_map.ensures key value y j basics key_is (record { is = value_is; typed = typed.1 }) h k)

pub returns-in-None : goal.returns-in-None
returns-in-None c s y j basics of h k =
    let table = c.args.types.now in
    let seen = unnumbered table in
    IfOk-weaker c.indexed_elements.result (λ r. Answers (wants_some (HasElements seen s) 54 c.args.place (indexed_by seen c.args.place c.args.standing c.args.calls y j)) (ValueStands table) c.args.faults.now c.indexed_elements.new.faults r)
    (λ r. Answers (indexed_typed seen c.args.place s c.args.standing c.args.calls y j) (ValueStands table) c.args.faults.now c.indexed_elements.new.faults r)
    (λ r a. no_map (ValueStands table) seen c.args.place s c.args.standing c.args.calls y j _ _ r (λ key value has. c.in-None.ensures.none refl s key value of.is has) a) (c.indexed_elements.ensures s y j basics of h k)
