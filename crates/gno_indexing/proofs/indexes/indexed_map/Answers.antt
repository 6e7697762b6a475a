use Rattle.std.proofs.Common.{Bool, subst}
use Rattle.std.specs.Prelude.{IfOk}
use Rattle.gno_judging.specs.Answers.{Answers}
use Rattle.gno_judging.specs.Found.{FormStands, ValueStands}
use Rattle.gno_scan.specs.declared.token.Pos.{Pos}
use Rattle.gno_indexing.specs.Indexing.{map_element}
use Rattle.gno_type_classes.specs.Unnumbered.{unnumbered}
use Rattle.gno_typing.specs.Binary.{pos_in}
use Rattle.gno_typing.specs.Giving.{given}
use Rattle.gno_typing.specs.Verdicts.{After}
use Rattle.gno_indexing.proofs.indexes.indexed_map.Goals as goal

pub returns-in-Ok : goal.returns-in-Ok
returns-in-Ok c k s y j basics key of h own =
    let table = c.args.types.now in
    let seen = unnumbered table in
    let found = subst (λ (at : Pos). Answers (given seen 49 at k j) (FormStands table) c.args.faults.now c.given.new.faults c.in-Ok.found) (c.pos_in-at.ensures table j own) (c.in-Ok.ensures k j basics key own) in
    subst (λ (calls : Bool). IfOk c.map_step.result (λ r. Answers (After (given seen 49 (pos_in j) k j) (map_element c.args.place calls y s)) (ValueStands table) c.args.faults.now c.given.new.faults r)) (c.calls_with-calls.ensures table j own)
    (c.map_step.ensures c.args.faults.now c.given.new.faults (pos_in j) k s y j of h found)
