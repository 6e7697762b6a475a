use Rattle.std.proofs.Common.{◌≡◌, ◌∙◌, sym}
use Rattle.gno_port.proofs.HeldLemmas.{put_back_same, put_back_others}
use Rattle.gno_port.proofs.held.put_back.Goals as goal

pub returns-in-Ok-clause-same : goal.returns-in-Ok-clause-same
returns-in-Ok-clause-same c =
    put_back_same c.args.shelf.now c.insert.new.self c.args.desk.now c.take.new.self c.in-Some.held c.take.ensures.after (sym c.take.ensures.value ∙ c.in-Some.is) c.in-Ok.ensures.updates

pub returns-in-Ok-clause-others : goal.returns-in-Ok-clause-others
returns-in-Ok-clause-others c = put_back_others c.args.shelf.now c.insert.new.self c.args.desk.now c.in-Some.held (sym c.take.ensures.value ∙ c.in-Some.is) c.in-Ok.ensures.updates
