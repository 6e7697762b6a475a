use Rattle.std.proofs.Common.{◌≡◌, ◌∙◌, ◌++◌, [], ◌∷◌, List, ℕ, ap}
use Rattle.gno_port.specs.declared.keeper.Change.{Change}
use Rattle.gno_port.specs.Changes.{changes_of}
use Rattle.gno_port.specs.Tables.{latest}
use Rattle.gno_port.proofs.ChangeLemmas.{inserted_last, change_at}
use Rattle.gno_port.proofs.changes.Changes.put.Goals as goal

pub returns-in-Ok-clause-ok : goal.returns-in-Ok-clause-ok
returns-in-Ok-clause-ok c at before =
    let old = c.self.inside.values.entries in
    inserted_last old c.insert.new.self.entries c.into_vec.result c.args.value c.in-Ok.ensures.was_ordered c.in-Ok.ensures.entries at before
    ∙ ap (λ (l : List Change). latest (l ++ change_at c.into_vec.result.items c.args.value ∷ []) at before) c.self.view_is
    ∙ ap (λ (k : List ℕ). latest (c.args.self.now ++ change_at k c.args.value ∷ []) at before) c.into_vec.ensures
