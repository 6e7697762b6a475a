use Rattle.std.proofs.Common.{◌≡◌, ◌∙◌, ◌<◌, length, subst, List}
use Rattle.std.specs.Prelude.{IfSome}
use Rattle.gno_first.specs.Places.{place}
use Rattle.gno_items.specs.Memory.{paths}
use Rattle.gno_items.specs.declared.memory.Package.{Package}
use Rattle.gno_items.proofs.Index.{some_within}
use Rattle.gno_items.proofs.memory.Packages.place.Goals as goal

pub returns-clause-within : goal.returns-clause-within
returns-clause-within c =
    let at : c.copied.result ≡ place c.args.path.now (paths c.self.inside.all.items) = c.copied.ensures ∙ c.get.ensures.value ∙ c.self.invariant c.args.path.now in
    subst (λ (ps : List Package). IfSome c.copied.result (λ at. at < length ps)) c.self.view_is (some_within c.self.inside.all.items c.args.path.now c.copied.result at)
