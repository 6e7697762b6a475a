use Rattle.std.proofs.Common.{◌≡◌, ◌∙◌, ap, sym, Some, List}
use Rattle.gno_first.specs.Places.{place}
use Rattle.gno_items.specs.declared.memory.Package.{Package}
use Rattle.gno_items.specs.Memory.{package_of, paths}
use Rattle.gno_items.proofs.Index.{found_some, found_none, well_found}
use Rattle.gno_items.proofs.memory.Packages.find.Goals as goal

pub returns-in-Some-clause-found : goal.returns-in-Some-clause-found
returns-in-Some-clause-found c =
    let at : Some c.in-Some.at ≡ place c.args.path.now (paths c.self.inside.all.items) = c.in-Some.ensures.place ∙ ap (λ (ps : List Package). place c.args.path.now (paths ps)) (sym c.self.view_is) in
    found_some c.self.inside.all.items c.args.path.now c.in-Some.at c.index.result.now at c.index.ensures ∙ ap (λ (ps : List Package). package_of ps c.args.path.now) c.self.view_is

pub returns-in-Some-clause-well : goal.returns-in-Some-clause-well
returns-in-Some-clause-well c = λ well. well_found c.args.self.now c.args.path.now c.index.result.now well (returns-in-Some-clause-found c)

pub returns-in-None-clause-found : goal.returns-in-None-clause-found
returns-in-None-clause-found c = found_none c.args.self.now c.args.path.now c.in-None.ensures.place
