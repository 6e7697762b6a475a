use Rattle.std.proofs.Common.{◌≡◌, ◌∙◌, List, Some, ap, sym, set}
use Rattle.gno_first.specs.Places.{place}
use Rattle.gno_items.specs.declared.memory.Package.{Package}
use Rattle.gno_items.specs.Memory.{paths, with_values}
use Rattle.gno_items.proofs.Index.{index_same, set_place, set_nowhere}
use Rattle.gno_items.proofs.ValueSteps.{valued}
use Rattle.gno_items.proofs.memory.Packages.set_values.Goals as goal
use Rattle.gno_items.proofs.memory.Packages.set_values.Goals.{After-drop-index_mut}

stored : (c : After-drop-index_mut) → set c.self.inside.all.items c.in-Some.at (valued c.index_mut.result.now c.args.values) ≡ with_values c.self.inside.all.items c.args.path.now c.args.values
stored c =
    let at : place c.args.path.now (paths c.self.inside.all.items) ≡ Some c.in-Some.at = ap (λ (ps : List Package). place c.args.path.now (paths ps)) c.self.view_is ∙ sym c.in-Some.ensures.place in
    set_place c.self.inside.all.items c.args.path.now c.args.values c.in-Some.at c.index_mut.result.now at c.index_mut.ensures.value

pub invariant_of-self : goal.invariant_of-self
invariant_of-self c = index_same c.self.inside.places c.self.inside.all.items _ c.args.path.now c.args.values c.self.invariant (stored c)

pub returns-in-Some : goal.returns-in-Some
returns-in-Some c = stored c ∙ ap (λ (ps : List Package). with_values ps c.args.path.now c.args.values) c.self.view_is

pub returns-in_default : goal.returns-in_default
returns-in_default c = set_nowhere c.args.self.now c.args.path.now c.args.values (sym c.in_default.ensures.place)
