use Rattle.std.proofs.Common.{List, subst, sym}
use Rattle.std.specs.Prelude.{IsSome}
use Rattle.gno_first.specs.Places.{place}
use Rattle.gno_items.specs.declared.memory.Package.{Package}
use Rattle.gno_items.specs.Memory.{paths}
use Rattle.gno_items.proofs.Index.{index_again}
use Rattle.gno_items.proofs.memory.Packages.push_again.Goals as goal

pub invariant_of-self-2 : goal.invariant_of-self-2
invariant_of-self-2 c =
    let there : IsSome (place c.args.held.path (paths c.self.inside.all.items)) = subst (λ (ps : List Package). IsSome (place c.args.held.path (paths ps))) (sym c.self.view_is) c.requires in
    index_again c.self.inside.places c.self.inside.all.items c.push.new.self.items c.args.held c.self.invariant there c.in_ok-push.ensures.items
