use Rattle.std.proofs.Common.{◌≡◌, ◌∙◌, ◌++◌, ◌∷◌, [], List, None, ap, length}
use Rattle.gno_first.specs.Places.{place}
use Rattle.gno_items.specs.declared.memory.Package.{Package}
use Rattle.gno_items.specs.Memory.{paths}
use Rattle.gno_items.proofs.Index.{index_first}
use Rattle.gno_items.proofs.memory.Packages.push_first.Goals as goal

pub invariant_of-self-2 : goal.invariant_of-self-2
invariant_of-self-2 c =
    let absent : place c.args.held.path (paths c.self.inside.all.items) ≡ None = ap (λ (ps : List Package). place c.args.held.path (paths ps)) c.self.view_is ∙ c.requires in
    let key : c.in_ok-key.key.items ≡ c.args.held.path = cc (c.in_ok-key.ensures.items, c.as_slice.ensures) in
    let count : c.len.result ≡ length c.self.inside.all.items = c.len.ensures ∙ c.in_ok-reserve.ensures.len ∙ c.self.inside.all.ok.0 in
    let pushed : c.push.new.self.items ≡ c.self.inside.all.items ++ c.args.held ∷ [] = cc (c.in_ok-push.ensures.items, c.in_ok-reserve.ensures.items) in
    index_first c.self.inside.places c.insert.new.self c.self.inside.all.items c.push.new.self.items c.args.held c.in_ok-key.key c.len.result c.self.invariant absent key count c.in_ok-insert.ensures.updates pushed
