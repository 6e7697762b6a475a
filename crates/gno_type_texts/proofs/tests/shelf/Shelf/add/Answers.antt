use Rattle.std.proofs.Common.{sym, subst}
use Rattle.gno_type_texts.specs.Shelves.{AreTyped}
use Rattle.gno_type_texts.proofs.Shelves.{all_grown, one_more}
use Rattle.gno_type_texts.proofs.tests.shelf.Shelf.add.Goals as goal

pub invariant_of-self : goal.invariant_of-self
invariant_of-self c = all_grown c.self.inside.table c.intern.new.self c.intern.ensures.grows c.self.inside.added.items c.self.invariant

pub invariant_of-self-in_err-push : goal.invariant_of-self-in_err-push
invariant_of-self-in_err-push c =
    subst (AreTyped c.intern.new.self) (sym c.in_err-push.ensures.items)
    (all_grown c.self.inside.table c.intern.new.self c.intern.ensures.grows c.self.inside.added.items c.self.invariant)

pub invariant_of-self-2 : goal.invariant_of-self-2
invariant_of-self-2 c =
    subst (AreTyped c.intern.new.self) (sym c.in_ok-push.ensures.items)
    (one_more c.self.inside.table c.intern.new.self c.intern.ensures.grows c.self.inside.added.items c.in_ok-t.t c.args.term c.self.invariant c.in_ok-t.ensures.is c.requires.typed)
