use Rattle.std.proofs.Common.{sym, subst, [], ◌∷◌, get_or, take}
use Rattle.std.specs.List.{AllByRecursion}
use Rattle.std.proofs.lemmas.List.{take_more}
use Rattle.gno_layouts.specs.Settling.{Holds}
use Rattle.gno_layouts.proofs.Agreed.{each_wider, each_joined}
use Rattle.gno_layouts.proofs.holders.hold_all.Goals as goal

pub loop-part-preserved : goal.loop-part-preserved
loop-part-preserved c = record {
  grows = λ m n h. c.hold.ensures.grows m n (c.loop-part.invariant.grows m n h);
  done = subst (AllByRecursion (Holds c.hold.new.holders c.args.number)) (sym (take_more c.args.parts.now c.loop-part.part-index 0 c.loop-part-test.true))
      (each_joined (Holds c.hold.new.holders c.args.number) (take c.loop-part.part-index c.args.parts.now) (get_or c.args.parts.now c.loop-part.part-index 0 ∷ [])
      (each_wider (Holds c.loop-part.holders c.args.number) (Holds c.hold.new.holders c.args.number) (c.hold.ensures.grows c.args.number) (take c.loop-part.part-index c.args.parts.now) c.loop-part.invariant.done)
      (c.in_ok-hold.ensures.ok, tt));
}
