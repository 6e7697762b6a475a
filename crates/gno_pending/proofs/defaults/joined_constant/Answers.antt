use Rattle.gno_pending.proofs.DefaultedChains.{goes_on_by_constant}
use Rattle.gno_pending.proofs.defaults.joined_constant.Goals as goal

pub returns : goal.returns
returns c y first left h = goes_on_by_constant c.args.types.now y first left c.args.pos c.args.operator c.args.right_pos c.args.value c.args.rune c.args.x c.beside-right.result c.args.faults.now c.beside-right.new.faults c.joined_as_left.result h
    (λ z k. c.beside-right.ensures c.args.rune z k) (λ z v k l. c.joined_as_left.ensures c.args.types.now z v k l)
