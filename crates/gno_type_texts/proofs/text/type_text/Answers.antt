use Rattle.gno_type_texts.specs.Pieces.{text_at}
use Rattle.gno_type_texts.proofs.Stacks.{begun, good_none, smaller}
use Rattle.gno_type_texts.proofs.text.type_text.Goals as goal

pub loop-piece-init : goal.loop-piece-init
loop-piece-init c =
    let types = c.args.types.now.types in
    let old = c.new-writer.result in
    record {
      good = c.in_ok-push.ensures.good types (good_none types old c.new-writer.ensures.pieces) c.requires;
      text = begun (text_at types) old c.push.new.self (text_at types c.args.t) c.new-writer.ensures.text c.new-writer.ensures.pieces c.in_ok-push.ensures.text (c.in_ok-push.ensures.stack (text_at types));
    }

pub loop-piece-smaller : goal.loop-piece-smaller
loop-piece-smaller c =
    let at = text_at c.args.types.now.types in
    smaller at c.loop-piece.writer c.pop.new.self c.write_piece.new.self c.in-Some.piece (c.in-Some.ensures.stack at) c.in-Some.ensures.count c.in_ok-write_piece.ensures.text c.in_ok-write_piece.ensures.pays
