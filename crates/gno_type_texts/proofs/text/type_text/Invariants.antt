use Rattle.std.specs.Prelude.{◌≡◌, ◌+◌, ◌*◌, length}
use Rattle.gno_type_texts.specs.Pieces.{AreGood, stack_text, text_at, whole_text}
use Rattle.gno_type_texts.proofs.text.type_text.Given as goal

abbrev pub invariant-loop-piece : goal.invariant-loop-piece
invariant-loop-piece l = record {
  good : AreGood l.types.types l.writer;
  text : whole_text (text_at l.types.types) l.writer ≡ text_at l.types.types l.fn.t;
}

abbrev pub decreases-loop-piece : goal.decreases-loop-piece
decreases-loop-piece l = 4 * length (stack_text (text_at l.types.types) l.writer.pieces) + length l.writer.pieces
