use Rattle.std.specs.Prelude.{codes}
use Rattle.hex.specs.Hex.{encode_lower}
use Rattle.gno_cmd.proofs.Fronts.{behind_first, ends, in_first}
use Rattle.gno_cmd.proofs.line.write_damaged.Goals as goal

pub returns-in_err-write_text-clause-front : goal.returns-in_err-write_text-clause-front
returns-in_err-write_text-clause-front g c = in_first _ _ (codes "gno: damaged ") _ c.write_text.ensures.front

pub returns-in_err-write_hex-clause-front : goal.returns-in_err-write_hex-clause-front
returns-in_err-write_hex-clause-front g c =
    behind_first _ _ _ (codes "gno: damaged ") _ c.in_ok-write_text.ensures.whole (in_first _ _ (encode_lower c.args.key.now) _ c.write_hex.ensures.front)

pub returns-clause-front : goal.returns-clause-front
returns-clause-front g c =
    behind_first _ _ _ (codes "gno: damaged ") _ c.in_ok-write_text.ensures.whole
    (behind_first _ _ _ (encode_lower c.args.key.now) _ c.in_ok-write_hex.ensures.whole c.write_text-2.ensures.front)

pub returns-clause-whole : goal.returns-clause-whole
returns-clause-whole g c =
    ends c.write_text-2.result _ _ _ (codes "gno: damaged ") _ c.in_ok-write_text.ensures.whole
    (ends c.write_text-2.result _ _ _ (encode_lower c.args.key.now) _ c.in_ok-write_hex.ensures.whole c.write_text-2.ensures.whole)
