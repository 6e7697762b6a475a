use Rattle.std.proofs.Common.{sym, ◌∙◌}
use Rattle.gno_text.proofs.Parts.{first_spelled, parts_after-character, parts_after-more, parts_after-outside}
use Rattle.gno_text.proofs.quoting.push_first.Goals as goal

pub returns-in_ok-push_inside : goal.returns-in_ok-push_inside
returns-in_ok-push_inside c =
    first_spelled _ _ _ _ _ c.in_ok-push_inside.ensures (parts_after-more c.args.more c.args.rest.now c.if-more-gt0.true c.requires)

pub returns-in_ok-push_inside-2 : goal.returns-in_ok-push_inside-2
returns-in_ok-push_inside-2 c =
    let begins = sym c.begins_character.ensures ∙ c.if-begins_character.true in
    first_spelled _ _ _ _ _ c.in_ok-push_inside-2.ensures
    (parts_after-character c.args.more c.continuation_len.result c.args.rest.now c.if-more-gt0.false begins c.continuation_len.ensures c.requires)

pub returns-in_ok-push_outside : goal.returns-in_ok-push_outside
returns-in_ok-push_outside c =
    let begins = sym c.begins_character.ensures ∙ c.if-begins_character.false in
    first_spelled _ _ _ _ _ c.in_ok-push_outside.ensures (parts_after-outside c.args.more c.args.rest.now c.if-more-gt0.false begins c.requires)
