use Rattle.std.proofs.Common.{arith, ap, ◌∙◌, ◌+◌, ◌<◌, ◌≡◌, length, take}
use Rattle.std.proofs.lemmas.List.{take_min}
use Rattle.gno_scan.proofs.Characters.{begins_ascii, found_longer, none_announced, none_in_nothing}
use Rattle.gno_scan.proofs.character.character_at.Goals as goal

pub returns-then-is_empty-clause-none : goal.returns-then-is_empty-clause-none
returns-then-is_empty-clause-none c =
    let empty : length c.args.text.now ≡ 0 = grind arith in
    λ _. none_in_nothing c.args.text.now empty

pub returns-then-text-lt128-clause-found : goal.returns-then-text-lt128-clause-found
returns-then-text-lt128-clause-found c =
    let some : 0 < length c.args.text.now = grind arith in
    begins_ascii c.args.text.now some c.if-text-lt128.true

pub returns-else-text-lt128-clause-found : goal.returns-else-text-lt128-clause-found
returns-else-text-lt128-clause-found c = found_longer c.first_of.result c.args.text.now c.min.result c.first_of.ensures.found

pub returns-else-text-lt128-clause-none : goal.returns-else-text-lt128-clause-none
returns-else-text-lt128-clause-none c =
    let text = c.args.text.now in
    let front = ap (λ n. take n text) c.min.ensures ∙ take_min (1 + c.continuation_len-announced.result) text ∙ ap (λ n. take (1 + n) text) c.continuation_len-announced.ensures in
    λ e. none_announced text (take c.min.result text) front (c.first_of.ensures.none e)
