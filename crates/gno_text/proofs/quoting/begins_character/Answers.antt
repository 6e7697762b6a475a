use Rattle.std.proofs.Common.{ap, sym, ◌∙◌, ◌+◌, take}
use Rattle.std.proofs.lemmas.List.{take_min}
use Rattle.std.specs.Str.{is_utf8}
use Rattle.gno_text.proofs.Parts.{begins_character-front, is_ok-utf8}
use Rattle.gno_text.proofs.quoting.begins_character.Goals as goal

pub returns : goal.returns
returns c =
    let rest = c.args.rest.now in
    let front = rw c.continuation_len-len.ensures at (ap (λ n. take n rest) c.min.ensures ∙ take_min (1 + c.continuation_len-len.result) rest) in
    c.is_ok.ensures.value ∙ is_ok-utf8 _ _ _ _ c.from_utf8.ensures.cases ∙ ap is_utf8 front ∙ sym (begins_character-front rest c.requires)
