use Rattle.std.proofs.Common.{ap, sym, ◌∙◌, true≢false}
use Rattle.std.specs.Str.{chars}
use Rattle.gno_type_reading.specs.Spellings.{are_letters}
use Rattle.gno_type_reading.proofs.NameTests.{identifier_is, identifier_seen, utf8_of}
use Rattle.gno_type_reading.proofs.names.is_identifier.Goals as goal

pub returns-in-Ok : goal.returns-in-Ok
returns-in-Ok c =
    let word = c.args.text.now in
    let e = c.are_letters.ensures ∙ ap (λ w. are_letters (chars w)) c.in-Ok.ensures.cases.0 in
    (λ h. identifier_is word c.in-Ok.ensures.cases.1 (sym e ∙ h), λ i. e ∙ identifier_seen word i)

pub returns-in-Err : goal.returns-in-Err
returns-in-Err c = (λ h. absurd (true≢false (sym h)), λ i. absurd (c.in-Err.ensures.cases.0 (utf8_of c.args.text.now i)))
