use Rattle.std.proofs.Common.{◌≡◌, refl, ap, sym, ◌∙◌, Bool, true, false, not}
use Rattle.gno_type_reading.proofs.NameTests.{name_is, name_no_keyword}
use Rattle.gno_type_reading.proofs.names.is_name.Goals as goal

turned : (b : Bool) → not b ≡ true → b ≡ false
turned true e = sym e
turned false e = refl

pub returns-then-is_identifier : goal.returns-then-is_identifier
returns-then-is_identifier c =
    let i = c.is_identifier.ensures.0 c.if-is_identifier.true in
    (λ h. name_is c.args.text.now i (sym c.is_keyword.ensures ∙ turned c.is_keyword.result h), λ n. ap not (c.is_keyword.ensures ∙ name_no_keyword c.args.text.now n))
