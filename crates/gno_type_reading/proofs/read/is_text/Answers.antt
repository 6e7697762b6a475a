use Rattle.std.proofs.Common.{sym, ◌∙◌}
use Rattle.std.proofs.lemmas.Slice.Eq.{bytes_eq-Decides}
use Rattle.gno_type_reading.proofs.read.is_text.Goals as goal

pub returns : goal.returns
returns c =
    let same = bytes_eq-Decides c.as_slice.result.now c.args.text.now in
    (λ h. sym c.as_slice.ensures ∙ same.0 (sym c.eq.ensures ∙ h), λ h. c.eq.ensures ∙ same.1 (c.as_slice.ensures ∙ h))
