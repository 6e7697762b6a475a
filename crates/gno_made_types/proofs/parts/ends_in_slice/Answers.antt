use Rattle.std.proofs.Common.{◌≡◌, sym, ◌∙◌, arith, true}
use Rattle.gno_terms.specs.Lawful.{is_slice}
use Rattle.gno_terms.specs.Tables.{type_at}
use Rattle.gno_terms.specs.Terms.{term_of}
use Rattle.gno_type_reading.proofs.Lawfuls.{last_at}
use Rattle.gno_made_types.proofs.parts.ends_in_slice.Goals as goal

pub returns-in-len1-up : goal.returns-in-len1-up
returns-in-len1-up c =
    let same = last_at (λ s. is_slice (term_of s) ≡ true) (type_at c.args.types.now.types) c.args.parts.now (record { 0 = 0 }) (omega (arith, c.in-len1-up.len_at_least)) in
    (λ h. same.1 (sym c.is_slice.ensures ∙ h), λ h. c.is_slice.ensures ∙ same.0 h)
