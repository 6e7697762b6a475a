use Rattle.std.proofs.Common.{sym, ap, ◌∙◌}
use Rattle.gno_terms.specs.Lawful.{is_slice}
use Rattle.gno_terms.specs.Tables.{type_at}
use Rattle.gno_terms.specs.Terms.{term_with}
use Rattle.gno_type_reading.proofs.Lawfuls.{form_at, no_slice}
use Rattle.gno_made_types.proofs.parts.is_slice.Goals as goal

pub returns-in-Slice : goal.returns-in-Slice
returns-in-Slice c =
    let table = c.args.types.now in
    sym (ap is_slice (form_at table c.args.t c.term.result.now c.term.ensures.is) ∙ ap (λ x. is_slice (term_with (type_at table.types) x)) c.in-Slice.is)

pub returns-in_default : goal.returns-in_default
returns-in_default c =
    let table = c.args.types.now in
    sym (ap is_slice (form_at table c.args.t c.term.result.now c.term.ensures.is) ∙ no_slice (type_at table.types) c.term.result.now c.in_default.not-Slice)
