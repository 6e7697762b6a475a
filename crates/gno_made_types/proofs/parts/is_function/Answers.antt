use Rattle.std.proofs.Common.{sym, ap, ◌∙◌}
use Rattle.gno_terms.specs.Lawful.{is_function}
use Rattle.gno_terms.specs.Tables.{type_at}
use Rattle.gno_terms.specs.Terms.{term_with}
use Rattle.gno_type_reading.proofs.Lawfuls.{form_at, no_function}
use Rattle.gno_made_types.proofs.parts.is_function.Goals as goal

pub returns-in-Function : goal.returns-in-Function
returns-in-Function c =
    let table = c.args.types.now in
    sym (ap is_function (form_at table c.args.t c.term.result.now c.term.ensures.is) ∙ ap (λ x. is_function (term_with (type_at table.types) x)) c.in-Function.is)

pub returns-in_default : goal.returns-in_default
returns-in_default c =
    let table = c.args.types.now in
    sym (ap is_function (form_at table c.args.t c.term.result.now c.term.ensures.is) ∙ no_function (type_at table.types) c.term.result.now c.in_default.not-Function)
