use Rattle.std.proofs.Common.{sym, ap, ◌∙◌}
use Rattle.std.specs.Prelude.{option_map}
use Rattle.gno_assignability.proofs.Assigning.{for_untyped, for_values}
use Rattle.gno_assignability.proofs.FormsOfRows.{default_kind_itself, without_default}
use Rattle.gno_assignability.specs.Assignability.{default_kind}
use Rattle.gno_method_sets.proofs.Rows.{term_is}
use Rattle.gno_terms.specs.Tables.{type_at}
use Rattle.gno_terms.specs.Terms.{term_of}
use Rattle.gno_assignability.proofs.assign.takes.Goals as goal

pub returns-in-Some : goal.returns-in-Some
returns-in-Some c s u is own =
    for_untyped c.args.types.now s (option_map (λ it. it.now) c.args.constant) u (c.requires.different s u is own) c.takes_untyped.result c.in-Some.default
    (ap default_kind (term_is c.args.types.now c.args.from s c.term.result.now is c.term.ensures.is) ∙ default_kind_itself (type_at c.args.types.now.types) c.term.result.now ∙ sym c.default_kind.ensures ∙ c.in-Some.is)
    (c.takes_untyped.ensures u own)

pub returns-in-None : goal.returns-in-None
returns-in-None c s u is own =
    for_values c.args.types.now s (option_map (λ it. it.now) c.args.constant) u (c.requires.different s u is own) c.takes_values.result
    (without_default (term_of s) (c.requires.not_nil s is)
    (ap default_kind (term_is c.args.types.now c.args.from s c.term.result.now is c.term.ensures.is) ∙ default_kind_itself (type_at c.args.types.now.types) c.term.result.now ∙ sym c.default_kind.ensures ∙ c.in-None.is))
    (c.takes_values.ensures s u is own)
