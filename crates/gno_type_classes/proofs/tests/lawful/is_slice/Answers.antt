use Rattle.std.proofs.Common.{◌≡◌, ap, ◌∙◌}
use Rattle.gno_terms.specs.Lawful.{is_slice}
use Rattle.gno_terms.specs.Tables.{type_at, type_or}
use Rattle.gno_terms.specs.Terms.{term_of, term_with}
use Rattle.gno_type_rows.proofs.Pushed.{term_of_type}
use Rattle.gno_type_classes.proofs.tests.lawful.is_slice.Goals as goal

pub returns-in-Slice : goal.returns-in-Slice
returns-in-Slice c y =
    ap (λ o. is_slice (term_of (type_or o))) c.term.ensures.is
    ∙ ap is_slice (term_of_type (term_with (type_at c.args.types.now.types) c.term.result.now))
    ∙ ap (λ x. is_slice (term_with (type_at c.args.types.now.types) x)) c.in-Slice.is
