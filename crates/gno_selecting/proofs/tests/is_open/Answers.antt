use Rattle.std.proofs.Common.{◌≡◌, sym, ap, ◌∙◌, rules}
use Rattle.std.proofs.lemmas.Option.{slice_get_within}
use Rattle.gno_terms.specs.Tables.{type_at, type_or}
use Rattle.gno_terms.specs.Terms.{term_of, term_with}
use Rattle.gno_type_rows.proofs.Pushed.{at_it, term_of_type}
use Rattle.gno_type_rows.specs.RowTypes.{is_defined}
use Rattle.gno_selecting.proofs.tests.is_open.Goals as goal

pub returns-in-Defined-clause-defined : goal.returns-in-Defined-clause-defined
returns-in-Defined-clause-defined c y =
    ap (λ o. is_defined (term_of (type_or o))) c.term.ensures.is
    ∙ ap is_defined (term_of_type (term_with (type_at c.args.types.now.types) c.term.result.now))
    ∙ ap (λ x. is_defined (term_with (type_at c.args.types.now.types) x)) c.in-Defined.is

pub returns-in-Defined-clause-new : goal.returns-in-Defined-clause-new
returns-in-Defined-clause-new c y d h e =
    let there = at_it c.args.types.now.types c.args.t (slice_get_within c.args.types.now.types c.args.t.0 _ c.term.ensures.is) in
    let defined = (c.is_defined.ensures (type_at c.args.types.now.types c.args.t) there).1 (d, h, e) in
    search (rules, y, defined)
