use Rattle.std.proofs.Common.{◌≡◌, ap, ◌∙◌, subst, true}
use Rattle.gno_terms.specs.Lawful.{is_function}
use Rattle.gno_terms.specs.Tables.{Table, type_at}
use Rattle.gno_terms.specs.Terms.{term_of, term_with}
use Rattle.gno_type_texts.proofs.Shelves.{function_at}
use Rattle.gno_type_texts.proofs.tests.shelf.Shelf.is_function.Goals as goal

pub returns-in-Function : goal.returns-in-Function
returns-in-Function c e =
    subst (λ (v : Table). is_function (term_of (type_at v.types c.args.t)) ≡ true) c.self.view_is
    (function_at c.self.inside.table c.args.t c.term.result.now c.term.ensures.is ∙ ap (λ y. is_function (term_with (type_at c.self.inside.table.types) y)) c.in-Function.is)
