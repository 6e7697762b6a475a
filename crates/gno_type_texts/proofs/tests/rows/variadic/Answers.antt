use Rattle.std.proofs.Common.{◌≡◌, sym, subst, true, List, map}
use Rattle.gno_terms.specs.declared.term.TypeRef.{TypeRef}
use Rattle.gno_terms.specs.Lawful.{Last, is_slice}
use Rattle.gno_terms.specs.Tables.{type_at}
use Rattle.gno_terms.specs.Terms.{term_of}
use Rattle.gno_type_texts.specs.Shelves.{AreTyped}
use Rattle.gno_type_texts.proofs.Shelves.{function_lawful}
use Rattle.gno_type_texts.proofs.tests.rows.variadic.Goals as goal

pub add-requires-clause-lawful : goal.add-requires-clause-lawful
add-requires-clause-lawful c =
    function_lawful c.args.shelf.now c.in_ok-params.params c.in_ok-results.results true
    (subst (AreTyped c.args.shelf.now) (sym c.in_ok-params.ensures) (c.in_ok-first.ensures, (c.in_ok-rest.ensures, tt)))
    c.in_ok-results.ensures
    (λ e. subst (λ (l : List TypeRef). Last (λ s. is_slice (term_of s) ≡ true) (map (type_at c.args.shelf.now.types) l)) (sym c.in_ok-params.ensures) (c.is_slice.ensures c.if-is_slice.true))
