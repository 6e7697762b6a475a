use Rattle.std.proofs.Common.{sym, ap, ◌∙◌, subst, [], ◌∷◌, map, false, List}
use Rattle.std.specs.Prelude.{IfOk}
use Rattle.gno_terms.specs.declared.term.GoType.{GoType}
use Rattle.gno_terms.specs.declared.term.TypeRef.{TypeRef}
use Rattle.gno_terms.specs.declared.term.TermOf.TheVariants as v
use Rattle.gno_terms.specs.Lawful.{IsLawfulFunction}
use Rattle.gno_terms.specs.Normal.{normal}
use Rattle.gno_terms.specs.Tables.{Is, deep, type_at}
use Rattle.gno_type_table.proofs.ErrorType.{function_is, function_lawful}
use Rattle.gno_type_table.proofs.predeclared.error_function.Goals as goal

pub intern-requires-clause-lawful : goal.intern-requires-clause-lawful
intern-requires-clause-lawful c =
    subst (λ (rs : List TypeRef). IsLawfulFunction (map (type_at c.args.rows.now.types) c.new.result) false (map (type_at c.args.rows.now.types) rs)) (sym c.in_ok-results.ensures)
    (subst (λ (ps : List TypeRef). IsLawfulFunction (map (type_at c.args.rows.now.types) ps) false (map (type_at c.args.rows.now.types) (c.args.text ∷ []))) (sym c.new.ensures)
    (function_lawful c.args.rows.now.types c.args.text c.requires))

pub returns-clause-is : goal.returns-clause-is
returns-clause-is c =
    subst (λ (s : GoType). IfOk c.intern.result (λ (t : TypeRef). Is c.intern.new.self t s))
    (ap (λ (ps : List TypeRef). normal (deep c.args.rows.now.types (v.Function ps false c.in_ok-results.results))) c.new.ensures
    ∙ ap (λ (rs : List TypeRef). normal (deep c.args.rows.now.types (v.Function [] false rs))) c.in_ok-results.ensures
    ∙ function_is c.args.rows.now.types c.args.text c.requires)
    c.intern.ensures.is
