use Rattle.std.proofs.Common.{◌≡◌, sym, ap, ◌∙◌, subst, [], ◌∷◌, ◌++◌, map, false, List, ℕ}
use Rattle.std.specs.Prelude.{IfOk, codes}
use Rattle.gno_terms.specs.declared.term.GoType.{GoType}
use Rattle.gno_terms.specs.declared.term.TypeRef.{TypeRef}
use Rattle.gno_terms.specs.declared.term.MethodOf.{MethodOf}
use Rattle.gno_terms.specs.declared.term.TermOf.TheVariants as v
use Rattle.gno_terms.specs.Lawful.{Each, IsLawfulMethod}
use Rattle.gno_terms.specs.Normal.{normal}
use Rattle.gno_terms.specs.Tables.{Is, deep, type_at}
use Rattle.gno_terms.specs.Terms.{method_with}
use Rattle.gno_type_table.proofs.ErrorType.{interface_is, interface_lawful}
use Rattle.gno_type_table.proofs.predeclared.interface_of.Goals as goal

abbrev method : List ℕ → List ℕ → TypeRef → MethodOf TypeRef
method name path r = record { name = name; «package» = path; of = r; pointer = false }

one : (ms before : List (MethodOf TypeRef)) (name path : List ℕ) (r : TypeRef) → ms ≡ before ++ method name path r ∷ [] → before ≡ [] → name ≡ codes "Error" → path ≡ [] → ms ≡ method (codes "Error") [] r ∷ []
one ms before name path r e b n p = e ∙ ap (λ l. l ++ method name path r ∷ []) b ∙ ap (λ x. method x path r ∷ []) n ∙ ap (λ x. method (codes "Error") x r ∷ []) p

pub intern-requires-clause-lawful : goal.intern-requires-clause-lawful
intern-requires-clause-lawful c =
    subst (λ (ms : List (MethodOf TypeRef)). Each IsLawfulMethod (map (method_with (type_at c.args.rows.now.types)) ms))
    (sym (one c.push.new.self c.new-methods.result c.in_ok-from_slice.field-0 c.new.result c.args.function c.in_ok-push.ensures.ok c.new-methods.ensures c.in_ok-from_slice.ensures c.new.ensures))
    (interface_lawful c.args.rows.now.types c.args.function c.requires)

pub returns-clause-is : goal.returns-clause-is
returns-clause-is c =
    subst (λ (s : GoType). IfOk c.intern.result (λ (t : TypeRef). Is c.intern.new.self t s))
    (ap (λ (ms : List (MethodOf TypeRef)). normal (deep c.args.rows.now.types (v.Interface ms)))
    (one c.push.new.self c.new-methods.result c.in_ok-from_slice.field-0 c.new.result c.args.function c.in_ok-push.ensures.ok c.new-methods.ensures c.in_ok-from_slice.ensures c.new.ensures)
    ∙ interface_is c.args.rows.now.types c.args.function c.requires)
    c.intern.ensures.is
