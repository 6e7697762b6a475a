use Rattle.std.proofs.Common.{◌≡◌, sym, ap, ◌∙◌, ◌&&◌}
use Rattle.gno_assignability.proofs.FormsOfRows.{is_named_itself}
use Rattle.gno_assignability.specs.Assignability.{is_named}
use Rattle.gno_method_sets.proofs.Rows.{term_is}
use Rattle.gno_terms.specs.Tables.{type_at}
use Rattle.gno_terms.specs.Terms.{term_of}
use Rattle.gno_assignability.proofs.values.are_named.Goals as goal

pub returns-then-is_named : goal.returns-then-is_named
returns-then-is_named c s u is own =
    let first : is_named (term_of s) ≡ c.is_named.result = ap is_named (term_is c.args.types.now c.args.from s c.term.result.now is c.term.ensures.is) ∙ is_named_itself (type_at c.args.types.now.types) c.term.result.now ∙ sym c.is_named.ensures in
    let second : is_named (term_of u) ≡ c.is_named-then-is_named.result = ap is_named (term_is c.args.types.now c.args.to u c.term-then-is_named.result.now own c.term-then-is_named.ensures.is) ∙ is_named_itself (type_at c.args.types.now.types) c.term-then-is_named.result.now ∙ sym c.is_named-then-is_named.ensures in
    sym second ∙ sym (ap (λ b. b && is_named (term_of u)) (first ∙ c.if-is_named.true))

pub returns-else-is_named : goal.returns-else-is_named
returns-else-is_named c s u is own =
    let first : is_named (term_of s) ≡ c.is_named.result = ap is_named (term_is c.args.types.now c.args.from s c.term.result.now is c.term.ensures.is) ∙ is_named_itself (type_at c.args.types.now.types) c.term.result.now ∙ sym c.is_named.ensures in
    c.if-is_named.false ∙ sym (ap (λ b. b && is_named (term_of u)) (first ∙ c.if-is_named.false))
