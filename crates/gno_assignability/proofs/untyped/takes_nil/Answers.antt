use Rattle.std.proofs.Common.{◌≡◌, sym, ap, ◌∙◌}
use Rattle.gno_assignability.proofs.FormsOfRows.{has_nil_itself}
use Rattle.gno_assignability.specs.Assignability.{has_nil}
use Rattle.gno_embedding.proofs.Paths.{same_underlying}
use Rattle.gno_method_sets.proofs.Rows.{below_it, term_is, there}
use Rattle.gno_terms.specs.Tables.{type_at}
use Rattle.gno_terms.specs.Terms.{term_of}
use Rattle.gno_assignability.proofs.untyped.takes_nil.Goals as goal

pub term-requires : goal.term-requires
term-requires c =
    let e = c.underlying.ensures (type_at c.args.types.now.types c.args.to) (there c.args.types.now c.args.to c.requires.below) in
    below_it c.args.types.now c.underlying.result e.0 e.2

pub returns : goal.returns
returns c s is =
    let u = c.underlying.ensures s is in
    let its : has_nil (term_of u.0) ≡ c.has_nil.result = ap has_nil (term_is c.args.types.now c.underlying.result u.0 c.term.result.now u.2 c.term.ensures.is) ∙ has_nil_itself (type_at c.args.types.now.types) c.term.result.now ∙ sym c.has_nil.ensures in (
      λ y. (u.0, u.1, its ∙ y),
      λ v. sym its ∙ ap (λ z. has_nil (term_of z)) (same_underlying c.args.types.now c.have_one_definition.ensures s u.0 v.0 u.1 v.1) ∙ v.2,
    )
