use Rattle.std.proofs.Common.{sym, ap, ◌∙◌}
use Rattle.gno_promotion.specs.MethodSets.{is_interface}
use Rattle.gno_terms.specs.Tables.{type_at}
use Rattle.gno_terms.specs.Terms.{term_with}
use Rattle.gno_method_sets.proofs.Rows.{below_it, there, term_is, no_interface}
use Rattle.gno_method_sets.proofs.receiver.is_interface.Goals as goal

pub term-requires : goal.term-requires
term-requires c =
    let e = c.underlying.ensures (type_at c.args.types.now.types c.args.t) (there c.args.types.now c.args.t c.requires.below) in
    below_it c.args.types.now c.underlying.result e.0 e.2

pub returns-in-Interface : goal.returns-in-Interface
returns-in-Interface c s is =
    let e = c.underlying.ensures s is in
    (e.0, e.1, sym (ap is_interface (term_is c.args.types.now c.underlying.result e.0 c.term.result.now e.2 c.term.ensures.is ∙ ap (term_with (type_at c.args.types.now.types)) c.in-Interface.is)))

pub returns-in_default : goal.returns-in_default
returns-in_default c s is =
    let e = c.underlying.ensures s is in
    (e.0, e.1, sym (ap is_interface (term_is c.args.types.now c.underlying.result e.0 c.term.result.now e.2 c.term.ensures.is) ∙ no_interface (type_at c.args.types.now.types) c.term.result.now c.in_default.not-Interface))
