use Rattle.std.proofs.Common.{refl, sym, ap, ◌∙◌, rules}
use denote.Enum.Bare.{same_true, true_same}
use Rattle.gno_base.specs.contracts.kind.Kind.{the_type}
use Rattle.gno_terms.specs.Terms.{term_with}
use Rattle.gno_terms.specs.declared.term.TermOf.TheVariants as t
use Rattle.gno_type_classes.proofs.OtherParts.{from_basic, one_kind}
use Rattle.gno_type_classes.proofs.kinds.is_of_kind.Goals as goal

pub returns-in-Basic : goal.returns-in-Basic
returns-in-Basic c f = (
  λ y. ap (term_with f) (c.in-Basic.is ∙ ap t.Basic (same_true the_type (search rules) c.in-Basic.own c.args.kind (sym c.eq.ensures ∙ y))),
  λ e. c.eq.ensures ∙ true_same the_type c.in-Basic.own c.args.kind (one_kind c.in-Basic.own c.args.kind c.args.row.now c.args.row.now c.in-Basic.is (from_basic f c.args.row.now c.args.kind e) refl),
)

pub returns-in_default : goal.returns-in_default
returns-in_default c f = (λ e. absurd (search (rules, e)), λ e. absurd (c.in_default.not-Basic c.args.kind (from_basic f c.args.row.now c.args.kind e)))
