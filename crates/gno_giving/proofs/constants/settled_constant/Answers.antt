use Rattle.std.proofs.Common.{sym, ◌∙◌, true, false}
use Rattle.gno_giving.proofs.Defaults.{settled_by, typed_by, untyped_by}
use Rattle.gno_giving.specs.InTypes.{InTypeStands}
use Rattle.gno_judging.proofs.Answers.{gives}
use Rattle.gno_judging.specs.Found.{FormStands as form}
use Rattle.gno_judging.specs.Stands.{Stands as stands}
use Rattle.gno_terms.specs.Terms.{term_of}
use Rattle.gno_type_classes.specs.Unnumbered.{unnumbered}
use Rattle.gno_giving.proofs.constants.settled_constant.Goals as goal

pub returns-in-Some : goal.returns-in-Some
returns-in-Some c s basics is =
    let table = c.args.types.now in
    let default = sym (c.default_kind.ensures s is.is) ∙ c.in-Some.is in
    settled_by (InTypeStands table) (unnumbered table) c.args.at s c.args.value true (untyped_by (term_of s) c.in-Some.kind default) _ _ _ (c.default_constant.ensures table (unnumbered table) s basics default)

pub returns-in-None : goal.returns-in-None
returns-in-None c s basics is =
    let table = c.args.types.now in
    let default = sym (c.default_kind.ensures s is.is) ∙ c.in-None.is in
    let typed = typed_by (term_of s) default is.no_nil in
    settled_by (InTypeStands table) (unnumbered table) c.args.at s c.args.value false typed _ _ _
    (gives (InTypeStands table) _ _ _ (record { of = record { is = is.is; typed = typed }; form = form.whole (stands.constant c.args.at c.args.value is.is) }))
