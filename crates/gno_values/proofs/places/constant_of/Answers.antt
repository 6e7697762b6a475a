use Rattle.std.proofs.Common.{refl, sym, subst, ◌∙◌, Bool, true, false}
use Rattle.std.specs.Prelude.{IfOk}
use Rattle.gno_giving.proofs.Defaults.{typed_by, untyped_by}
use Rattle.gno_judging.specs.Answers.{Answers}
use Rattle.gno_judging.specs.Found.{FormStands}
use Rattle.gno_judging.specs.Found.{FormStands as form}
use Rattle.gno_judging.specs.Stands.{Stands as stands}
use Rattle.gno_terms.specs.Terms.{term_of}
use Rattle.gno_type_classes.specs.Unnumbered.{unnumbered}
use Rattle.gno_typing.specs.Giving.{constant_of}
use Rattle.gno_values.proofs.places.constant_of.Goals as goal

pub returns-in-Some : goal.returns-in-Some
returns-in-Some c u s basics is own =
    let default = sym (c.default_kind.ensures s own.is) ∙ c.in-Some.is in
    subst (λ (b : Bool). IfOk c.constant_given.result (λ r. Answers (constant_of b (unnumbered c.args.types.now) c.args.code c.args.at u c.args.pos s c.args.value) (FormStands c.args.types.now) c.args.faults.now c.constant_given.new.faults r))
    (sym (untyped_by (term_of s) c.in-Some.kind default)) (c.constant_given.ensures u s basics is default)

pub returns-in-None : goal.returns-in-None
returns-in-None c u s basics is own =
    let default = sym (c.default_kind.ensures s own.is) ∙ c.in-None.is in
    subst (λ (b : Bool). IfOk c.typed_given.result (λ r. Answers (constant_of b (unnumbered c.args.types.now) c.args.code c.args.at u c.args.pos s c.args.value) (FormStands c.args.types.now) c.args.faults.now c.typed_given.new.faults r))
    (sym (typed_by (term_of s) default own.no_nil)) (c.typed_given.ensures u s _ is own.is (form.whole (stands.constant c.args.pos c.args.value own.is)))
