use Rattle.std.proofs.Common.{◌≡◌, sym, ◌∙◌, subst, List, [], ◌∷◌, Option, None, drop, ◌+◌}
use Rattle.gno_scoping.proofs.Scoping.{Going, again, all_met, answered, fresh, from_name, none_left}
use Rattle.gno_scoping.specs.declared.scopes.Distinct as code
use Rattle.gno_tree.specs.declared.word.Name.{Name}
use Rattle.gno_typing.specs.declared.fault.Fault.{Fault}
use Rattle.gno_scoping.proofs.scopes.Scoped.distinct.Goals.{then-branch, else-branch}
use Rattle.gno_scoping.proofs.scopes.Scoped.distinct.Goals as goal

pub loop-name-preserved : goal.loop-name-preserved
loop-name-preserved c before holds =
    let rest : List Name = drop (c.loop-name.name-index + 1) c.args.names.now in
    let going : Going c.args.faults.now before c.args.names.now (c.name-item.result ∷ rest) c.loop-name.self.met c.loop-name.faults c.loop-name.found = subst (λ (names : List Name). Going c.args.faults.now before c.args.names.now names c.loop-name.self.met c.loop-name.faults c.loop-name.found)
    (from_name c.args.names.now c.loop-name.name-index c.name-item.result c.loop-name-test.true c.name-item.is) (c.loop-name.invariant before holds) in
    let repeated = c.in_ok-repeats.ensures going.met going.holds in
    elim c.if-branch.branch [
      | then-branch w ↦ subst (λ (found : Option code.Distinct). Going c.args.faults.now before c.args.names.now rest c.repeats.new.self.met c.if-branch.faults found) (sym w.found-is)
          (again c.args.faults.now before c.args.names.now c.name-item.result rest c.loop-name.self.met c.repeats.new.self.met c.loop-name.faults c.if-branch.faults c.loop-name.found going repeated.1 (sym repeated.0 ∙ w.if-branch.true) (w.faults-is ∙ w.note.ensures))
      | else-branch w ↦ subst (λ (found : Option code.Distinct). Going c.args.faults.now before c.args.names.now rest c.repeats.new.self.met c.if-branch.faults found) (sym w.found-is)
          (subst (λ (faults : Option Fault). Going c.args.faults.now before c.args.names.now rest c.repeats.new.self.met faults c.loop-name.found) (sym w.faults-is)
          (fresh c.args.faults.now before c.args.names.now c.name-item.result rest c.loop-name.self.met c.repeats.new.self.met c.loop-name.faults c.if-branch.faults c.loop-name.found going repeated.1 (sym repeated.0 ∙ w.if-branch.false)))
    ]

pub returns-clause-answers : goal.returns-clause-answers
returns-clause-answers c before holds = answered c.args.faults.now before c.args.names.now c.loop-name.self.met c.loop-name.faults c.loop-name.found
    (subst (λ (names : List Name). Going c.args.faults.now before c.args.names.now names c.loop-name.self.met c.loop-name.faults c.loop-name.found) (none_left c.args.names.now c.loop-name.name-index c.loop-name-test.false) (c.loop-name.invariant before holds))

pub returns-clause-holds : goal.returns-clause-holds
returns-clause-holds c before holds = all_met c.args.faults.now before c.args.names.now c.loop-name.self.met c.loop-name.faults c.loop-name.found
    (subst (λ (names : List Name). Going c.args.faults.now before c.args.names.now names c.loop-name.self.met c.loop-name.faults c.loop-name.found) (none_left c.args.names.now c.loop-name.name-index c.loop-name-test.false) (c.loop-name.invariant before holds))
