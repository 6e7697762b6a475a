use Rattle.std.proofs.Common.{rules, List, sym, ◌∙◌, subst}
use Rattle.gno_script.specs.declared.item.Item.{Item}
use Rattle.gno_script.specs.declared.stage.Stage.TheVariants.{Between}
use Rattle.gno_script.proofs.Progress.{SoFar, at_start, onto_next, at_fault, at_end, at_missing}
use Rattle.gno_script.proofs.script.read_script.Goals as goal

pub loop-rest-init : goal.loop-rest-init
loop-rest-init c = subst (λ (items : List Item). SoFar c.args.bytes.now c.args.bytes.now items Between 1) (sym c.new-items.ensures) (at_start c.args.bytes.now)

pub returns-in_default-step-clause-line : goal.returns-in_default-step-clause-line
returns-in_default-step-clause-line c =
    at_fault _ _ c.first_line.result.1.now c.first_line.result.0.now _ _ _ c.loop-rest.invariant c.first_line.ensures.lines (sym c.in_default-step.is ∙ c.in-Ok.ensures)

pub loop-rest-preserved : goal.loop-rest-preserved
loop-rest-preserved c =
    onto_next _ _ c.first_line.result.1.now c.first_line.result.0.now c.loop-rest.items c.push_found.new.items _ c.in-Some.field-0 _ c.loop-rest.invariant c.first_line.ensures.lines c.first_line.ensures.shorter
    (sym c.in-Ok.ensures ∙ c.in-Some.is) (search rules)

pub returns-in-Between-clause-items : goal.returns-in-Between-clause-items
returns-in-Between-clause-items c = at_end _ _ _ _ _ c.loop-rest.invariant (search rules) c.in-Between.is

pub returns-in_default-stage : goal.returns-in_default-stage
returns-in_default-stage c = record { items = tt; line = at_missing _ _ _ _ _ c.loop-rest.invariant (search rules) c.in_default-stage.not-Between }
