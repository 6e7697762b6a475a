use Rattle.std.proofs.Common.{ℤ, sym, subst, rules}
use Rattle.std.specs.Prelude.{IfOk}
use Rattle.std.proofs.lemmas.Int.{to_z-of_z}
use mir.Syntax.{w128}
use mir.Val.{SFits}
use Rattle.gno_constants.specs.declared.constant.Constant.{Constant}
use Rattle.gno_constants.specs.declared.constant.Constant.TheVariants as k
use Rattle.gno_judging.proofs.Answers.{fails}
use Rattle.gno_judging.specs.Answers.{Answers}
use Rattle.gno_judging.specs.Found.{ValueStands}
use Rattle.gno_steps.proofs.ConversionRules.{no_character}
use Rattle.gno_steps.specs.Converting.{character_converted}
use Rattle.gno_type_classes.specs.Unnumbered.{unnumbered}
use Rattle.gno_steps.proofs.conversions.constant_to_text.Goals as goal

pub returns-in-Whole : goal.returns-in-Whole
returns-in-Whole c u of =
    let table = c.args.types.now in
    let fits : SFits w128 c.in-Whole.n = search rules in
    let found = subst (λ (n : ℤ). IfOk c.character_to_text.result (λ r. Answers (character_converted (unnumbered table) c.args.place u (k.Whole n)) (ValueStands table) c.args.faults.now c.character_to_text.new.faults r)) (to_z-of_z w128 c.in-Whole.n fits) (c.character_to_text.ensures u of) in
    subst (λ (x : Constant). IfOk c.character_to_text.result (λ r. Answers (character_converted (unnumbered table) c.args.place u x) (ValueStands table) c.args.faults.now c.character_to_text.new.faults r)) (sym c.in-Whole.is) found

pub returns-in_default : goal.returns-in_default
returns-in_default c u of = fails (ValueStands c.args.types.now) _ 58 c.args.place _ _ _ (no_character (unnumbered c.args.types.now) u c.args.value c.in_default.not-Whole) c.note.ensures
