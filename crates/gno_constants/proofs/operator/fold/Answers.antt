use Rattle.std.proofs.Common.{◌≡◌, ◌∙◌, to_z, of_z, ap, sym, rules}
use Rattle.std.specs.Int.{w128}
use Rattle.std.specs.Prelude.{FitsSigned}
use Rattle.std.proofs.lemmas.Int.{to_z-of_z}
use Rattle.gno_constants.proofs.Folding as folding
use Rattle.gno_constants.specs.declared.constant.Constant.TheVariants.{Whole}
use Rattle.gno_constants.specs.Exact.{exact, exact_wholes}
use Rattle.gno_constants.proofs.operator.fold.Goals as goal

-- what the operator gives, between the numbers as the code has them
numbers : (c : goal.After-fold_wholes) → exact c.args.op c.args.left.now c.args.right.now ≡ exact_wholes c.args.op (to_z w128 (of_z w128 c.in-Whole-Whole.x)) (to_z w128 (of_z w128 c.in-Whole-Whole.y))
numbers c =
    let fits_x : FitsSigned w128 c.in-Whole-Whole.x = search rules in
    let fits_y : FitsSigned w128 c.in-Whole-Whole.y = search rules in
    folding.of_wholes c.args.op c.args.left.now c.args.right.now _ _
    (c.in-Whole-Whole.is-0 ∙ ap Whole (sym (to_z-of_z w128 c.in-Whole-Whole.x fits_x))) (c.in-Whole-Whole.is-1 ∙ ap Whole (sym (to_z-of_z w128 c.in-Whole-Whole.y fits_y)))

pub returns-in-Whole-Whole-clause-value : goal.returns-in-Whole-Whole-clause-value
returns-in-Whole-Whole-clause-value c = folding.value c.fold_wholes.result _ _ (numbers c) c.fold_wholes.ensures

pub returns-in-Whole-Whole-clause-too_wide : goal.returns-in-Whole-Whole-clause-too_wide
returns-in-Whole-Whole-clause-too_wide c = folding.too_wide c.fold_wholes.result _ _ (numbers c) c.fold_wholes.ensures

pub returns-in-Whole-Whole-clause-by_zero : goal.returns-in-Whole-Whole-clause-by_zero
returns-in-Whole-Whole-clause-by_zero c = folding.by_zero c.fold_wholes.result _ _ (numbers c) c.fold_wholes.ensures

pub returns-in-Whole-Whole-clause-bad_shift : goal.returns-in-Whole-Whole-clause-bad_shift
returns-in-Whole-Whole-clause-bad_shift c = folding.bad_shift c.fold_wholes.result _ _ (numbers c) c.fold_wholes.ensures

pub returns-in-Text-Text-clause-value : goal.returns-in-Text-Text-clause-value
returns-in-Text-Text-clause-value c = folding.text_value c.fold_texts.result _ _ (folding.of_texts _ _ _ _ _ c.in-Text-Text.is-0 c.in-Text-Text.is-1) c.fold_texts.ensures.value

pub returns-in-Bool-Bool-clause-value : goal.returns-in-Bool-Bool-clause-value
returns-in-Bool-Bool-clause-value c = folding.of_bools _ _ _ _ _ c.in-Bool-Bool.is-0 c.in-Bool-Bool.is-1 ∙ c.fold_bools.ensures
